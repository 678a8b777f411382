-- `list_sized`: a size out of range refutes the sizes, and sides that are in theirs complete them. Assumes nothing.
use Rattle.std.proofs.Common.{◌≡◌, ℕ, ◌*◌, ◌≤◌, Bool, true, false, sym, refl, arith}
use Rattle.std.proofs.lemmas.Grind.{common_steps}
use Rattle.laws.proofs.Groups.{not_list_sized, is_list_sized}
use Rattle.meaning.specs.Groups.{list_sized}
use Rattle.groups.proofs.lists.list_sized.Goals as goal

-- where the count and v are in their ranges, the size of a side decides
by_side : (count v p : ℕ) (b : Bool) → 1 ≤ count → count ≤ 1300 → v ≤ 50 → (b ≡ true → 1 ≤ p) → (b ≡ true → 2 * p ≤ v) → (b ≡ false → 1 ≤ p → 2 * p ≤ v → ⊥) →
    b ≡ list_sized count v p
by_side count v p true a b c d e f = sym (is_list_sized count v p (record { count-least = a; count_most = b; v_most = c; p_least = d refl; sides-fit = e refl }))
by_side count v p false a b c d e f = sym (not_list_sized count v p (λ s. f refl s.p_least s.sides-fit))

pub returns-then-v-le50 : goal.returns-then-v-le50
returns-then-v-le50 c =
    by_side c.args.count c.args.v c.args.p _ (grind (arith, common_steps)) (grind (arith, common_steps)) (grind (arith, common_steps))
    (λ e. grind (arith, common_steps)) (λ e. grind (arith, common_steps)) (λ e l m. grind (arith, common_steps))

pub returns-else-v-le50 : goal.returns-else-v-le50
returns-else-v-le50 c = grind (arith, common_steps, not_list_sized)
