-- `sizes_refusal`: each way out rewrites the chain by the tests that led there. Assumes nothing.
use Rattle.std.proofs.Common.{◌≡◌, ◌*◌, ◌≤◌, ◌<◌, ◌&&◌, ℕ, Bool, true, false, length, sym, ◌∙◌, refl, arith, eq-eqb, ne_eqb, le-leb}
use Rattle.std.proofs.lemmas.Grind.{common_steps}
use borrow.Author.Tests.{leb-true}
use native.Mathlib.Nat.{mul-le-mul, mul-le-mul_left}
use Rattle.records.specs.declared.Head.{Head}
use Rattle.meaning.specs.Design.{sized, objects, list_length}
use Rattle.meaning.specs.Refusals.{refused}
use Rattle.laws.proofs.Chains.{fits, listed-most, test_no}
use Rattle.design.proofs.Within.{within-sizes}
use Rattle.groups.specs.Base.{sizes_verdict}
use Rattle.groups.proofs.base.sizes_refusal.Goals as goal
use Rattle.groups.proofs.base.sizes_refusal.Goals.{then-not-contains-via-then-not-contains, then-not-contains-via-else-not-contains+then-g-objects-gt50}

pub returns-then-not-sized : goal.returns-then-not-sized
unfolding sizes_verdict
returns-then-not-sized c =
    let e : sized c.args.head ≡ false = cc in
    rw e refl

pub overflow_mul-p : goal.overflow_mul-p
overflow_mul-p c =
    let e : sized c.args.head ≡ true = cc in
    let f = fits _ e in
    omega arith

pub overflow_mul-p-2 : goal.overflow_mul-p-2
overflow_mul-p-2 c =
    let e : sized c.args.head ≡ true = cc in
    omega (arith, listed-most _ (fits _ e))

pub returns-then-blocks-p : goal.returns-then-blocks-p
unfolding sizes_verdict
returns-then-blocks-p c =
    let e : sized c.args.head ≡ true = cc in
    rw (e, ne_eqb _ _ c.if-blocks-p.true) refl

pub overflow_mul-g : goal.overflow_mul-g
overflow_mul-g c =
    let e : sized c.args.head ≡ true = cc in
    let f = fits _ e in
    let few : c.args.g ≤ 50 = grind (arith, common_steps) in
    let most : c.objects.result ≤ 50 = omega (arith, c.objects.ensures ∙ within-sizes c.args.head (objects c.args.head) f, f.objects-most) in
    omega (arith, mul-le-mul few most)

both : (a b : Bool) → (a ≡ true → b ≡ true → ⊥) → a && b ≡ false
both true true n = absurd (n refl refl)
both true false n = refl
both false b n = refl

-- a g that is out of range, or has too many members, is refused
module _ (h : Head) (len g : ℕ) (e : sized h ≡ true) (l : len ≡ list_length h) where
  few : g * objects h ≤ 50 → g ≤ 50
  few n =
      let three : 3 ≤ objects h = omega (arith, (fits h e).n_least) in
      omega (arith, n, mul-le-mul_left g three)

  unfit : (2 ≤ g → g * objects h ≤ 50 → ⊥) → refused 14 0 ≡ sizes_verdict h len g
  unfolding sizes_verdict
  unfit n = rw (e, eq-eqb _ _ l) (sym (test_no _ 14 0 (both _ _ (λ x y. n (leb-true _ _ x) (leb-true _ _ y)))))

pub returns-then-not-contains : goal.returns-then-not-contains
returns-then-not-contains c =
    let e : sized c.args.head ≡ true = cc in
    unfit c.args.head (length c.args.blocks.now) c.args.g e c.if-blocks-p.false (λ m n.
    elim c.then-not-contains.branch [
      | then-not-contains-via-then-not-contains w ↦
          let k : c.args.g ≤ 50 = few c.args.head (length c.args.blocks.now) c.args.g e c.if-blocks-p.false n in
          grind (arith, common_steps)
      | then-not-contains-via-else-not-contains+then-g-objects-gt50 w ↦
          let v = w.objects.ensures ∙ within-sizes c.args.head (objects c.args.head) (fits _ e) in
          let wide : 50 < c.args.g * objects c.args.head = rw v at w.if-g-objects-gt50.true in
          omega (arith, wide, n)
    ])

pub returns : goal.returns
unfolding sizes_verdict
returns c =
    let e : sized c.args.head ≡ true = cc in
    let v = c.objects.ensures ∙ within-sizes c.args.head (objects c.args.head) (fits _ e) in
    let large : 2 ≤ c.args.g = grind (arith, common_steps) in
    let narrow : c.args.g * objects c.args.head ≤ 50 = rw v at c.if-g-objects-gt50.false in
    rw (e, eq-eqb _ _ c.if-blocks-p.false, le-leb 2 c.args.g large, le-leb (c.args.g * objects c.args.head) 50 narrow) refl
