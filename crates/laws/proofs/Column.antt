-- The published column adds up. A value is its floor and a part below one hundredth. Over the members the values add to M, so their parts add to whole
-- hundredths, the shortfall. Where each member has a key of its own, of the members taken by falling keys exactly s have fewer than s before them: so
-- as many gain one as the shortfall has hundredths, and none whose part is 0.
--     shortfall-exact, shortfall-below   what the floors leave of 100·M is at least 0 and below t
--     as_many_gain, column_adds_up       that many members gain one, and the members' hundredths add to 100·M
--     job_member_near, job_other_near    members are less than one hundredth away, the others at most a half
-- Assumes nothing.
use mathlib.Core.Path.{◌≡◌, refl, sym, ◌∙◌, ap, ap₂, subst}
use mathlib.Core.Logic.{◌⊎◌, inl, inr}
use mathlib.Core.Bool.{Bool, cond, ◌&&◌, ◌||◌}
use mathlib.Core.List.{List}
use Prim.Native.Nat.{ℕ, zero, suc, ◌+◌, ◌-◌, ◌*◌, ◌/◌, ◌%◌, ◌^◌, ◌≤◌, ◌<◌}
use native.Mathlib.Nat.{mod-lt, div-add-mod', mul-le-mul_left, mul-le-mul_right, mul-pos}
use native.Mathlib.Omega.{arith}
use native.Mathlib.Decide.{dec_lt, dec_le, ℕ_discrete}
use lib.Dec.{eqb, ltb}
use lib.IntN.{ℤ, pos, negsuc, nat_abs, ◌+ℤ◌, ◌-ℤ◌, ◌*ℤ◌}
use borrow.Author.Tests.{lt-ltb, le-ltb, eq-eqb, ne_eqb}
use Rattle.algebra.specs.Ranges.{sum, sum_ℕ}
use Rattle.algebra.proofs.Solver.{◌⊕◌, ◌⊗◌, ◌⊝◌, ⊖◌, #, ◌≐◌, ring₂, ring₃, ring₄, ring₅}
use Rattle.algebra.proofs.Order.{pos_inj, pos_sub, comb₁}
use Rattle.algebra.proofs.Bounds.{abs-*, abs_neg, abs_sub}
use Rattle.algebra.proofs.Sums.{sum_ext, sum_add, sum-scale, sum_scale_r, pos_sum, sumℕ_cong, sumℕ_add, sumℕ-scale, sumℕ_le, sumℕ_delta}
use Rattle.records.specs.declared.Head.{Head}
use Rattle.meaning.specs.Design.{objects}
use Rattle.meaning.specs.Analysis.{member, members, restrained, numerator_of, denominator_of}
use Rattle.meaning.specs.Publishing.{floor, part, before, rank, shortfall, nearest_hundredths, member_hundredths, hundredths_in, published}
use Rattle.laws.proofs.Chains.{Job}
use Rattle.laws.proofs.Analysis.{restraint-kept, job-members, job-denominator}
use Rattle.laws.proofs.RoundingPublished.{published-near, published-even}

-- ---- floors and parts

-- a / d is its floor and its part
pub floor-part : (a : ℤ) (d : ℕ) → 0 < d → a ≡ floor a d *ℤ pos d +ℤ pos (part a d)
floor-part (pos n) d l = ap pos (sym (div-add-mod' n d))
floor-part (negsuc n) d l = comb₁ (pos 1) (ap pos whole)
    (ring₄ (λ n s d r. ⊖ n ⊝ ((⊖ s) ⊗ d ⊕ r) ≐ # 1 ⊗ (s ⊗ d ⊝ (n ⊕ r))) (pos (suc n)) (pos (suc (n / d))) (pos d) (pos (d - 1 - n % d)) refl)
  where
    whole : suc (n / d) * d ≡ suc n + (d - 1 - n % d)
    whole = omega (arith, div-add-mod' n d, mod-lt n l)

-- a part is below one
pub part-less : (a : ℤ) (d : ℕ) → 0 < d → part a d < d
part-less (pos n) d l = mod-lt n l
part-less (negsuc n) d l = omega arith

-- ---- keys: of those taken by falling keys, exactly s have fewer than s before them

-- 1 for true, 0 for false
abbrev bit : Bool → ℕ
bit t = cond t 1 0

bit_yes : (a b : ℕ) → a < b → bit (ltb a b) ≡ 1
bit_yes a b l = ap bit (lt-ltb a b l)

bit_no : (a b : ℕ) → b ≤ a → bit (ltb a b) ≡ 0
bit_no a b l = ap bit (le-ltb a b l)

-- two tests that say the same
same_bit : (a s b t : ℕ) → (a < s → b < t) → (b < t → a < s) → bit (ltb a s) ≡ bit (ltb b t)
same_bit a s b t there back = go (dec_lt a s)
  where
    go : Dec (a < s) → bit (ltb a s) ≡ bit (ltb b t)
    go (yes o) = bit_yes a s o ∙ sym (bit_yes b t (there o))
    go (no o) = bit_no a s (omega arith) ∙ sym (bit_no b t (other (dec_lt b t)))
      where
        other : Dec (b < t) → t ≤ b
        other (yes q) = absurd (o (back q))
        other (no q) = omega arith

module _ (m g : ℕ → ℕ) (one : (i : ℕ) → m i ≤ 1) where
  -- how many of the first v have a higher key than i
  abbrev above : ℕ → ℕ → ℕ
  above v i = sum_ℕ v (λ j. m j * bit (ltb (g i) (g j)))

  -- how many of the first v have fewer than s above them
  abbrev served : ℕ → ℕ → ℕ
  served v s = sum_ℕ v (λ i. m i * bit (ltb (above v i) s))

  -- a higher key has no more above it
  above-less : (v i k : ℕ) → g i ≤ g k → above v k ≤ above v i
  above-less v i k l = sumℕ_le v _ _ (λ j q. mul-le-mul_left (m j) (step j (dec_lt (g k) (g j))))
    where
      step : (j : ℕ) → Dec (g k < g j) → bit (ltb (g k) (g j)) ≤ bit (ltb (g i) (g j))
      step j (yes o) = omega (arith, bit_yes (g k) (g j) o, bit_yes (g i) (g j) (omega arith))
      step j (no o) = omega (arith, bit_no (g k) (g j) (omega arith))

  -- and one that is itself counted has fewer
  above_fewer : (v i k : ℕ) → i < v → m i ≡ 1 → g k < g i → above v i < above v k
  above_fewer v i k q e l =
      omega (
        arith,
        sumℕ_add v (λ j. m j * bit (ltb (g i) (g j))) (λ j. cond (eqb i j) 1 0),
        sumℕ_delta v i (λ j. 1) q,
        sumℕ_le v
            (λ j. m j * bit (ltb (g i) (g j)) + cond (eqb i j) 1 0) (λ j. m j * bit (ltb (g k) (g j))) (λ j p. step j (ℕ_discrete i j) (dec_lt (g i) (g j))),
      )
    where
      step : (j : ℕ) → Dec (i ≡ j) → Dec (g i < g j) → m j * bit (ltb (g i) (g j)) + cond (eqb i j) 1 0 ≤ m j * bit (ltb (g k) (g j))
      step j (yes r) z = subst (λ (j : ℕ). m j * bit (ltb (g i) (g j)) + cond (eqb i j) 1 0 ≤ m j * bit (ltb (g k) (g j))) r
          (omega (
            arith,
            ap₂ (λ (a b : ℕ). a * b) e (bit_no (g i) (g i) (omega arith)),
            ap (λ (t : Bool). bit t) (eq-eqb i i refl),
            ap₂ (λ (a b : ℕ). a * b) e (bit_yes (g k) (g i) l),
          ))
      step j (no r) (yes o) =
          omega (
            arith,
            ap (λ (t : Bool). bit t) (ne_eqb i j r),
            ap (λ (b : ℕ). m j * b) (bit_yes (g i) (g j) o),
            ap (λ (b : ℕ). m j * b)
                (bit_yes (g k) (g j) (omega arith)),
          )
      step j (no r) (no o) = omega (arith, ap (λ (t : Bool). bit t) (ne_eqb i j r), ap (λ (b : ℕ). m j * b) (bit_no (g i) (g j) (omega arith)))

  -- no more are above than are counted
  above_most : (v i : ℕ) → above v i ≤ sum_ℕ v m
  above_most v i = sumℕ_le v _ m (λ j q. step j (dec_lt (g i) (g j)))
    where
      step : (j : ℕ) → Dec (g i < g j) → m j * bit (ltb (g i) (g j)) ≤ m j
      step j (yes o) = omega (arith, ap (λ (b : ℕ). m j * b) (bit_yes (g i) (g j) o))
      step j (no o) = omega (arith, ap (λ (b : ℕ). m j * b) (bit_no (g i) (g j) (omega arith)))

  -- different keys: exactly s have fewer than s above them, by taking in one after the other
  pub served_exactly : (v s : ℕ) → ((i j : ℕ) → i < v → j < v → g i ≡ g j → i ≡ j) → s ≤ sum_ℕ v m → served v s ≡ s
  unfolding sum_ℕ
  served_exactly zero s keys l = omega arith
  served_exactly (suc v) s keys l = by (ℕ_discrete (m v) 1) (λ s' q. served_exactly v s' older q)
    where
      older : (i j : ℕ) → i < v → j < v → g i ≡ g j → i ≡ j
      older i j a b = keys i j (omega arith) (omega arith)

      -- how many are above i with the new one, and what they count
      more : ℕ → ℕ
      more i = above v i + m v * bit (ltb (g i) (g v))

      by : Dec (m v ≡ 1) → ((s' : ℕ) → s' ≤ sum_ℕ v m → served v s' ≡ s') →
          sum_ℕ v (λ i. m i * bit (ltb (more i) s)) + m v * bit (ltb (more v) s) ≡ s
      by (no n) exactly =
          let none : m v ≡ 0 = omega (arith, n, one v) in
          let same : sum_ℕ v (λ i. m i * bit (ltb (more i) s)) ≡ served v s =
          sumℕ_cong v _ _ (λ i q. ap (λ (x : ℕ). m i * bit (ltb x s)) (omega (arith, ap (λ (x : ℕ). x * bit (ltb (g i) (g v))) none))) in
          omega (arith, same, exactly s (omega arith), ap (λ (x : ℕ). x * bit (ltb (more v) s)) none)
      by (yes e) exactly = split (dec_le s (above v v))
        where
          -- the new one has as many above it as of those before
          own : more v ≡ above v v
          own = omega (arith, ap (λ (b : ℕ). m v * b) (bit_no (g v) (g v) (omega arith)))

          -- with s below or past its place, the test of an older one is as it was, by s or by one less
          turn : (s' : ℕ) → (s ≤ above v v → s' ≡ s) → (above v v < s → s' + 1 ≡ s) →
              (i : ℕ) → i < v → m i * bit (ltb (more i) s) ≡ m i * bit (ltb (above v i) s')
          turn s' low high i q = counted (ℕ_discrete (m i) 1)
            where
              placed : Dec (s ≤ above v v) → (s ≤ above v v × s' ≡ s) ⊎ (above v v < s × s' + 1 ≡ s)
              placed (yes o) = inl (o, low o)
              placed (no o) = let o' : above v v < s = omega arith in inr (o', high o')

              tested : Dec (g i < g v) → m i ≡ 1 → (s ≤ above v v × s' ≡ s) ⊎ (above v v < s × s' + 1 ≡ s) →
                  bit (ltb (more i) s) ≡ bit (ltb (above v i) s')
              tested (yes o) f at =
                  let x : more i ≡ above v i + 1 = omega (arith, ap₂ (λ (a b : ℕ). a * b) e (bit_yes (g i) (g v) o)) in
                  let y : above v v ≤ above v i = above-less v i v (omega arith) in
                  same_bit (more i) s (above v i) s' (λ z. up at x y z) (λ z. down at x y z)
                where
                  up : (s ≤ above v v × s' ≡ s) ⊎ (above v v < s × s' + 1 ≡ s) → more i ≡ above v i + 1 → above v v ≤ above v i → more i < s → above v i < s'
                  up (inl (p, c)) x y z = omega arith
                  up (inr (p, c)) x y z = omega arith

                  down : (s ≤ above v v × s' ≡ s) ⊎ (above v v < s × s' + 1 ≡ s) → more i ≡ above v i + 1 → above v v ≤ above v i → above v i < s' → more i < s
                  down (inl (p, c)) x y z = omega arith
                  down (inr (p, c)) x y z = omega arith
              tested (no o) f at =
                  let differs : g i ≡ g v → ⊥ = λ z. differ (keys i v (omega arith) (omega arith) z) in
                  let other : g v < g i = omega (arith, differs) in
                  let x : more i ≡ above v i = omega (arith, ap (λ (b : ℕ). m v * b) (bit_no (g i) (g v) (omega arith))) in
                  let y : above v i < above v v = above_fewer v i v q f other in
                  same_bit (more i) s (above v i) s' (λ z. up at x y z) (λ z. down at x y z)
                where
                  differ : i ≡ v → ⊥
                  differ z = omega arith

                  up : (s ≤ above v v × s' ≡ s) ⊎ (above v v < s × s' + 1 ≡ s) → more i ≡ above v i → above v i < above v v → more i < s → above v i < s'
                  up (inl (p, c)) x y z = omega arith
                  up (inr (p, c)) x y z = omega arith

                  down : (s ≤ above v v × s' ≡ s) ⊎ (above v v < s × s' + 1 ≡ s) → more i ≡ above v i → above v i < above v v → above v i < s' → more i < s
                  down (inl (p, c)) x y z = omega arith
                  down (inr (p, c)) x y z = omega arith

              counted : Dec (m i ≡ 1) → m i * bit (ltb (more i) s) ≡ m i * bit (ltb (above v i) s')
              counted (yes f) = ap (λ (b : ℕ). m i * b) (tested (dec_lt (g i) (g v)) f (placed (dec_le s (above v v))))
              counted (no n) =
                  let none : m i ≡ 0 = omega (arith, n, one i) in
                  omega (arith, ap (λ (x : ℕ). x * bit (ltb (more i) s)) none, ap (λ (x : ℕ). x * bit (ltb (above v i) s')) none)

          split : Dec (s ≤ above v v) → sum_ℕ v (λ i. m i * bit (ltb (more i) s)) + m v * bit (ltb (more v) s) ≡ s
          split (yes o) = omega (
            arith,
            sumℕ_cong v _ _ (turn s (λ z. refl) (λ z. absurd (clash z o))),
            exactly s (omega (arith, above_most v v)),
            ap₂ (λ (a b : ℕ). a * b) e (ap (λ (x : ℕ). bit (ltb x s)) own ∙ bit_no (above v v) s o),
          )
            where
              clash : above v v < s → s ≤ above v v → ⊥
              clash a b = omega arith
          split (no o) = omega (
            arith,
            sumℕ_cong v _ _ (turn (s - 1) (λ z. absurd (o z)) (λ z. omega arith)),
            exactly (s - 1) (omega (arith, e)),
            ap₂ (λ (a b : ℕ). a * b) e (ap (λ (x : ℕ). bit (ltb x s)) own ∙ bit_yes (above v v) s (omega arith)),
          )

-- ---- objects served by falling parts, lowest first among equals

module _ (v : ℕ) (f : ℕ → ℕ) where
  -- the key of an object: parts first, then the lower number
  abbrev key : ℕ → ℕ
  key i = f i * v + (v - 1 - i)

  larger : (i j : ℕ) → i < v → f i < f j → key i < key j
  larger i j l o = let o' : f i + 1 ≤ f j = omega arith in omega (arith, mul-le-mul_right v o')

  keys_differ : (i j : ℕ) → i < v → j < v → key i ≡ key j → i ≡ j
  keys_differ i j a b e = go (dec_lt (f i) (f j)) (dec_lt (f j) (f i))
    where
      go : Dec (f i < f j) → Dec (f j < f i) → i ≡ j
      go (yes o) z = omega (arith, e, larger i j a o)
      go (no o) (yes z) = omega (arith, e, larger j i b z)
      go (no o) (no z) = let same : f i ≡ f j = omega arith in omega (arith, e, ap (λ (x : ℕ). x * v) same)

  -- j is served before i where its key is higher
  before-key : (i j : ℕ) → i < v → j < v → before f j i ≡ bit (ltb (key i) (key j))
  before-key i j a b = go (dec_lt (f i) (f j)) (dec_lt (f j) (f i)) (dec_lt j i)
    where
      go : Dec (f i < f j) → Dec (f j < f i) → Dec (j < i) → before f j i ≡ bit (ltb (key i) (key j))
      go (yes o) z y = ap (λ (t : Bool). cond (t || eqb (f j) (f i) && ltb j i) 1 0) (lt-ltb _ _ o) ∙ sym (bit_yes (key i) (key j) (larger i j a o))
      go (no o) (yes z) y =
          ap₂ (λ (t u : Bool). cond (t || u && ltb j i) 1 0) (le-ltb (f i) (f j) (omega arith)) (ne_eqb (f j) (f i) differ)
          ∙ sym (bit_no (key i) (key j) (omega (arith, larger j i b z)))
        where
          differ : f j ≡ f i → ⊥
          differ e = omega arith
      go (no o) (no z) (yes y) =
          let same : f j ≡ f i = omega arith in
          ap₂ (λ (t u : Bool). cond (t || u) 1 0) (le-ltb (f i) (f j) (omega arith))
          (ap₂ (λ (t u : Bool). t && u) (eq-eqb (f j) (f i) same) (lt-ltb j i y))
          ∙ sym (bit_yes (key i) (key j) (omega (arith, ap (λ (x : ℕ). x * v) same)))
      go (no o) (no z) (no y) =
          let same : f j ≡ f i = omega arith in
          ap₂ (λ (t u : Bool). cond (t || u) 1 0) (le-ltb (f i) (f j) (omega arith))
          (ap₂ (λ (t u : Bool). t && u) (eq-eqb (f j) (f i) same) (le-ltb j i (omega arith)))
          ∙ sym (bit_no (key i) (key j) (omega (arith, ap (λ (x : ℕ). x * v) same)))

-- a member counts for one
pub member-most : (w i : ℕ) → member w i ≤ 1
member-most w i = omega (arith, mod-lt (w / 2 ^ i) {m = 2} (omega arith))

-- of the members exactly s have fewer than s served before them
pub ranks_below : (v w : ℕ) (f : ℕ → ℕ) (s : ℕ) → s ≤ members v w → sum_ℕ v (λ i. member w i * bit (ltb (rank v w f i) s)) ≡ s
unfolding rank members
ranks_below v w f s l =
    sumℕ_cong v _ _ (λ i q. ap (λ (x : ℕ). member w i * bit (ltb x s)) (sumℕ_cong v _ _ (λ j p. ap (λ (b : ℕ). member w j * b) (before-key v f i j q p))))
    ∙ served_exactly (member w) (key v f) (member-most w) v s (keys_differ v f) l

-- ---- the column of v values a i / e, of which the members of w add to M

-- a whole number times e that is not negative is not negative
not_negative : (z : ℤ) (e P : ℕ) → 0 < e → z *ℤ pos e ≡ pos P → (z ≡ pos (nat_abs z)) × (nat_abs z * e ≡ P)
not_negative (pos s) e P l q = (refl, pos_inj _ _ q)
not_negative (negsuc n) e P l q = absurd (none (pos_inj _ _ (sym sums)))
  where
    sums : pos (P + suc n * e) ≡ pos 0
    sums = ap (λ z. z +ℤ pos (suc n * e)) (sym q) ∙ ring₂ (λ a e. (⊖ a) ⊗ e ⊕ a ⊗ e ≐ # 0) (pos (suc n)) (pos e) refl

    none : 0 ≡ P + suc n * e → ⊥
    none z = omega (arith, mul-pos {m = suc n} (omega arith) l)

module _ (v w : ℕ) (M : ℤ) (a : ℕ → ℤ) (e : ℕ) (some : 0 < e) (keeps : restrained v w a ≡ M *ℤ pos e) where
  abbrev floors : ℕ → ℤ
  floors i = floor (pos 100 *ℤ a i) e

  abbrev parts : ℕ → ℕ
  parts i = part (pos 100 *ℤ a i) e

  -- the members' parts, added
  abbrev all-parts : ℕ
  all-parts = sum_ℕ v (λ i. member w i * parts i)

  -- a hundred times M is the floors and the parts
  hundredfold : pos 100 *ℤ (M *ℤ pos e) ≡ restrained v w floors *ℤ pos e +ℤ pos all-parts
  unfolding restrained
  hundredfold =
      ap (λ z. pos 100 *ℤ z) (sym keeps) ∙ sym (sum-scale v (pos 100) (λ i. pos (member w i) *ℤ a i))
      ∙ sum_ext v _ (λ i. pos (member w i) *ℤ floors i *ℤ pos e +ℤ pos (member w i * parts i)) (λ i.
      ring₂ (λ m a. # 100 ⊗ (m ⊗ a) ≐ m ⊗ (# 100 ⊗ a)) (pos (member w i)) (a i) refl
      ∙ ap (λ z. pos (member w i) *ℤ z) (floor-part (pos 100 *ℤ a i) e some)
      ∙ ring₄ (λ m f e p. m ⊗ (f ⊗ e ⊕ p) ≐ m ⊗ f ⊗ e ⊕ m ⊗ p) (pos (member w i)) (floors i) (pos e) (pos (parts i)) refl)
      ∙ sum_add v (λ i. pos (member w i) *ℤ floors i *ℤ pos e) (λ i. pos (member w i * parts i))
      ∙ ap₂ ◌+ℤ◌ (sum_scale_r v (pos e) (λ i. pos (member w i) *ℤ floors i)) (sym (pos_sum v (λ i. member w i * parts i)))

  left_over : (pos 100 *ℤ M -ℤ restrained v w floors ≡ pos (shortfall v w M a e)) × (shortfall v w M a e * e ≡ all-parts)
  unfolding shortfall
  left_over = not_negative (pos 100 *ℤ M -ℤ restrained v w floors) e all-parts some
      (comb₁ (pos 1) hundredfold (ring₄ (λ m r e p. (# 100 ⊗ m ⊝ r) ⊗ e ⊝ p ≐ # 1 ⊗ (# 100 ⊗ (m ⊗ e) ⊝ (r ⊗ e ⊕ p))) M (restrained v w floors) (pos e)
      (pos all-parts) refl))

  -- what the floors leave of 100·M is the shortfall, which is not negative
  pub shortfall-exact : pos 100 *ℤ M -ℤ restrained v w floors ≡ pos (shortfall v w M a e)
  shortfall-exact = left_over.0

  -- in e-ths it is the parts
  pub shortfall-parts : shortfall v w M a e * e ≡ sum_ℕ v (λ i. member w i * part (pos 100 *ℤ a i) e)
  shortfall-parts = left_over.1

  -- and it is below t
  pub shortfall-below : 0 < members v w → shortfall v w M a e < members v w
  unfolding members
  shortfall-below t = go (dec_lt (shortfall v w M a e) (sum_ℕ v (member w)))
    where
      each : sum_ℕ v (λ i. member w i * parts i + member w i) ≤ sum_ℕ v (λ i. e * member w i)
      each = sumℕ_le v _ _ (λ i q. by (member w i) (parts i) (part-less (pos 100 *ℤ a i) e some))
        where
          by : (m p : ℕ) → p < e → m * p + m ≤ e * m
          by m p l = let l' : p + 1 ≤ e = omega arith in omega (arith, mul-le-mul_left m l')

      go : Dec (shortfall v w M a e < sum_ℕ v (member w)) → shortfall v w M a e < sum_ℕ v (member w)
      go (yes o) = o
      go (no o) =
          let o' : sum_ℕ v (member w) ≤ shortfall v w M a e = omega arith in
          absurd (omega (arith, t, each, shortfall-parts, sumℕ_add v (λ i. member w i * parts i) (member w), sumℕ-scale v e (member w), mul-le-mul_right e o'))

  -- 1 where object i gains one
  abbrev gains : ℕ → ℕ
  gains i = bit (ltb (rank v w parts i) (shortfall v w M a e))

  -- exactly that many members gain one
  pub as_many_gain : 0 < members v w → sum_ℕ v (λ i. member w i * cond (ltb (rank v w (λ j. part (pos 100 *ℤ a j) e) i) (shortfall v w M a e)) 1 0)
      ≡ shortfall v w M a e
  as_many_gain t = ranks_below v w parts (shortfall v w M a e) (omega (arith, shortfall-below t))

  -- so the members' hundredths add to exactly 100·M
  pub column_adds_up : 0 < members v w → restrained v w (hundredths_in v w M a e) ≡ pos 100 *ℤ M
  unfolding restrained
  column_adds_up t =
      sum_ext v _ (λ i. pos (member w i) *ℤ floors i +ℤ pos (member w i * gains i)) (λ i. by i (ℕ_discrete (member w i) 1))
      ∙ sum_add v (λ i. pos (member w i) *ℤ floors i) (λ i. pos (member w i * gains i))
      ∙ ap (λ z. sum v (λ i. pos (member w i) *ℤ floors i) +ℤ z) (sym (pos_sum v (λ i. member w i * gains i)) ∙ ap pos (as_many_gain t))
      ∙ comb₁ (pos 0 -ℤ pos 1) shortfall-exact
      (ring₃ (λ r s m. r ⊕ s ⊝ # 100 ⊗ m ≐ (# 0 ⊝ # 1) ⊗ (# 100 ⊗ m ⊝ r ⊝ s)) (restrained v w floors) (pos (shortfall v w M a e)) M refl)
    where
      by : (i : ℕ) → Dec (member w i ≡ 1) → pos (member w i) *ℤ hundredths_in v w M a e i ≡ pos (member w i) *ℤ floors i +ℤ pos (member w i * gains i)
      by i (yes o) =
          ap (λ (t : Bool). pos (member w i) *ℤ cond t (member_hundredths v w M a e i) (nearest_hundredths (a i) e)) (eq-eqb (member w i) 1 o)
          ∙ ring₃ (λ m f g. m ⊗ (f ⊕ g) ≐ m ⊗ f ⊕ m ⊗ g) (pos (member w i)) (floors i) (pos (gains i)) refl
      by i (no n) =
          let none : member w i ≡ 0 = omega (arith, n, member-most w i) in
          ap (λ (m : ℕ). pos m *ℤ hundredths_in v w M a e i) none
          ∙ ring₃ (λ x f g. # 0 ⊗ x ≐ # 0 ⊗ f ⊕ # 0 ⊗ g) (hundredths_in v w M a e i) (floors i) (pos (gains i)) refl
          ∙ sym (ap (λ (m : ℕ). pos m *ℤ floors i +ℤ pos (m * gains i)) none)

  -- who gains one has a part
  gain_has_part : (i : ℕ) → rank v w parts i < shortfall v w M a e → 0 < parts i
  unfolding rank
  gain_has_part i l = go (dec_lt 0 (parts i))
    where
      go : Dec (0 < parts i) → 0 < parts i
      go (yes o) = o
      go (no o) =
          let all : sum_ℕ v (λ j. member w j * parts j) ≤ sum_ℕ v (λ j. e * (member w j * before parts j i)) =
          sumℕ_le v _ _ (λ j q. each j (dec_lt (parts i) (parts j))) in
          let l' : rank v w parts i + 1 ≤ shortfall v w M a e = omega arith in
          absurd (omega (arith, some, all, shortfall-parts, sumℕ-scale v e (λ j. member w j * before parts j i), mul-le-mul_right e l'))
        where
          each : (j : ℕ) → Dec (parts i < parts j) → member w j * parts j ≤ e * (member w j * before parts j i)
          each j (yes z) =
              let b : before parts j i ≡ 1 = ap (λ (t : Bool). cond (t || eqb (parts j) (parts i) && ltb j i) 1 0) (lt-ltb _ _ z) in
              omega (arith, ap (λ (b : ℕ). e * (member w j * b)) b, mul-le-mul_left (member w j) (below j))
            where
              below : (j : ℕ) → parts j ≤ e
              below j = omega (arith, part-less (pos 100 *ℤ a j) e some)
          each j (no z) = let none : parts j ≡ 0 = omega arith in omega (arith, ap (λ (p : ℕ). member w j * p) none)

  -- a member's hundredths are less than one away
  pub member-near : (i : ℕ) → nat_abs (pos 100 *ℤ a i -ℤ member_hundredths v w M a e i *ℤ pos e) < e
  member-near i = go (dec_lt (rank v w parts i) (shortfall v w M a e))
    where
      -- the distance, by the part and what is gained
      apart : (g : ℕ) → pos 100 *ℤ a i -ℤ (floors i +ℤ pos g) *ℤ pos e ≡ pos (parts i) -ℤ pos (g * e)
      apart g = comb₁ (pos 1) (floor-part (pos 100 *ℤ a i) e some)
          (ring₅ (λ x f g e p. x ⊝ (f ⊕ g) ⊗ e ⊝ (p ⊝ g ⊗ e) ≐ # 1 ⊗ (x ⊝ (f ⊗ e ⊕ p))) (pos 100 *ℤ a i) (floors i) (pos g) (pos e) (pos (parts i)) refl)

      go : Dec (rank v w parts i < shortfall v w M a e) → nat_abs (pos 100 *ℤ a i -ℤ member_hundredths v w M a e i *ℤ pos e) < e
      go (yes o) =
          let p = part-less (pos 100 *ℤ a i) e some in
          subst (λ (z : ℕ). z < e)
          (sym (ap nat_abs (ap (λ (g : ℕ). pos 100 *ℤ a i -ℤ (floors i +ℤ pos g) *ℤ pos e) (bit_yes _ _ o) ∙ apart 1
          ∙ ring₂ (λ p e. p ⊝ # 1 ⊗ e ≐ ⊖ (e ⊝ p)) (pos (parts i)) (pos e) refl)
          ∙ abs_neg (pos e -ℤ pos (parts i)) ∙ ap nat_abs (sym (pos_sub e (parts i) (omega arith)))))
          (omega (arith, gain_has_part i o))
      go (no o) = subst (λ (z : ℕ). z < e)
          (sym (ap nat_abs (ap (λ (g : ℕ). pos 100 *ℤ a i -ℤ (floors i +ℤ pos g) *ℤ pos e) (bit_no (rank v w parts i) (shortfall v w M a e) (omega arith))
          ∙ apart 0
          ∙ ring₂ (λ p e. p ⊝ # 0 ⊗ e ≐ p) (pos (parts i)) (pos e) refl)))
          (part-less (pos 100 *ℤ a i) e some)

-- ---- a job

module _ (h : Head) (d : List ℕ) (y : List ℤ) (w : ℕ) (M : ℤ) (j : Job h d y w M) where
  some_below : 0 < denominator_of h d w
  some_below = job-denominator h d y w M j

  abbrev a : ℕ → ℤ
  a = numerator_of h d y w M

  abbrev e : ℕ
  e = denominator_of h d w

  -- a member's hundredths, and any other object's
  pub published-member : (i : ℕ) → member w i ≡ 1 → published h d y w M i ≡ member_hundredths (objects h) w M a e i
  unfolding published
  published-member i o =
      ap (λ (t : Bool). cond t (member_hundredths (objects h) w M a e i) (nearest_hundredths (a i) e)) (eq-eqb (member w i) 1 o)

  pub published-other : (i : ℕ) → (member w i ≡ 1 → ⊥) → published h d y w M i ≡ nearest_hundredths (a i) e
  unfolding published
  published-other i n =
      ap (λ (t : Bool). cond t (member_hundredths (objects h) w M a e i) (nearest_hundredths (a i) e)) (ne_eqb (member w i) 1 n)

  -- a member's are less than one away
  pub job_member_near : (i : ℕ) → member w i ≡ 1 → nat_abs (pos 100 *ℤ a i -ℤ published h d y w M i *ℤ pos e) < e
  job_member_near i o = subst (λ (x : ℤ). nat_abs (pos 100 *ℤ a i -ℤ x *ℤ pos e) < e) (sym (published-member i o))
      (member-near (objects h) w M a e some_below (restraint-kept h d y w M) i)

  -- any other's at most a half, and even where they are a half away
  pub job_other_near : (i : ℕ) → (member w i ≡ 1 → ⊥) → nat_abs (pos 2 *ℤ (pos 100 *ℤ a i -ℤ published h d y w M i *ℤ pos e)) ≤ e
  job_other_near i n = subst (λ (x : ℤ). nat_abs (pos 2 *ℤ (pos 100 *ℤ a i -ℤ x *ℤ pos e)) ≤ e) (sym (published-other i n)) (published-near (a i) e some_below)

  pub job_other_even : (i : ℕ) → (member w i ≡ 1 → ⊥) → nat_abs (pos 2 *ℤ (pos 100 *ℤ a i -ℤ published h d y w M i *ℤ pos e)) ≡ e →
      nat_abs (published h d y w M i) % 2 ≡ 0
  job_other_even i n = subst (λ (x : ℤ). nat_abs (pos 2 *ℤ (pos 100 *ℤ a i -ℤ x *ℤ pos e)) ≡ e → nat_abs x % 2 ≡ 0) (sym (published-other i n))
      (published-even (a i) e some_below)

  -- so every object's are at most one away
  pub job-near : (i : ℕ) → nat_abs (pos 100 *ℤ a i -ℤ published h d y w M i *ℤ pos e) ≤ e
  job-near i = go (ℕ_discrete (member w i) 1)
    where
      go : Dec (member w i ≡ 1) → nat_abs (pos 100 *ℤ a i -ℤ published h d y w M i *ℤ pos e) ≤ e
      go (yes o) = omega (arith, job_member_near i o)
      go (no n) = omega (arith, job_other_near i n, abs-* (pos 2) (pos 100 *ℤ a i -ℤ published h d y w M i *ℤ pos e))

  -- and no larger than a hundred times the numerator, and one
  pub published-size : (i : ℕ) → nat_abs (published h d y w M i) ≤ 100 * nat_abs (a i) + 1
  published-size i = go (dec_le (nat_abs x) (100 * nat_abs (a i) + 1))
    where
      x : ℤ
      x = published h d y w M i

      -- what x comes to in e-ths
      whole : nat_abs x * e ≤ 100 * nat_abs (a i) + e
      whole = omega (
        arith,
        abs-* x (pos e),
        abs-* (pos 100) (a i),
        ap nat_abs (ring₂ (λ y z. z ≐ y ⊝ (y ⊝ z)) (pos 100 *ℤ a i) (x *ℤ pos e) refl),
        abs_sub (pos 100 *ℤ a i) (pos 100 *ℤ a i -ℤ x *ℤ pos e),
        job-near i,
      )

      go : Dec (nat_abs x ≤ 100 * nat_abs (a i) + 1) → nat_abs x ≤ 100 * nat_abs (a i) + 1
      go (yes o) = o
      go (no o) =
          let o' : 100 * nat_abs (a i) + 2 ≤ nat_abs x = omega arith in
          absurd (omega (arith, whole, mul-le-mul_right e o', mul-le-mul_left (100 * nat_abs (a i)) some_below, some_below))

  -- the members' hundredths add to 100·M
  pub job_adds_up : restrained (objects h) w (published h d y w M) ≡ pos 100 *ℤ M
  unfolding published
  job_adds_up = column_adds_up (objects h) w M a e some_below (restraint-kept h d y w M) (job-members h d y w M j)
