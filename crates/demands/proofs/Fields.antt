-- What the page says of designs over prime power fields: from the laws of the addition and of the sizes. Assumes nothing.
use mathlib.Core.Bool.{Bool, true, false, cond, not, ◌||◌, false≢true}
use mathlib.Core.List.{List, map}
use mathlib.Core.Path.{◌≡◌, refl, sym, ◌∙◌, ap, subst}
use Prim.Native.Nat.{ℕ, zero, suc, ◌+◌, ◌-◌, ◌*◌, ◌/◌, ◌%◌, ◌≤◌, ◌<◌}
use native.Mathlib.Nat.{mod-lt, le_of_suc-le-suc, not-suc-le-zero}
use native.Mathlib.Omega.{arith}
use native.Mathlib.Decide.{ℕ_discrete, dec_le}
use lib.Arith.{digits_div, digits_mod}
use lib.Dec.{eqb, ltb, lit<}
use lib.ListN.{length, get_or, take, drop}
use borrow.Author.Tests.{ne_eqb, ltb-true, le-leb, lt-leb}
use Rattle.algebra.proofs.Tests.{first-before}
use Rattle.records.specs.declared.Head.{Head}
use Rattle.meaning.specs.Design.{by_field, field_prime, occ, digit_sum, plus, moved, left, right}
use Rattle.meaning.specs.Refusals.{refused, sizes, test, in_range, offends, offender, clean}
use Rattle.meaning.proofs.Addition.{plus_group}
use Rattle.laws.specs.Fits.{Fits}
use Rattle.laws.proofs.Chains.{test_no, fits, sized_no}
use Rattle.demands.specs.Fields.{digit, OverFields, FieldSize, TheFields}
use Rattle.demands.specs.Fields.FieldSize.{eight, nine, sixteen, twenty_five, twenty_seven, thirty_two, forty_nine}

-- the digits of a sum
digit_of_sum : (q k i x s : ℕ) → 0 < q → i < k → digit q i (digit_sum q k x s) ≡ (digit q i x + digit q i s) % q
unfolding digit_sum
digit_of_sum q zero i x s some l = absurd (not-suc-le-zero l)
digit_of_sum q (suc k) zero x s some l = digits_mod _ (mod-lt _ some)
digit_of_sum q (suc k) (suc i) x s some l = ap (digit q i) (digits_div _ (mod-lt _ some)) ∙ digit_of_sum q k i _ _ some (le_of_suc-le-suc l)

-- each field of the list has its prime
prime_of : (n q : ℕ) → FieldSize n q → (field_prime n ≡ q) × (0 < q)
unfolding field_prime
prime_of n q eight = (refl, lit< tt)
prime_of n q nine = (refl, lit< tt)
prime_of n q sixteen = (refl, lit< tt)
prime_of n q twenty_five = (refl, lit< tt)
prime_of n q twenty_seven = (refl, lit< tt)
prime_of n q thirty_two = (refl, lit< tt)
prime_of n q forty_nine = (refl, lit< tt)

-- the list of the request is that of the definition
prime_listed : (n : ℕ) → 0 < field_prime n → FieldSize n (field_prime n)
unfolding field_prime
prime_listed n some = go (ℕ_discrete n 8) (ℕ_discrete n 16) (ℕ_discrete n 32) (ℕ_discrete n 9) (ℕ_discrete n 27) (ℕ_discrete n 25) (ℕ_discrete n 49)
  where
    Size : ℕ → Type 0
    Size n = FieldSize n (field_prime n)

    go : Dec (n ≡ 8) → Dec (n ≡ 16) → Dec (n ≡ 32) → Dec (n ≡ 9) → Dec (n ≡ 27) → Dec (n ≡ 25) → Dec (n ≡ 49) → FieldSize n (field_prime n)
    go (yes e) b c d f g i = subst Size (sym e) eight
    go (no a) (yes e) c d f g i = subst Size (sym e) sixteen
    go (no a) (no b) (yes e) d f g i = subst Size (sym e) thirty_two
    go (no a) (no b) (no c) (yes e) f g i = subst Size (sym e) nine
    go (no a) (no b) (no c) (no d) (yes e) g i = subst Size (sym e) twenty_seven
    go (no a) (no b) (no c) (no d) (no f) (yes e) i = subst Size (sym e) twenty_five
    go (no a) (no b) (no c) (no d) (no f) (no g) (yes e) = subst Size (sym e) forty_nine
    go (no a) (no b) (no c) (no d) (no f) (no g) (no i) =
        let none : field_prime n ≡ 0 = rw (ne_eqb n 8 a, ne_eqb n 16 b, ne_eqb n 32 c, ne_eqb n 9 d, ne_eqb n 27 f, ne_eqb n 25 g, ne_eqb n 49 i) in
        absurd (omega (arith, none, some))

pub listed-fields : TheFields
listed-fields n q = (prime_of n q, λ e some. subst (FieldSize n) e (prime_listed n (subst (λ (r : ℕ). 0 < r) (sym e) some)))

module _ (h : Head) where
  -- where a head asks for a field, it has its prime
  prime_there : Fits h → by_field h ≡ true → 0 < field_prime h.n
  prime_there f e = ltb-true 0 (field_prime h.n) (subst (λ (b : Bool). cond b (ltb 0 (field_prime h.n)) true ≡ true) e f.has_addition_lem)

  -- a head that does not fit is refused by 4
  refused_by_4 : (Fits h → ⊥) → sizes h ≡ refused 4 0
  refused_by_4 no-fit = ap (λ (b : Bool). test b 4 0) (sym (sized_no h no-fit))

  -- the sum with a field, and with residues
  sum-digits : 2 ≤ h.flag → (x s : ℕ) → plus h x s ≡ digit_sum (field_prime h.n) 5 x s
  unfolding plus
  sum-digits l x s = rw (le-leb 2 h.flag l)

  sum-residues : h.flag ≤ 1 → (x s : ℕ) → plus h x s ≡ (x + s) % h.n
  unfolding plus
  sum-residues l x s = rw (lt-leb 2 h.flag (omega arith))

  -- block jn + s is initial block j at shift s
  quotient : (j s : ℕ) → s < h.n → (j * h.n + s) / h.n ≡ j
  quotient j s l = digits_div j l

  remainder : (j s : ℕ) → s < h.n → (j * h.n + s) % h.n ≡ s
  remainder j s l = digits_mod j l

  -- where ∞ stands with flag 2, that byte offends, so the first that does stands there or before
  ∞-offends : h.flag ≡ 2 → (d : List ℕ) (i : ℕ) → i < length d → get_or d i 0 ≡ 255 → (at : ℕ) × (at ≤ i) × (clean h d ≡ refused 5 at)
  unfolding offender
  ∞-offends two d i l e = (offender h d, early, test_no (eqb (offender h d) (length d)) 5 (offender h d) (ne_eqb (offender h d) (length d) inside))
    where
      out : in_range h 255 ≡ false
      out = rw two

      offending : offends h d i ≡ true
      offending = ap (λ (t : Bool). not t || ltb 0 (occ (get_or d i 0) (take (i % (2 * h.p)) (drop (i - i % (2 * h.p)) d))))
          (ap (in_range h) e ∙ out)

      early : offender h d ≤ i
      early = go (dec_le (offender h d) i)
        where
          go : Dec (offender h d ≤ i) → offender h d ≤ i
          go (yes m) = m
          go (no m) = absurd (false≢true (sym (first-before (offends h d) 0 (length d) i (omega arith) (omega arith)) ∙ offending))

      inside : offender h d ≡ length d → ⊥
      inside same = omega (arith, same, early)

  pub over-fields : OverFields h
  unfolding left right
  over-fields = record {
    without-∞ = λ e. omega arith;
    with-∞ = λ e. omega arith;
    digits = λ e l x s i m.
        ap (digit (field_prime h.n) i) (sum-digits l x s) ∙ digit_of_sum (field_prime h.n) 5 i x s (prime_there (fits h e) (le-leb 2 h.flag l)) m;
    residues = sum-residues;
    shift_left = λ d j s l. λ i. map (moved h (remainder j s l i)) (take h.p (drop (2 * h.p * quotient j s l i) d));
    shift_right = λ d j s l. λ i. map (moved h (remainder j s l i)) (take h.p (drop (2 * h.p * quotient j s l i + h.p) d));
    adds = λ e. plus_group h (fits h e).has_addition_lem;
    other_n = λ l none. refused_by_4 (λ f. none _ (prime_listed h.n (prime_there f (le-leb 2 h.flag l))));
    other-flag = λ l. refused_by_4 (λ f. omega (arith, f.flag-most, l));
    no-∞ = λ e. rw e;
    ∞-refused = ∞-offends;
  }
