-- The two words of each sum of squares and of Q are the number itself: none reaches 2 to the power 128; and Q
-- is printed in full. Assumes nothing.
use mathlib.Core.Path.{◌≡◌, sym, refl, ap, subst, ◌∙◌}
use mathlib.Core.List.{List, [], ◌∷◌, ◌++◌}
use Prim.Native.Nat.{ℕ, zero, suc, ◌+◌, ◌-◌, ◌*◌, ◌/◌, ◌%◌, ◌^◌, ◌<◌}
use native.Mathlib.Nat.{pow-suc, div-lt_iff_lt-mul, div-add-mod'}
use native.Mathlib.Omega.{arith}
use native.Mathlib.Decide.{dec_lt}
use borrow.Author.Tests.{eqb-true, ltb-true, lt-ltb, le-ltb}
use lib.Dec.{lit<}
use lib.IntN.{ℤ, nat_abs}
use lib.ListN.{length}
use Rattle.records.specs.declared.Head.{Head}
use Rattle.meaning.specs.Design.{blocks}
use Rattle.meaning.specs.Analysis.{squared_readings, squared_totals, qOf}
use Rattle.meaning.specs.Wide.{value, wide, wide_zero}
use Rattle.meaning.specs.Refusals.{Verdict, accepted}
use Rattle.meaning.specs.Text.{digits, wide_text}
use Rattle.meaning.specs.Calls.{
  given,
  squared_readings_verdict,
  squared_readings_answer,
  squared_totals_verdict,
  squared_totals_answer,
  readings_verdict,
  qAnswer,
  spread_answer,
  spreading_of,
}
use Rattle.laws.proofs.Chains.{opened, held, fits, readings-near, sliced, slices_sound, slices-readings, Measured, measured}
use Rattle.laws.proofs.Sizes.{reading_squares_most, squared_totals_most}
use Rattle.laws.proofs.SizesMost.{q_most}
use Rattle.arithmetic.proofs.Words.{exact}
use Rattle.demands.specs.Demand2.{decimal_from}

-- what is given where a call accepts
whole : (verdict : Verdict) (n : ℕ) → verdict ≡ accepted → n < 2 ^ 120 → value (given verdict (wide n) wide_zero) ≡ n
whole verdict n e l = rw e (exact n l refl)

-- ---- digits

-- one digit more
decimal-more : (xs : List ℕ) (n x : ℕ) → decimal_from n (xs ++ (x ∷ [])) ≡ 10 * decimal_from n xs + (x - 48)
decimal-more [] n x = refl
decimal-more (z ∷ xs) n x = decimal-more xs (10 * n + (z - 48)) x

-- the digits of a number read back as it
decimal-digits : (s n : ℕ) → n < 10 ^ suc s → decimal_from 0 (digits (suc s) n) ≡ n
unfolding digits
decimal-digits zero n l = rw (lt-ltb n 10 (omega arith)) (omega arith)
decimal-digits (suc s) n l = turn (decimal-digits s (n / 10) ((div-lt_iff_lt-mul (lit< tt)).1 (rw pow-suc at l))) (dec_lt n 10)
  where
    turn : decimal_from 0 (digits (suc s) (n / 10)) ≡ n / 10 → Dec (n < 10) → decimal_from 0 (digits (suc (suc s)) n) ≡ n
    turn ih (yes o) = rw (lt-ltb n 10 o) (omega arith)
    turn ih (no o) = rw (le-ltb n 10 (omega arith)) (decimal-more (digits (suc s) (n / 10)) 0 (48 + n % 10) ∙ omega (arith, ih, div-add-mod' n 10))

-- ---- two words

module _ (h : Head) (d : List ℕ) (y : List ℤ) where
  readings-fit : squared_readings_verdict h y ≡ accepted → nat_abs (squared_readings h y) < 2 ^ 120
  unfolding squared_readings_verdict
  readings-fit e =
      let a = opened _ _ e in
      let b = opened _ _ a.0 in
      let long : length y ≡ blocks h = eqb-true _ _ (held _ _ _ b.1) in
      omega (
        arith,
        reading_squares_most h y (fits h (held _ _ _ b.0)) (record {
          readings-long = long;
          readings-most = λ k l. readings-near y a.1 k (subst (λ (x : ℕ). k < x) (sym long) l);
        }),
      )

  pub squared_readings_whole : squared_readings_verdict h y ≡ accepted → value (squared_readings_answer h y).sum ≡ nat_abs (squared_readings h y)
  squared_readings_whole e = whole (squared_readings_verdict h y) _ e (readings-fit e)

  totals-fit : squared_totals_verdict h d y ≡ accepted → nat_abs (squared_totals h d y) < 2 ^ 120
  unfolding squared_totals_verdict
  totals-fit e =
      let a = opened _ _ e in
      let b = opened _ _ a.0 in
      let s = sliced h d y b.0 in
      omega (arith, squared_totals_most h d (slices_sound h d y s b.1) y (slices-readings h d y s a.1))

  pub squared_totals_whole : squared_totals_verdict h d y ≡ accepted → value (squared_totals_answer h d y).sum ≡ nat_abs (squared_totals h d y)
  squared_totals_whole e = whole (squared_totals_verdict h d y) _ e (totals-fit e)

  pub q_whole : readings_verdict h d y ≡ accepted → (value (qAnswer h d y).sum ≡ qOf h d y) × (value (spread_answer h d y).spreading.q ≡ qOf h d y)
  q_whole e =
      let m = measured h d y e in
      let l : qOf h d y < 2 ^ 120 = omega (arith, q_most h d m.design y m.readings m.even) in
      (whole (readings_verdict h d y) (qOf h d y) e l, rw e (exact (qOf h d y) l refl))

  -- Q is printed in full
  pub q_in_full : Measured h d y → (wide_text (spreading_of h d y).q ≡ 32 ∷ digits 39 (qOf h d y)) × (decimal_from 0 (digits 39 (qOf h d y)) ≡ qOf h d y)
  q_in_full m =
      let l : qOf h d y < 2 ^ 120 = omega (arith, q_most h d m.design y m.readings m.even) in
      let places = under (qOf h d y) (2 ^ 120) (10 ^ 39) l (ltb-true (2 ^ 120) (10 ^ 39) refl) in
      (ap (λ (n : ℕ). 32 ∷ digits 39 n) (exact (qOf h d y) l refl), decimal-digits 38 (qOf h d y) places)
    where
      under : (a b c : ℕ) → a < b → b < c → a < c
      under a b c p q = omega arith
