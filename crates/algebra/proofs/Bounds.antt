-- How large a whole number is: `nat_abs` of sums, differences, products and squares, so that omega shows that a result fits. Assumes nothing.
use mathlib.Core.Path.{◌≡◌, refl, sym, ap, ap₂, subst, subst₂}
use mathlib.Core.Bool.{Bool, true, false, cond}
use Prim.Native.Nat.{ℕ, zero, suc, ◌+◌, ◌*◌, ◌-◌, ◌≤◌, ◌<◌}
use native.Mathlib.Nat.{mul-le-mul}
use native.Mathlib.Omega.{arith}
use borrow.Author.Tests.{ltb-true}
use lib.Dec.{ltb}
use lib.IntN.{ℤ, pos, negsuc, neg_ℤ, nat_abs, sub_ℕ, ◌+ℤ◌, ◌-ℤ◌, ◌*ℤ◌}
use lib.Signed.{mag, ◌≤ℤ◌}
use Rattle.algebra.specs.Ranges.{sum, sum_ℕ}
use Rattle.algebra.proofs.Order.{natural, pos-≤⁻, ≤ℤ-trans}
use Rattle.algebra.proofs.Sums.{sumℕ-scale, sumℕ_const}

-- the machine's size of a signed number is at most its own
pub mag_abs : (z : ℤ) → mag z ≤ nat_abs z
mag_abs (pos n) = omega arith
mag_abs (negsuc n) = omega arith

-- a negation is as large
pub abs_neg : (z : ℤ) → nat_abs (neg_ℤ z) ≡ nat_abs z
abs_neg (pos zero) = refl
abs_neg (pos (suc n)) = refl
abs_neg (negsuc n) = refl

-- a product is as large as the product of the sizes
pub abs-* : (a b : ℤ) → nat_abs (a *ℤ b) ≡ nat_abs a * nat_abs b
abs-* (pos a) (pos b) = refl
abs-* (pos a) (negsuc b) = abs_neg (pos (a * suc b))
abs-* (negsuc a) (pos b) = abs_neg (pos (suc a * b))
abs-* (negsuc a) (negsuc b) = refl

-- a difference of two naturals is no larger than a bound on both, as the sum of whole numbers has it
abs_diff : (a b B : ℕ) → a ≤ B → b ≤ B → nat_abs (sub_ℕ a b) ≤ B
abs_diff a b B ha hb = by (ltb a b) refl
  where
    by : (t : Bool) → ltb a b ≡ t → nat_abs (cond t (negsuc (b - suc a)) (pos (a - b))) ≤ B
    by true e = omega (arith, ltb-true a b e)
    by false e = omega arith

-- a difference of two naturals is no larger than a bound on both
pub abs_between : (a b B : ℕ) → a ≤ B → b ≤ B → nat_abs (pos a -ℤ pos b) ≤ B
abs_between a zero B ha hb = omega arith
abs_between a (suc b) B ha hb = abs_diff a (suc b) B ha hb

-- a sum is at most as large as the sum of the sizes
pub abs-+ : (a b : ℤ) → nat_abs (a +ℤ b) ≤ nat_abs a + nat_abs b
abs-+ (pos a) (pos b) = omega arith
abs-+ (pos a) (negsuc b) = abs_diff a (suc b) (a + suc b) (omega arith) (omega arith)
abs-+ (negsuc a) (pos b) = abs_diff b (suc a) (suc a + b) (omega arith) (omega arith)
abs-+ (negsuc a) (negsuc b) = omega arith

-- a difference is at most as large as the sum of the sizes
pub abs_sub : (a b : ℤ) → nat_abs (a -ℤ b) ≤ nat_abs a + nat_abs b
abs_sub a b = omega (arith, abs-+ a (neg_ℤ b), abs_neg b)

-- a product of two numbers with bounds
pub abs-*-le : (a b : ℤ) (m n : ℕ) → nat_abs a ≤ m → nat_abs b ≤ n → nat_abs (a *ℤ b) ≤ m * n
abs-*-le a b m n h k = subst (λ (x : ℕ). x ≤ m * n) (sym (abs-* a b)) (mul-le-mul h k)

-- a square of a number with a bound
pub abs_square : (z : ℤ) (B : ℕ) → nat_abs z ≤ B → nat_abs (z *ℤ z) ≤ B * B
abs_square z B h = abs-*-le z z B B h h

-- between 0 and c
pub abs_mono : (a c : ℤ) → pos 0 ≤ℤ a → a ≤ℤ c → nat_abs a ≤ nat_abs c
abs_mono a c h k =
    let (m, p) = natural h in
    let (n, q) = natural (≤ℤ-trans h k) in
    omega (arith, ap nat_abs p, ap nat_abs q, pos-≤⁻ m n (subst₂ ◌≤ℤ◌ (sym p) (sym q) k))

-- a square is the square of the size
pub square_size : (z : ℤ) → z *ℤ z ≡ pos (nat_abs z * nat_abs z)
square_size (pos n) = refl
square_size (negsuc n) = refl

-- ---- sums

-- a sum of terms with a bound each
pub abs_sum_le : (n : ℕ) (f : ℕ → ℤ) (g : ℕ → ℕ) → ((i : ℕ) → i < n → nat_abs (f i) ≤ g i) → nat_abs (sum n f) ≤ sum_ℕ n g
unfolding sum sum_ℕ
abs_sum_le zero f g h = omega arith
abs_sum_le (suc n) f g h = omega (arith, abs-+ (sum n f) (f n), abs_sum_le n f g (λ i l. h i (omega arith)), h n (omega arith))

-- a sum of n terms of at most m each
pub abs_sum : (n m : ℕ) (f : ℕ → ℤ) → ((i : ℕ) → i < n → nat_abs (f i) ≤ m) → nat_abs (sum n f) ≤ n * m
abs_sum n m f h = omega (arith, abs_sum_le n f (λ i. m) h, sumℕ_const n m)

-- a weighted sum of numbers that are at most B
pub abs_weighted : (n B : ℕ) (x f : ℕ → ℤ) (c : ℕ → ℕ) → ((i : ℕ) → i < n → nat_abs (x i) ≤ c i) → ((i : ℕ) → i < n → nat_abs (f i) ≤ B) →
    nat_abs (sum n (λ i. x i *ℤ f i)) ≤ B * sum_ℕ n c
abs_weighted n B x f c hx hf = omega (
  arith,
  abs_sum_le n (λ i. x i *ℤ f i) (λ i. B * c i) (λ i l. omega (arith, abs-*-le (x i) (f i) (c i) B (hx i l) (hf i l))),
  sumℕ-scale n B c,
)

-- a sum of squares is that of the sizes
pub sum-squares : (n : ℕ) (f : ℕ → ℤ) → sum n (λ i. f i *ℤ f i) ≡ pos (sum_ℕ n (λ i. nat_abs (f i) * nat_abs (f i)))
unfolding sum sum_ℕ
sum-squares zero f = refl
sum-squares (suc n) f = ap₂ ◌+ℤ◌ (sum-squares n f) (square_size (f n))
