-- The addition by which initial blocks are developed is a commutative group, be it of residues or of a field. All that is proved of designs rests on two
-- laws of it alone, the last two here.
--     digits_group       numbers of k digits below q are a group, added digit by digit
--     field_group        so are the elements of a field, whose five digits have zeros above
--     plus_group         so are the elements of a head, by either addition
-- Assumes nothing.
use Prim.Native.Nat.{ℕ, zero, suc, ◌+◌, ◌*◌, ◌/◌, ◌%◌, ◌^◌, ◌<◌}
use mathlib.Core.Bool.{Bool, true, false, cond}
use mathlib.Core.Path.{◌≡◌, refl, sym, ap, ap₂, ◌∙◌, subst}
use native.Mathlib.Omega.{arith}
use native.Mathlib.Decide.{ℕ_discrete}
use native.Mathlib.Nat.{zero-mod, zero-div, zero-mul, suc-add, div-lt_iff_lt-mul, pow-zero, pow-suc}
use lib.Dec.{ltb}
use borrow.Author.Tests.{ne_eqb, ltb-true}
use Rattle.records.specs.declared.Head.{Head}
use Rattle.algebra.specs.Groups.{Group, modular}
use Rattle.algebra.proofs.Groups.{same_place, alike_group, modular_group, paired_group}
use Rattle.meaning.specs.Design.{by_field, field_prime, has_addition, digit_sum, plus}

-- ---- digits

-- numbers of k digits below q
pub digits_group : (q k : ℕ) → Group (q ^ k) (digit_sum q k)
unfolding digit_sum
digits_group q zero = record {
  closed = λ x y l m. omega (arith, pow-zero q);
  associative = λ x y z l m o. refl;
  commutative = λ x y l m. refl;
  neutral = λ x l. omega (arith, pow-zero q);
  negative = λ x. 0;
  negative-closed = λ x l. omega (arith, pow-zero q);
  cancels = λ x l. refl;
}
digits_group q (suc k) = subst (λ (n : ℕ). Group n (digit_sum q (suc k))) (sym (pow-suc q k))
    (paired_group (q ^ k) q (digit_sum q k) (modular q) (digits_group q k) (modular_group q))

-- zeros add to zero
zeros : (q j : ℕ) → digit_sum q j 0 0 ≡ 0
unfolding digit_sum
zeros q zero = refl
zeros q (suc j) = rw (zero-div q, zero-mod q, zeros q j) (ap₂ ◌+◌ (zero-mul q) (zero-mod q))

-- the digits above those of both numbers are zeros
zeros-above : (q k j x s : ℕ) → 0 < q → x < q ^ k → s < q ^ k → digit_sum q k x s ≡ digit_sum q (k + j) x s
unfolding digit_sum
zeros-above q zero j x s some l m =
    let no : x ≡ 0 = omega (arith, pow-zero q) in
    let nor : s ≡ 0 = omega (arith, pow-zero q) in
    sym (rw (no, nor) (zeros q (zero + j)))
zeros-above q (suc k) j x s some l m =
    ap (λ (u : ℕ). u * q + (x % q + s % q) % q)
    (zeros-above q k j (x / q) (s / q) some (higher x l) (higher s m))
    ∙ ap (λ (c : ℕ). digit_sum q c x s) (sym (suc-add k j))
  where
    higher : (x : ℕ) → x < q ^ suc k → x / q < q ^ k
    higher x l = (div-lt_iff_lt-mul some).1 (subst (λ (c : ℕ). x < c) (pow-suc q k) l)

-- ---- fields

-- n is a power of its prime, of at most five digits
record Power (n : ℕ) : Type 0 where
  digits : ℕ
  above : ℕ
  five : digits + above ≡ 5
  is : field_prime n ^ digits ≡ n

-- so is each n of the request
power : (n : ℕ) → 0 < field_prime n → Power n
unfolding field_prime
power n some = go (ℕ_discrete n 8) (ℕ_discrete n 16) (ℕ_discrete n 32) (ℕ_discrete n 9) (ℕ_discrete n 27) (ℕ_discrete n 25) (ℕ_discrete n 49)
  where
    go : Dec (n ≡ 8) → Dec (n ≡ 16) → Dec (n ≡ 32) → Dec (n ≡ 9) → Dec (n ≡ 27) → Dec (n ≡ 25) → Dec (n ≡ 49) → Power n
    go (yes e) b c d f g i = subst Power (sym e) (record { digits = 3; above = 2; five = refl; is = refl })
    go (no a) (yes e) c d f g i = subst Power (sym e) (record { digits = 4; above = 1; five = refl; is = refl })
    go (no a) (no b) (yes e) d f g i = subst Power (sym e) (record { digits = 5; above = 0; five = refl; is = refl })
    go (no a) (no b) (no c) (yes e) f g i = subst Power (sym e) (record { digits = 2; above = 3; five = refl; is = refl })
    go (no a) (no b) (no c) (no d) (yes e) g i = subst Power (sym e) (record { digits = 3; above = 2; five = refl; is = refl })
    go (no a) (no b) (no c) (no d) (no f) (yes e) i = subst Power (sym e) (record { digits = 2; above = 3; five = refl; is = refl })
    go (no a) (no b) (no c) (no d) (no f) (no g) (yes e) = subst Power (sym e) (record { digits = 2; above = 3; five = refl; is = refl })
    go (no a) (no b) (no c) (no d) (no f) (no g) (no i) =
        let none : field_prime n ≡ 0 = rw (ne_eqb n 8 a, ne_eqb n 16 b, ne_eqb n 32 c, ne_eqb n 9 d, ne_eqb n 27 f, ne_eqb n 25 g, ne_eqb n 49 i) in
        absurd (omega (arith, none, some))

-- the elements of a field
pub field_group : (n : ℕ) → 0 < field_prime n → Group n (digit_sum (field_prime n) 5)
field_group n some =
    let t = power n some in
    let q = field_prime n in
    alike_group n (digit_sum q t.digits) (digit_sum q 5)
    (subst (λ (z : ℕ). Group z (digit_sum q t.digits)) t.is (digits_group q t.digits))
    (λ x s l m.
    zeros-above q t.digits t.above x s some (subst (λ (z : ℕ). x < z) (sym t.is) l) (subst (λ (z : ℕ). s < z) (sym t.is) m)
    ∙ ap (λ (c : ℕ). digit_sum q c x s) t.five)

-- ---- the addition of a head

-- it is a group
pub plus_group : (h : Head) → has_addition h ≡ true → Group h.n (plus h)
unfolding plus
plus_group h = go (by_field h)
  where
    go : (b : Bool) → cond b (ltb 0 (field_prime h.n)) true ≡ true
        → Group h.n (λ x s. cond b (digit_sum (field_prime h.n) 5 x s) ((x + s) % h.n))
    go true e = field_group h.n (ltb-true 0 (field_prime h.n) e)
    go false e = modular_group h.n

-- an element moved by a shift is an element
pub plus-closed : (h : Head) → has_addition h ≡ true → (x s : ℕ) → x < h.n → s < h.n → plus h x s < h.n
plus-closed h a x s l m = (plus_group h a).closed x s l m

-- two elements that a shift moves to one place are one
pub plus_injective : (h : Head) → has_addition h ≡ true → (x y s : ℕ) → x < h.n → y < h.n → s < h.n → plus h x s ≡ plus h y s → x ≡ y
plus_injective h a x y s l m o e = same_place h.n (plus h) (plus_group h a) x y s l m o e
