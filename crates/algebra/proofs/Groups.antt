-- Additions that are commutative groups, and what follows from the laws of one.
--     reaches, same_shift    one shift takes x to i, and no other
--     same_place             a shift takes two numbers to two
--     carries                the shift that takes y to j takes y + e to j + e
--     difference-is          x is y + e where e is x less y, and nowhere else
--     alike_group            an addition that gives the same sums is a group too
--     modular_group          residues are a group
--     paired_group           two groups make one of numbers of two digits
-- Assumes nothing.
use Prim.Native.Nat.{ℕ, zero, suc, ◌+◌, ◌-◌, ◌*◌, ◌/◌, ◌%◌, ◌<◌}
use mathlib.Core.Path.{◌≡◌, sym, ◌∙◌, ap, ap₂, subst}
use native.Mathlib.Omega.{arith}
use native.Mathlib.Nat.{mod-lt, mod-eq_of_lt, mod_self, zero-mod, zero-div, mod-add-mod, add-mod-mod, div-add-mod', div-lt_iff_lt-mul, zero-mul}
use lib.Arith.{digits_lt, digits_div, digits_mod}
use Rattle.algebra.specs.Groups.{Group, modular, paired}

-- ---- what follows from the laws
module _ (n : ℕ) (add : ℕ → ℕ → ℕ) (g : Group n add) where
  -- the difference of two numbers below n
  abbrev pub less : ℕ → ℕ → ℕ
  less i x = add i (g.negative x)

  -- it is one
  pub less-closed : (i x : ℕ) → i < n → x < n → less i x < n
  less-closed i x l m = g.closed i (g.negative x) l (g.negative-closed x m)

  -- 0 changes nothing on the left either
  pub neutral-left : (x : ℕ) → x < n → add 0 x ≡ x
  neutral-left x l = g.commutative 0 x (omega arith) l ∙ g.neutral x l

  -- the shift by i less x takes x to i
  pub reaches : (i x : ℕ) → i < n → x < n → add x (less i x) ≡ i
  reaches i x l m =
      let o = g.negative-closed x m in
      ap (add x) (g.commutative i (g.negative x) l o) ∙ sym (g.associative x (g.negative x) i m o l)
      ∙ ap (λ (z : ℕ). add z i) (g.cancels x m) ∙ neutral-left i l

  -- what was added is taken away
  pub goes_back : (x s : ℕ) → x < n → s < n → add (g.negative x) (add x s) ≡ s
  goes_back x s l m =
      let o = g.negative-closed x l in
      sym (g.associative (g.negative x) x s o l m)
      ∙ ap (λ (z : ℕ). add z s) (g.commutative (g.negative x) x o l ∙ g.cancels x l) ∙ neutral-left s m

  -- one shift takes x to a place
  pub same_shift : (x s t : ℕ) → x < n → s < n → t < n → add x s ≡ add x t → s ≡ t
  same_shift x s t l m o e = sym (goes_back x s l m) ∙ ap (add (g.negative x)) e ∙ goes_back x t l o

  -- a shift takes one residue to a place
  pub same_place : (x y s : ℕ) → x < n → y < n → s < n → add x s ≡ add y s → x ≡ y
  same_place x y s l m o e = same_shift s x y o l m (g.commutative s x o l ∙ e ∙ g.commutative y s m o)

  -- the shift that takes y to j takes y + e to j + e
  pub carries : (y e j : ℕ) → y < n → e < n → j < n → add (add y e) (less j y) ≡ add j e
  carries y e j l m o =
      let u = less-closed j y o l in
      ap (λ (z : ℕ). add z (less j y)) (g.commutative y e l m) ∙ g.associative e y (less j y) m l u
      ∙ ap (add e) (reaches j y o l) ∙ g.commutative e j m o

  -- x is y + e where e is x less y, and nowhere else
  pub difference-is : (x y e : ℕ) → x < n → y < n → e < n → (add y e ≡ x → e ≡ less x y) × (e ≡ less x y → add y e ≡ x)
  difference-is x y e l m o = (
    λ q. same_shift y e (less x y) m o (less-closed x y l m) (q ∙ sym (reaches x y l m)),
    λ q. ap (add y) q ∙ reaches x y l m,
  )

-- ---- an addition that gives the same sums is a group too
module _ (n : ℕ) (add too : ℕ → ℕ → ℕ) (g : Group n add) (same : (x y : ℕ) → x < n → y < n → add x y ≡ too x y) where
  -- so it stays below n
  too_closed : (x y : ℕ) → x < n → y < n → too x y < n
  too_closed x y l m = subst (λ (z : ℕ). z < n) (same x y l m) (g.closed x y l m)

  pub alike_group : Group n too
  alike_group = record {
    closed = too_closed;
    associative = λ x y z l m o.
        sym (same (too x y) z (too_closed x y l m) o) ∙ ap (λ (u : ℕ). add u z) (sym (same x y l m)) ∙ g.associative x y z l m o
        ∙ ap (add x) (same y z m o) ∙ same x (too y z) l (too_closed y z m o);
    commutative = λ x y l m. sym (same x y l m) ∙ g.commutative x y l m ∙ same y x m l;
    neutral = λ x l. sym (same x 0 l (omega arith)) ∙ g.neutral x l;
    negative = g.negative;
    negative-closed = g.negative-closed;
    cancels = λ x l. sym (same x (g.negative x) l (g.negative-closed x l)) ∙ g.cancels x l;
  }

-- ---- residues

pub modular_group : (n : ℕ) → Group n (modular n)
modular_group n = record {
  closed = λ x y l m. mod-lt (x + y) (omega arith);
  associative = λ x y z l m o. mod-add-mod (x + y) n z ∙ ap (λ (k : ℕ). k % n) (turn x y z) ∙ sym (add-mod-mod x (y + z) n);
  commutative = λ x y l m. ap (λ (k : ℕ). k % n) (swap x y);
  neutral = λ x l. ap (λ (k : ℕ). k % n) (none x) ∙ mod-eq_of_lt l;
  negative = λ x. (n - x) % n;
  negative-closed = λ x l. mod-lt (n - x) (omega arith);
  cancels = λ x l. add-mod-mod x (n - x) n ∙ ap (λ (k : ℕ). k % n) (whole x l) ∙ mod_self n;
}
  where
    turn : (x y z : ℕ) → x + y + z ≡ x + (y + z)
    turn x y z = omega arith

    swap : (x y : ℕ) → x + y ≡ y + x
    swap x y = omega arith

    none : (x : ℕ) → x + 0 ≡ x
    none x = omega arith

    whole : (x : ℕ) → x < n → x + (n - x) ≡ n
    whole x l = omega arith

-- ---- numbers of two digits
module _ (a c : ℕ) (high low : ℕ → ℕ → ℕ) (g : Group a high) (k : Group c low) where
  -- where there is a number there is a lower digit
  some : (x : ℕ) → x < a * c → 0 < c
  some x l = go c l
    where
      go : (c : ℕ) → x < a * c → 0 < c
      go zero l = omega (arith, l)
      go (suc c) l = omega arith

  -- the upper digit
  upper : (x : ℕ) → x < a * c → x / c < a
  upper x l = (div-lt_iff_lt-mul (some x l)).1 l

  -- the lower
  lower : (x : ℕ) → x < a * c → x % c < c
  lower x l = mod-lt x (some x l)

  -- the upper digit of a sum
  sum-upper : (x y : ℕ) → x < a * c → y < a * c → paired c high low x y / c ≡ high (x / c) (y / c)
  sum-upper x y l m = digits_div (high (x / c) (y / c)) (k.closed (x % c) (y % c) (lower x l) (lower y m))

  -- the lower
  sum_lower : (x y : ℕ) → x < a * c → y < a * c → paired c high low x y % c ≡ low (x % c) (y % c)
  sum_lower x y l m = digits_mod (high (x / c) (y / c)) (k.closed (x % c) (y % c) (lower x l) (lower y m))

  abbrev joined : ℕ → ℕ → ℕ
  joined u w = u * c + w

  -- they are a group
  pub paired_group : Group (a * c) (paired c high low)
  paired_group = record {
    closed = λ x y l m. digits_lt (g.closed (x / c) (y / c) (upper x l) (upper y m)) (k.closed (x % c) (y % c) (lower x l) (lower y m));
    associative = λ x y z l m o. ap₂ joined
        (ap (λ (u : ℕ). high u (z / c)) (sum-upper x y l m) ∙ g.associative (x / c) (y / c) (z / c) (upper x l) (upper y m) (upper z o)
        ∙ sym (ap (high (x / c)) (sum-upper y z m o)))
        (ap (λ (u : ℕ). low u (z % c)) (sum_lower x y l m) ∙ k.associative (x % c) (y % c) (z % c) (lower x l) (lower y m) (lower z o)
        ∙ sym (ap (low (x % c)) (sum_lower y z m o)));
    commutative = λ x y l m. ap₂ joined (g.commutative (x / c) (y / c) (upper x l) (upper y m)) (k.commutative (x % c) (y % c) (lower x l) (lower y m));
    neutral = λ x l. ap₂ joined (ap (high (x / c)) (zero-div c) ∙ g.neutral (x / c) (upper x l))
        (ap (low (x % c)) (zero-mod c) ∙ k.neutral (x % c) (lower x l)) ∙ div-add-mod' x c;
    negative = λ x. joined (g.negative (x / c)) (k.negative (x % c));
    negative-closed = λ x l. digits_lt (g.negative-closed (x / c) (upper x l)) (k.negative-closed (x % c) (lower x l));
    cancels = λ x l.
        let w = k.negative-closed (x % c) (lower x l) in
        ap₂ joined (ap (high (x / c)) (digits_div (g.negative (x / c)) w) ∙ g.cancels (x / c) (upper x l))
        (ap (low (x % c)) (digits_mod (g.negative (x / c)) w) ∙ k.cancels (x % c) (lower x l))
        ∙ ap (λ (z : ℕ). z + 0) (zero-mul c);
  }
