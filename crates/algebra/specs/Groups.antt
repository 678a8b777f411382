-- The laws of an addition of the numbers below n, and how two additions make one of numbers of two digits. Assumes nothing.
use Rattle.std.specs.Prelude.{ℕ, ◌+◌, ◌*◌, ◌/◌, ◌%◌, ◌<◌, ◌≡◌}

-- the numbers below n are a commutative group under add, with 0 as its zero
pub record Group (n : ℕ) (add : ℕ → ℕ → ℕ) : Type 0 where
  pub closed : (x y : ℕ) → x < n → y < n → add x y < n
  pub associative : (x y z : ℕ) → x < n → y < n → z < n → add (add x y) z ≡ add x (add y z)
  pub commutative : (x y : ℕ) → x < n → y < n → add x y ≡ add y x
  pub neutral : (x : ℕ) → x < n → add x 0 ≡ x
  pub negative : ℕ → ℕ
  pub negative-closed : (x : ℕ) → x < n → negative x < n
  pub cancels : (x : ℕ) → x < n → add x (negative x) ≡ 0

-- the addition of residues
abbrev pub modular : ℕ → ℕ → ℕ → ℕ
modular n x y = (x + y) % n

-- numbers of two digits, the lower one below c, added digit by digit
abbrev pub paired : ℕ → (ℕ → ℕ → ℕ) → (ℕ → ℕ → ℕ) → ℕ → ℕ → ℕ
paired c high low x y = high (x / c) (y / c) * c + low (x % c) (y % c)
