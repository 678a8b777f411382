-- DESIGNS OVER PRIME POWER FIELDS (02, P4). Development is wanted by field addition for 8, 9, 16, 25, 27, 32 and 49 elements, an element being its base-q
-- digits packed into a number, q the prime, lowest digit first. A head with flag 2 (without ∞, v is n) or 3 (with ∞, v is n + 1) asks for field addition.
-- Shift s means adding element s. Demands 2 and 3 hold over both kinds of development, proved once over the addition. Refusals: 4 when flag is 2 or 3 and
-- n is not in the list; flags above 3 stay 4; ∞ with flag 2 is 5.
-- Demands 2 and 3 are the records of Demand2 and Demand3. They speak of every accepted job, whatever its flag: none stands twice, and none names an addition.
-- What their proofs take of it is `adds` below. `plus h x s` is the element x with the shift s added; `moved h s` adds it to an object, ∞ staying as it is;
-- `field_prime n` is q, and 0 where n is not in the list. The code adds by seven constant cards, each held to this by one computed test (design `right_card`,
-- carried to every entry by `card-gives`). Assumes nothing.
use Rattle.std.specs.Prelude.{true, false, List, map, ◌≡◌, ℕ, zero, suc, ◌+◌, ◌*◌, ◌/◌, ◌%◌, ◌≤◌, ◌<◌, length, get_or, take, drop}
use Rattle.algebra.specs.Groups.{Group}
use Rattle.records.specs.declared.Head.{Head}
use Rattle.meaning.specs.Design.{objects, field_prime, sized, plus, moved, left, right}
use Rattle.meaning.specs.Refusals.{refused, sizes, in_range, clean}

-- digit i of x in base q, the lowest being digit 0
abbrev pub digit : ℕ → ℕ → ℕ → ℕ
digit q zero x = x % q
digit q (suc i) x = digit q i (x / q)

-- for 8, 9, 16, 25, 27, 32 and 49 elements, with their primes, and no others
pub data FieldSize : ℕ → ℕ → Type 0 where
  eight : FieldSize 8 2
  nine : FieldSize 9 3
  sixteen : FieldSize 16 2
  twenty_five : FieldSize 25 5
  twenty_seven : FieldSize 27 3
  thirty_two : FieldSize 32 2
  forty_nine : FieldSize 49 7

abbrev pub TheFields : Type 0
TheFields = (n q : ℕ) → (FieldSize n q → (field_prime n ≡ q) × (0 < q)) × (field_prime n ≡ q → 0 < q → FieldSize n q)

module _ (h : Head) where
  -- q, the prime
  abbrev q : ℕ
  q = field_prime h.n

  pub record OverFields : Type 0 where
    -- A head with flag 2 (without ∞, v is n) or 3 (with ∞, v is n + 1)
    pub without-∞ : h.flag ≡ 2 → objects h ≡ h.n
    pub with-∞ : h.flag ≡ 3 → objects h ≡ h.n + 1
    -- asks for field addition: of the base-q digits of two elements, lowest digit first, each two are added modulo q, and nothing is carried
    pub digits : sized h ≡ true → 2 ≤ h.flag → (x s i : ℕ) → i < 5 → digit q i (plus h x s) ≡ (digit q i x + digit q i s) % q
    -- (with flag 0 or 1 residues are added modulo n, as ever)
    pub residues : h.flag ≤ 1 → (x s : ℕ) → plus h x s ≡ (x + s) % h.n
    -- Shift s means adding element s: block jn + s is initial block j with s added to each object, on either side
    pub shift_left : (d : List ℕ) (j s : ℕ) → s < h.n → left h d (j * h.n + s) ≡ map (moved h s) (take h.p (drop (2 * h.p * j) d))
    pub shift_right : (d : List ℕ) (j s : ℕ) → s < h.n → right h d (j * h.n + s) ≡ map (moved h s) (take h.p (drop (2 * h.p * j + h.p) d))
    -- Demands 2 and 3, proved once over the addition: by either, the elements are a commutative group
    pub adds : sized h ≡ true → Group h.n (plus h)
    -- Refusals: 4 when flag is 2 or 3 and n is not in the list
    pub other_n : 2 ≤ h.flag → ((r : ℕ) → FieldSize h.n r → ⊥) → sizes h ≡ refused 4 0
    -- flags above 3 stay 4
    pub other-flag : 3 < h.flag → sizes h ≡ refused 4 0
    -- ∞ with flag 2 is 5, at its byte or an earlier one that offends too
    pub no-∞ : h.flag ≡ 2 → in_range h 255 ≡ false
    pub ∞-refused : h.flag ≡ 2 → (d : List ℕ) (i : ℕ) → i < length d → get_or d i 0 ≡ 255 → (at : ℕ) × (at ≤ i) × (clean h d ≡ refused 5 at)
