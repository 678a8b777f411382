-- The differences of a design, as they are counted. Assumes nothing.
use Rattle.std.specs.Prelude.{ℕ, ◌+◌, ◌≤◌, ◌<◌, true, cond, ◌≡◌, eqb, length, get_or}
use mathlib.Core.List.{List, map, replicate}
use Rattle.algebra.specs.Buffers.{over}
use Rattle.records.specs.declared.Head.{Head}
use Rattle.records.specs.declared.Differences.{Differences}
use Rattle.meaning.specs.Design.{occ, moved, company, opposition}
use Rattle.meaning.specs.Refusals.{in_range}
use Rattle.meaning.specs.Calls.{given, design_verdict}
use Rattle.laws.specs.Differences.{initial_left, initial_right, over_elements}
use Rattle.design.specs.Addition.{back}

-- ---- what is counted

-- how often object e stands in xs at the shift that takes y to 0; not at all where y is ∞
abbrev pub met_from : Head → ℕ → ℕ → List ℕ → ℕ
met_from h y e xs = cond (eqb y 255) 0 (occ e (map (moved h (back h y)) xs))

-- how often it stands there at the shifts that take an element of ys to 0
abbrev pub met : Head → ℕ → List ℕ → List ℕ → ℕ
met h e xs ys = over_elements (λ y. occ e (map (moved h (back h y)) xs)) ys

-- and in initial block q: on the side of the element that is taken to 0
abbrev pub within_of : Head → List ℕ → ℕ → ℕ → ℕ
within_of h d e q = met h e (initial_left h d q) (initial_left h d q) + met h e (initial_right h d q) (initial_right h d q)

-- and on the other
abbrev pub across_of : Head → List ℕ → ℕ → ℕ → ℕ
across_of h d e q = met h e (initial_right h d q) (initial_left h d q) + met h e (initial_left h d q) (initial_right h d q)

-- ---- what private functions ask and give

-- the bytes of a side
pub record Side (h : Head) (xs : List ℕ) : Type 0 where
  pub few : length xs ≤ 25
  pub ranged : (i : ℕ) → i < length xs → in_range h (get_or xs i 0) ≡ true

-- a row of 50 counts, none above c
pub record Row (c : ℕ) (row : List ℕ) : Type 0 where
  pub long : length row ≡ 50
  pub most : (e : ℕ) → e < 50 → get_or row e 0 ≤ c

-- a row after a count: each of 50 entries e has f e more
pub record More (f : ℕ → ℕ) (before after : List ℕ) : Type 0 where
  pub long : length after ≡ length before
  pub each : (e : ℕ) → e < 50 → get_or after e 0 ≡ get_or before e 0 + f e

-- ---- the answer

-- a row of 50 zeros, and one of f
abbrev pub no_row : List ℕ
no_row = replicate 50 0

abbrev pub row_of : (ℕ → ℕ) → List ℕ
row_of f = over 50 f no_row

-- how often each object shares a side with object 0, and opposes it; zeros where the block list is refused
abbrev pub differences_of : Head → List ℕ → Differences
differences_of h d = let verdict = design_verdict h d in let within = given verdict (row_of (λ e. company h d e 0)) no_row in
    record { verdict = verdict; within = within; across = given verdict (row_of (λ e. opposition h d e 0)) no_row }
