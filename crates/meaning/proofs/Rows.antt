-- A row is a worked case of the definitions, and `holds` is the test that they give what the row says. Assumes nothing.
use Prim.Native.Nat.{ℕ, zero, suc, ◌+◌, ◌-◌, ◌*◌, ◌%◌}
use mathlib.Core.Bool.{Bool, true, false, cond, not, ◌&&◌}
use mathlib.Core.List.{List, [], ◌∷◌}
use lib.ListN.{get_or, take, drop, length}
use lib.Dec.{eqb}
use lib.IntN.{ℤ, pos}
use lib.Ieee.{Float, nan, inf, fin}
use Rattle.algebra.specs.Ranges.{sum, all, eq_z}
use Rattle.records.specs.declared.Head.{Head}
use Rattle.records.specs.declared.Parameters.{Parameters}
use Rattle.meaning.specs.Design.{objects, parameters_of}
use Rattle.meaning.specs.Analysis.{sq, total, members, restrained, numerator, denominator, q, freedom, spread_hundredths}
use Rattle.meaning.specs.Publishing.{nearest_hundredths}
use Rattle.meaning.specs.Refusals.{Verdict, number, place}
use Rattle.meaning.specs.Calls.{judge_verdict}
use Rattle.meaning.specs.File.{head_of, blocks_of, readings_of}
use Rattle.meaning.specs.Text.{text_of}

-- a head from its four numbers
abbrev pub head : ℕ → ℕ → ℕ → ℕ → Head
head n flag p m = record { n = n; flag = flag; p = p; m = m }

-- two lists are alike
abbrev pub alike : List ℕ → List ℕ → Bool
alike [] [] = true
alike [] (y ∷ ys) = false
alike (x ∷ xs) [] = false
alike (x ∷ xs) (y ∷ ys) = eqb x y && alike xs ys

-- two f64s are alike to the bit
abbrev alike_float : Float → Float → Bool
alike_float nan y = false
alike_float (inf s) y = false
alike_float (fin s m e) nan = false
alike_float (fin s m e) (inf t) = false
alike_float (fin s m e) (fin t n f) = cond s t (not t) && eqb m n && eq_z e f

-- f 0 .. f (n - 1) are the numbers of a list
abbrev pub gives : ℕ → (ℕ → ℤ) → List ℤ → Bool
gives n f xs = eqb (length xs) n && all n (λ i. eq_z (f i) (get_or xs i (pos 0)))

-- how often the residue x arises as y less a residue of the list zs
abbrev less : ℕ → ℕ → ℕ → List ℕ → ℕ
less n x y [] = 0
less n x y (z ∷ zs) = cond (not (eqb z 255) && eqb ((y + n - z) % n) x) 1 0 + less n x y zs

-- how often x arises among the differences of ys less zs
abbrev arises : ℕ → ℕ → List ℕ → List ℕ → ℕ
arises n x zs [] = 0
arises n x zs (y ∷ ys) = cond (eqb y 255) 0 (less n x y zs) + arises n x zs ys

-- how often x arises among the differences within the sides of m initial blocks
abbrev pub within_sides : Head → ℕ → ℕ → List ℕ → ℕ
within_sides h x zero d = 0
within_sides h x (suc m) d =
    arises h.n x (take h.p d) (take h.p d)
    + arises h.n x (take h.p (drop h.p d)) (take h.p (drop h.p d))
    + within_sides h x m (drop (2 * h.p) d)

-- how often x arises among the differences across the sides of m initial blocks, in both orders
abbrev pub across_sides : Head → ℕ → ℕ → List ℕ → ℕ
across_sides h x zero d = 0
across_sides h x (suc m) d =
    arises h.n x (take h.p (drop h.p d)) (take h.p d)
    + arises h.n x (take h.p d) (take h.p (drop h.p d))
    + across_sides h x m (drop (2 * h.p) d)

-- what a row says
pub data Row : Type 0 where
  -- a job file, its totals, and its whole listing
  job : List ℕ → List ℤ → List ℕ → Row
  -- a file and its whole listing
  lists : List ℕ → List ℕ → Row
  -- a balanced design, its parameters v, b, r, p, L1, L2, and its degrees of freedom
  balances : Head → List ℕ → Parameters → ℕ → Row
  -- a verdict, the number and the place that it has
  refuses : Verdict → ℕ → ℕ → Row
  -- how often a residue arises among the differences within the sides of a design, and across them
  within : Head → List ℕ → ℕ → ℕ → Row
  across : Head → List ℕ → ℕ → ℕ → Row
  -- a head, beta, a restraint set, M and totals, with the numerators, their denominator, the sum of squared readings, Q, f and k
  totals : Head → ℕ → ℕ → ℤ → List ℤ → List ℤ → ℕ → ℤ → ℕ → ℕ → ℕ → Row
  -- Q, v·beta, f and k
  spreads : ℕ → ℕ → ℕ → ℕ → Row
  -- a fraction and its hundredths, of an object outside the restraint
  publishes : ℤ → ℕ → ℤ → Row
  -- a list of numbers and what it is to be
  holding : List ℕ → List ℕ → Row
  -- whole numbers f 0, f 1, .. and what they are to be
  counting : ℕ → (ℕ → ℤ) → List ℤ → Row
  -- two f64s, and 1 where they are alike
  floats : Float → Float → ℕ → Row

-- the test of a row
abbrev pub holds : Row → Bool
holds (job s ts text) = gives (objects (head_of s)) (total (head_of s) (blocks_of s) (readings_of s)) ts && alike (text_of s) text
holds (lists s text) = alike (text_of s) text
holds (balances h d p f) =
    eqb (number (judge_verdict h d)) 0
    && alike
    ((parameters_of h d).v ∷ (parameters_of h d).b ∷ (parameters_of h d).r ∷ (parameters_of h d).p ∷ (parameters_of h d).l1 ∷ (parameters_of h d).l2 ∷ freedom h ∷ [])
    (p.v ∷ p.b ∷ p.r ∷ p.p ∷ p.l1 ∷ p.l2 ∷ f ∷ [])
holds (refuses verdict k at) = eqb (number verdict) k && eqb (place verdict) at
holds (within h d x c) = eqb (within_sides h x h.m d) c
holds (across h d x c) = eqb (across_sides h x h.m d) c
holds (totals h be w M ts ns e yy Q f k) = let vb = objects h * be in let t = members (objects h) w in
    gives (objects h) (λ i. numerator t (get_or ts i (pos 0)) (restrained (objects h) w (λ i. get_or ts i (pos 0))) vb M) ns
    && eqb (denominator t vb) e && eq_z (q vb yy (sum (objects h) (λ i. sq (get_or ts i (pos 0))))) (pos Q)
    && eqb (freedom h) f && eqb (spread_hundredths Q vb (freedom h)) k
holds (spreads Q vb f k) = eqb (spread_hundredths Q vb f) k
holds (publishes a d x) = eq_z (nearest_hundredths a d) x
holds (holding xs ys) = alike xs ys
holds (counting n f xs) = gives n f xs
holds (floats x y c) = eqb (cond (alike_float x y) 1 0) c

-- every row holds
abbrev pub every : List Row → Bool
every [] = true
every (r ∷ rs) = holds r && every rs
