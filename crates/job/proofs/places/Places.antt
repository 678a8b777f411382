-- Places: of a direct call's refusal how large they are, and what moving them to the file leaves as it is. Assumes nothing.
use Rattle.std.proofs.Common.{Ok, Err}
use Prim.Native.Nat.{ℕ, ◌+◌, ◌*◌, ◌^◌, ◌≤◌}
use mathlib.Core.Path.{◌≡◌, refl}
use mathlib.Core.Bool.{Bool, true, false, ◌&&◌}
use mathlib.Core.List.{List}
use native.Mathlib.Omega.{arith}
use lib.Dec.{eqb, leb, ltb}
use lib.IntN.{ℤ, nat_abs}
use lib.ListN.{length}
use Rattle.algebra.proofs.Tests.{first_bounds}
use Rattle.records.specs.declared.Head.{Head}
use Rattle.meaning.specs.Design.{objects, blocks, sized, list_length, balanced}
use Rattle.meaning.specs.Analysis.{reading, members}
use Rattle.meaning.specs.Refusals.{Verdict, accepted, reading_limit, sum_limit, place, test, ◌⨾◌, offends, offender, far_reading}
use Rattle.meaning.specs.Calls.{given, slices, contents, job_verdict, rooms, analyse_verdict}
use Rattle.meaning.specs.File.{head_of, third_at, readings_at, blocks_of, readings_of, fields, placed}
use Rattle.laws.proofs.Chains.{fits, listed-most}
use Rattle.laws.proofs.Files.{numbers-long, filed, blocks-long}
use Rattle.fields.proofs.Starts.{third-most}

-- ---- how large a place is

-- the place of a chain is that of one of its tests
chain_place : (a b : Verdict) (most : ℕ) → place a ≤ most → place b ≤ most → place (a ⨾ b) ≤ most
chain_place (Ok done) b most p q = q
chain_place (Err why) b most p q = p

-- three tests with no place, as those of the slices and of the rooms, are refused at 0
no_place : (a b c : Bool) (j k l most : ℕ) → place (test a j 0 ⨾ test b k 0 ⨾ test c l 0) ≤ most
no_place false b c j k l most = omega arith
no_place true false c j k l most = omega arith
no_place true true false j k l most = omega arith
no_place true true true j k l most = omega arith

-- the five tests of what a job holds are refused at one of their two places, or at 0
five_places : (a b c t d : Bool) (byte far most : ℕ) → byte ≤ most → far ≤ most →
    place (test a 5 byte ⨾ test b 6 0 ⨾ (test c 7 0 ⨾ test t 11 0) ⨾ test d 8 far) ≤ most
five_places false b c t d byte far most p q = p
five_places true false c t d byte far most p q = omega arith
five_places true true false t d byte far most p q = omega arith
five_places true true true false d byte far most p q = omega arith
five_places true true true true false byte far most p q = q
five_places true true true true true byte far most p q = omega arith

module _ (h : Head) (d : List ℕ) (y : List ℤ) where
  -- what a job holds is refused at a byte of its blocks, at a reading, or at 0
  contents-place : (w : ℕ) (M : ℤ) → place (contents h d y w M) ≤ length d + length y
  unfolding contents offender far_reading
  contents-place w M =
      five_places (eqb (offender h d) (length d)) (balanced h d) (ltb 0 w && ltb w (2 ^ objects h) && leb (nat_abs M) sum_limit)
      (leb 2 (members (objects h) w)) (eqb (far_reading y) (length y)) _ _ _
      (omega (arith, first_bounds (offends h d) 0 (length d)))
      (omega (arith, first_bounds (λ k. ltb reading_limit (nat_abs (reading y k))) 0 (length y)))

  -- and so is the job
  pub job-place : (w : ℕ) (M : ℤ) → place (job_verdict h d y w M) ≤ length d + length y
  unfolding job_verdict slices
  job-place w M =
      chain_place (slices h d y) (contents h d y w M) _
      (no_place (sized h) (eqb (length d) (list_length h)) (eqb (length y) (blocks h)) 4 3 3 _)
      (contents-place w M)

  -- with rooms too
  pub analyse_place : (w : ℕ) (M : ℤ) (words values deviations : ℕ) → place (analyse_verdict h d y w M words values deviations) ≤ length d + length y
  unfolding analyse_verdict rooms
  analyse_place w M words values deviations =
      chain_place (job_verdict h d y w M) (rooms h words values deviations) _ (job-place w M)
      (no_place (leb (2 * blocks h) words) (leb (objects h) values) (leb (blocks h) deviations) 10 10 10 _)

-- the third field of a file starts within 3210 bytes
pub third-low : (s : List ℕ) → fields s ≡ accepted → third_at s ≤ 3210
third-low s e = third-most s (fits (head_of s) (filed s e).size)

-- a file has at most 1300 readings
pub readings-most : (s : List ℕ) → fields s ≡ accepted → blocks (head_of s) ≤ 1300
readings-most s e = (fits (head_of s) (filed s e).size).blocks-most

-- the two slices of a file have at most 4500 entries
pub file-most : (s : List ℕ) → fields s ≡ accepted → length (blocks_of s) + length (readings_of s) ≤ 4500
file-most s e =
    let f = filed s e in
    let h = fits (head_of s) f.size in
    omega (arith, blocks-long s f, numbers-long s (readings_at s) (blocks (head_of s)), listed-most (head_of s) h, h.blocks-most)

-- ---- moving

-- what is given under a verdict is given under the moved one
pub given-placed : {A : Type 0} (s : List ℕ) (verdict : Verdict) (answer nothing : A) → given (placed s verdict) answer nothing ≡ given verdict answer nothing
given-placed s (Ok done) answer nothing = refl
given-placed s (Err why) answer nothing = refl
