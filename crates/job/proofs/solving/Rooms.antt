-- A direct call that is handed what a file holds leaves what the file makes, and its verdict, moved, is that of solving. Assumes nothing.
use Rattle.std.proofs.Common.{Ok, Err}
use Prim.Native.Nat.{ℕ, ◌≤◌}
use mathlib.Core.Path.{◌≡◌, refl, sym, ap, ◌∙◌}
use mathlib.Core.Bool.{true, false}
use mathlib.Core.List.{List}
use native.Mathlib.Omega.{arith}
use lib.IntN.{ℤ}
use Rattle.records.specs.declared.Head.{Head}
use Rattle.records.specs.declared.Solved.{Solved}
use Rattle.meaning.specs.Refusals.{Verdict, accepted, place}
use Rattle.meaning.specs.Calls.{given, analyse_verdict, solved_under, words_under, values_under, deviations_under}
use Rattle.meaning.specs.File.{head_of, blocks_of, set_of, sum_of, readings_of, fields, placed, read_verdict, solve_verdict}
use Rattle.laws.proofs.Files.{solve_moved}
use Rattle.verdicts.specs.Zeros.{no_solution}
use Rattle.verdicts.proofs.Told.{refusing}
use Rattle.job.proofs.places.Places.{analyse_place, file-most, given-placed}
use Rattle.job.specs.Direct.{place_limit, solved_in}

-- ---- moving

-- the record of a job worked out, with its verdict moved
solved-placed : (s : List ℕ) (verdict : Verdict) (h : Head) (d : List ℕ) (y : List ℤ) (w : ℕ)
    → record {
      verdict = placed s verdict;
      parameters = (solved_under verdict h d y w).parameters;
      denominator =
          (solved_under verdict h d y w).denominator;
      spreading = (solved_under verdict h d y w).spreading;
    }
    ≡ solved_under (placed s verdict) h d y w
solved-placed s (Ok done) h d y w = refl
solved-placed s (Err why) h d y w = refl

module _ (s : List ℕ) (there : fields s ≡ accepted) (words values deviations : ℕ) where
  -- the verdict of the direct call on what the file holds
  abbrev direct : Verdict
  direct = analyse_verdict (head_of s) (blocks_of s) (readings_of s) (set_of s) (sum_of s) words values deviations

  -- its record, with the verdict moved, is that of solving
  solved-direct : solved_in s (solved_under direct (head_of s) (blocks_of s) (readings_of s) (set_of s)) ≡ solved_under
      (solve_verdict s words values deviations) (head_of s) (blocks_of s) (readings_of s) (set_of s)
  solved-direct = rw (solve_moved s words values deviations there) (solved-placed s direct (head_of s) (blocks_of s) (readings_of s) (set_of s))

  -- its place is within the limit
  direct-near : place direct ≤ place_limit
  direct-near = omega (arith, analyse_place (head_of s) (blocks_of s) (readings_of s) (set_of s) (sum_of s) words values deviations, file-most s there)

  -- what is given under its verdict is given under that of solving
  direct-given : {A : Type 0} (answer nothing : A) → given direct answer nothing ≡ given (solve_verdict s words values deviations) answer nothing
  direct-given answer nothing = rw (solve_moved s words values deviations there) (sym (given-placed s direct answer nothing))

-- ---- what the call leaves

-- a direct call that was handed what the file holds: with its verdict moved, all that it hands back and leaves is that of solving
module _ (s : List ℕ) (there : fields s ≡ accepted) (h : Head) (d : List ℕ) (y : List ℤ) (w : ℕ) (M : ℤ)
    (head : h ≡ head_of s) (listed : d ≡ blocks_of s) (readings : y ≡ readings_of s) (set : w ≡ set_of s) (sum : M ≡ sum_of s)
    (words values deviations : ℕ) (r : Solved) where
  -- its place is within the limit
  pub solve_near : r ≡ solved_under (analyse_verdict h d y w M words values deviations) h d y w → place r.verdict ≤ place_limit
  solve_near e = rw (e, head, listed, readings, set, sum) (direct-near s there words values deviations)

module _ (s : List ℕ) (there : fields s ≡ accepted) (h : Head) (d : List ℕ) (y : List ℤ) (w : ℕ) (M : ℤ)
    (head : h ≡ head_of s) (listed : d ≡ blocks_of s) (readings : y ≡ readings_of s) (set : w ≡ set_of s) (sum : M ≡ sum_of s)
    (words values deviations : ℕ) (r q : Solved) (l left : List ℕ) (x ended z after : List ℤ) where
  pub solve_direct : q ≡ solved_in s r
      → (r ≡ solved_under (analyse_verdict h d y w M words values deviations) h d y w)
      × ((left ≡ words_under (analyse_verdict h d y w M words values deviations) h d l)
      × ((ended ≡ values_under (analyse_verdict h d y w M words values deviations) h d y w M x)
      × (after ≡ deviations_under (analyse_verdict h d y w M words values deviations) h d y z)))
      → (q ≡ solved_under (solve_verdict s words values deviations) (head_of s) (blocks_of s) (readings_of s) (set_of s))
      × ((left ≡ words_under (solve_verdict s words values deviations) (head_of s) (blocks_of s) l)
      × ((ended ≡ values_under (solve_verdict s words values deviations) (head_of s) (blocks_of s) (readings_of s) (set_of s) (sum_of s) x)
      × (after ≡ deviations_under (solve_verdict s words values deviations) (head_of s) (blocks_of s) (readings_of s) z)))
  solve_direct moved e =
      let f = rw (head, listed, readings, set, sum) at e in (
        moved ∙ ap (solved_in s) f.0 ∙ solved-direct s there words values deviations,
        (
          f.1.0 ∙ direct-given s there words values deviations _ _,
          (f.1.1.0 ∙ direct-given s there words values deviations _ _, f.1.1.1 ∙ direct-given s there words values deviations _ _),
        ),
      )

-- a file whose fields are refused: nothing is handed back but the refusal, and every room stays
module _ (s : List ℕ) (v : Verdict) (told : v ≡ fields s) (refuses : given v false true ≡ true) (words values deviations : ℕ) (r : Solved)
    (l : List ℕ) (x z : List ℤ) where
  pub solve_refused : r ≡ no_solution v
      → (r ≡ solved_under (solve_verdict s words values deviations) (head_of s) (blocks_of s) (readings_of s) (set_of s))
      × ((l ≡ words_under (solve_verdict s words values deviations) (head_of s) (blocks_of s) l)
      × ((x ≡ values_under (solve_verdict s words values deviations) (head_of s) (blocks_of s) (readings_of s) (set_of s) (sum_of s) x)
      × (z ≡ deviations_under (solve_verdict s words values deviations) (head_of s) (blocks_of s) (readings_of s) z)))
  unfolding read_verdict solve_verdict
  solve_refused e = rw (sym told ∙ refusing v refuses) (e ∙ ap no_solution (refusing v refuses), (refl, (refl, refl)))
