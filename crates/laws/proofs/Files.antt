-- A file whose four fields are accepted holds a job: its slices have their lengths, so its verdict is a direct call's, moved to its place. Assumes nothing.
use Rattle.std.proofs.Common.{Ok, Err}
use mathlib.Core.Path.{◌≡◌, refl, sym, ◌∙◌, ap}
use mathlib.Core.Bool.{Bool, true, false}
use mathlib.Core.List.{List}
use Prim.Native.Nat.{ℕ, zero, suc, ◌+◌, ◌*◌}
use native.Mathlib.Omega.{arith}
use borrow.Author.Tests.{eqb-true, eq-eqb}
use lib.Dec.{eqb, leb}
use lib.ListN.{length}
use Rattle.records.specs.declared.Head.{Head}
use Rattle.meaning.specs.Design.{objects, blocks, sized, list_length}
use Rattle.meaning.specs.Refusals.{Verdict, accepted, test, ◌⨾◌, sizes}
use Rattle.meaning.specs.Calls.{slices, contents, job_verdict, rooms, analyse_verdict}
use Rattle.meaning.specs.File.{
  numbers_at,
  field_verdict,
  head_of,
  end_at,
  blocks_at,
  readings_at,
  blocks_of,
  set_of,
  sum_of,
  readings_of,
  fields,
  placed,
  read_verdict,
  solve_verdict,
}
use Rattle.laws.proofs.Chains.{opened, held, test_yes, accepts, goes_on, refused_is_not}
use Rattle.laws.proofs.Clean.{part_length}

-- as many numbers are read as were asked for
pub numbers-long : (s : List ℕ) (at c : ℕ) → length (numbers_at s at c) ≡ c
unfolding numbers_at
numbers-long s at zero = refl
numbers-long s at (suc c) = omega (arith, numbers-long s (at + 4) c)

-- what an accepted set of fields is
pub record Filed (s : List ℕ) : Type 0 where
  pub size : sized (head_of s) ≡ true
  pub ends : end_at s ≡ length s

-- accepted fields are such
pub filed : (s : List ℕ) → fields s ≡ accepted → Filed s
unfolding fields
filed s e =
    let a = opened _ _ e in
    let b = opened _ _ a.0 in
    let c = opened _ _ b.0 in
    let f = opened _ _ c.0 in
    record {
      size = held (sized (head_of s)) 4 0 (opened (field_verdict s 0 1 4) (sizes (head_of s)) f.0).1;
      ends = eqb-true _ _ (held (eqb (end_at s) (length s)) 9 (end_at s) a.1);
    }

-- the blocks of such a file have their length
pub blocks-long : (s : List ℕ) → Filed s → length (blocks_of s) ≡ list_length (head_of s)
blocks-long s f = part_length s blocks_at (list_length (head_of s)) (omega (arith, f.ends))

-- its slices are accepted
pub file-slices : (s : List ℕ) → fields s ≡ accepted → slices (head_of s) (blocks_of s) (readings_of s) ≡ accepted
unfolding slices
file-slices s e =
    let f = filed s e in
    accepts (accepts (test_yes (sized (head_of s)) 4 0 f.size)
    (test_yes (eqb (length (blocks_of s)) (list_length (head_of s))) 3 0 (eq-eqb _ _ (blocks-long s f))))
    (test_yes (eqb (length (readings_of s)) (blocks (head_of s))) 3 0 (eq-eqb _ _ (numbers-long s (readings_at s) (blocks (head_of s)))))

-- so a direct call on what the file holds looks at its contents alone
pub file-contents : (s : List ℕ) → fields s ≡ accepted →
    job_verdict (head_of s) (blocks_of s) (readings_of s) (set_of s) (sum_of s) ≡ contents (head_of s) (blocks_of s) (readings_of s) (set_of s) (sum_of s)
unfolding job_verdict
file-contents s e = goes_on _ (file-slices s e)

-- ---- places

-- moving goes test by test
pub placed_chain : (s : List ℕ) (a b : Verdict) → placed s (a ⨾ b) ≡ placed s a ⨾ placed s b
placed_chain s (Ok done) b = refl
placed_chain s (Err why) b = refl

-- only an accepted verdict is moved to an accepted one
pub placed-accepted : (s : List ℕ) (a : Verdict) → placed s a ≡ accepted → a ≡ accepted
placed-accepted s (Ok done) e = refl
placed-accepted s (Err why) e = refused_is_not _ _ e

-- 10 stays at 0
pub placed-rooms : (s : List ℕ) (h : Head) (words values deviations : ℕ) → placed s (rooms h words values deviations) ≡ rooms h words values deviations
unfolding rooms
placed-rooms s h words values deviations = go (leb (2 * blocks h) words) (leb (objects h) values) (leb (blocks h) deviations)
  where
    go : (a b c : Bool) → placed s (test a 10 0 ⨾ test b 10 0 ⨾ test c 10 0) ≡ test a 10 0 ⨾ test b 10 0 ⨾ test c 10 0
    go false b c = refl
    go true false c = refl
    go true true false = refl
    go true true true = refl

-- ---- the verdict of a file

-- once the fields are accepted it is the direct call's, moved
pub read-moved : (s : List ℕ) → fields s ≡ accepted → read_verdict s ≡ placed s (job_verdict (head_of s) (blocks_of s) (readings_of s) (set_of s) (sum_of s))
unfolding read_verdict
read-moved s e = goes_on _ e ∙ ap (placed s) (sym (file-contents s e))

-- and so with rooms
pub solve_moved : (s : List ℕ) (words values deviations : ℕ) → fields s ≡ accepted →
    solve_verdict s words values deviations ≡ placed s (analyse_verdict (head_of s) (blocks_of s) (readings_of s) (set_of s) (sum_of s) words values deviations)
unfolding solve_verdict analyse_verdict
solve_moved s words values deviations e =
    ap (λ v. v ⨾ rooms (head_of s) words values deviations) (read-moved s e)
    ∙ ap (λ v. placed s (job_verdict (head_of s) (blocks_of s) (readings_of s) (set_of s) (sum_of s)) ⨾ v) (sym (placed-rooms s (head_of s) words values deviations))
    ∙ sym (placed_chain s (job_verdict (head_of s) (blocks_of s) (readings_of s) (set_of s) (sum_of s)) (rooms (head_of s) words values deviations))

-- an accepted file holds an accepted job
pub file-job : (s : List ℕ) → read_verdict s ≡ accepted →
    (fields s ≡ accepted) × (job_verdict (head_of s) (blocks_of s) (readings_of s) (set_of s) (sum_of s) ≡ accepted)
unfolding read_verdict
file-job s e = let a = opened _ _ e in (a.0, file-contents s a.0 ∙ placed-accepted s _ a.1)

-- an accepted job in accepted fields is an accepted file
pub job-file : (s : List ℕ) → fields s ≡ accepted → job_verdict (head_of s) (blocks_of s) (readings_of s) (set_of s) (sum_of s) ≡ accepted → read_verdict s ≡ accepted
job-file s e j = read-moved s e ∙ ap (placed s) j
