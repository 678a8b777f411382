-- The verdict on a file of the second edition, by the first of its tests that refuses, or by none; what is handed back under it; and the part of the file
-- that the four fields are. Assumes nothing.
use Rattle.std.proofs.Common.{Ok, Err}
use Prim.Native.Nat.{ℕ, ◌+◌, ◌-◌, ◌≤◌, ◌<◌}
use mathlib.Core.Path.{◌≡◌, refl, sym, ap, ◌∙◌}
use mathlib.Core.Bool.{true, false}
use mathlib.Core.List.{List, []}
use native.Mathlib.Omega.{arith}
use borrow.Author.Tests.{le-leb}
use lib.IntN.{ℤ}
use lib.ListN.{length, take, drop, drop_of_length-le}
use Rattle.records.specs.declared.Head.{Head}
use Rattle.records.specs.declared.Held.{Held}
use Rattle.records.specs.declared.Refusal.{Refusal}
use Rattle.records.specs.declared.SecondRead.{SecondRead}
use Rattle.records.specs.declared.Solved.{Solved}
use Rattle.meaning.specs.Refusals.{Verdict, accepted}
use Rattle.meaning.specs.Calls.{given, solved_under, words_under, values_under, deviations_under}
use Rattle.meaning.specs.File.{head_of, blocks_of, readings_of, set_of, sum_of, fields, solve_verdict}
use Rattle.meaning.specs.Edition2.{file_limit2, edition, four_of, moved_on, names_tag, names_length, optional_at, optionals, optional_fields, names_at, fields2, read_verdict2, read_answer2, solve_verdict2}
use Rattle.laws.proofs.Edition2.{four-part, given-moved, solve_moved2}
use Rattle.verdicts.specs.Zeros.{no_job, no_solution}
use Rattle.verdicts.proofs.Told.{refusing}
use Rattle.fields.specs.Contents.{held_in}
use Rattle.job.specs.Direct.{solved_on}

-- the part of the bytes from the start of the four fields to their end
pub part-is : (s : List ℕ) (end : ℕ) → end ≡ optional_at s → take (end - 4) (drop 4 s) ≡ four_of s
part-is s end e = let c : end - 4 ≡ length (four_of s) = omega (arith, e) in ap (λ (i : ℕ). take i (drop 4 s)) c ∙ four-part s

-- where there are fewer bytes nothing stands in them
pub nothing_there : (s : List ℕ) → length s < 4 → four_of s ≡ []
unfolding four_of
nothing_there s l = rw (drop_of_length-le s {i = 4} (omega arith)) refl

-- ---- the fields

module _ (s : List ℕ) where
  module _ (short : length s ≤ file_limit2) where
    -- the edition is refused
    pub edition_refuses : (why : Refusal) → edition s ≡ Err why → fields2 s ≡ Err why
    unfolding fields2
    edition_refuses why e = rw (le-leb (length s) file_limit2 short, e) refl

    module _ (there : edition s ≡ accepted) where
      -- one of the four fields is
      pub four_refuses : (why : Refusal) → moved_on (fields (four_of s)) ≡ Err why → fields2 s ≡ Err why
      unfolding fields2
      four_refuses why e = rw (le-leb (length s) file_limit2 short, there, e) refl

      -- none is, and the optional ones count
      pub optional-counts : moved_on (fields (four_of s)) ≡ accepted → fields2 s ≡ optional_fields s
      unfolding fields2
      optional-counts e = rw (le-leb (length s) file_limit2 short, there, e) refl

  -- the optional fields as they are looked at
  pub optional-is : (names end : ℕ) → names ≡ names_length (head_of (four_of s)) → end ≡ optional_at s →
      optionals (length s) s names names_tag end ≡ optional_fields s
  unfolding optional_fields
  optional-is names end a b = rw (a, b) refl

  -- refused fields refuse the file
  pub fields_refuse : (why : Refusal) → fields2 s ≡ Err why → read_verdict2 s ≡ Err why
  unfolding read_verdict2
  fields_refuse why e = rw e refl

  -- ---- what reading hands back

  -- refused: zeros
  pub read_none : (v : Verdict) → v ≡ read_verdict2 s → given v false true ≡ true →
      ◌≡◌ {A = SecondRead} (record { job = no_job v; names_at = 0 }) (read_answer2 s)
  read_none v e r = let f = sym e ∙ refusing v r in rw f (ap (λ (w : Verdict). record { job = no_job w; names_at = 0 }) (refusing v r))

  -- accepted: what the four fields hold, at its places
  pub read_there : (k : Held) (M : ℤ) (names : ℕ) → read_verdict2 s ≡ accepted → k ≡ held_in (four_of s) → M ≡ sum_of (four_of s) → names ≡ names_at s
      → ◌≡◌ {A = SecondRead} (record {
        job = record {
          verdict = accepted;
          head = k.head;
          blocks_at = 4 + k.blocks_at;
          readings_at = 4 + k.readings_at;
          set = k.set;
          sum = M;
        };
        names_at = names;
      }) (read_answer2 s)
  read_there k M names e held sum at = rw (e, held, sum, at) refl

  -- ---- what solving hands back

  -- refused fields: nothing is handed back but the refusal, and every room stays
  module _ (v : Verdict) (told : v ≡ fields2 s) (refuses : given v false true ≡ true) (words values deviations : ℕ) (r : Solved)
      (l : List ℕ) (x z : List ℤ) where
    abbrev four : List ℕ
    four = four_of s

    abbrev verdict : Verdict
    verdict = solve_verdict2 s words values deviations

    pub solve_none : r ≡ no_solution v
        → (r ≡ solved_under verdict (head_of four) (blocks_of four) (readings_of four) (set_of four))
        × ((l ≡ words_under verdict (head_of four) (blocks_of four) l)
        × ((x ≡ values_under verdict (head_of four) (blocks_of four) (readings_of four) (set_of four) (sum_of four) x)
        × (z ≡ deviations_under verdict (head_of four) (blocks_of four) (readings_of four) z)))
    unfolding read_verdict2 solve_verdict2
    solve_none e = rw (sym told ∙ refusing v refuses) (e ∙ ap no_solution (refusing v refuses), (refl, (refl, refl)))

  -- the record of a job worked out, with its verdict moved
  solved-moved : (verdict : Verdict) (h : Head) (d : List ℕ) (y : List ℤ) (w : ℕ) →
      solved_on (solved_under verdict h d y w) ≡ solved_under (moved_on verdict) h d y w
  solved-moved (Ok done) h d y w = refl
  solved-moved (Err why) h d y w = refl

  -- accepted fields: solving the four fields, with its verdict moved, is solving the file
  module _ (there : fields2 s ≡ accepted) (words values deviations : ℕ) (r q : Solved) (l left : List ℕ) (x ended z after : List ℤ) where
    abbrev first : Verdict
    first = solve_verdict (four_of s) words values deviations

    abbrev second : Verdict
    second = solve_verdict2 s words values deviations

    given_too : {A : Type 0} (answer nothing : A) → given first answer nothing ≡ given second answer nothing
    given_too answer nothing = rw (solve_moved2 s words values deviations there) (sym (given-moved first answer nothing))

    pub solve_there : (t : List ℕ) → t ≡ four_of s → q ≡ solved_on r
        → let v = solve_verdict t words values deviations in
        (r ≡ solved_under v (head_of t) (blocks_of t) (readings_of t) (set_of t))
        × ((left ≡ words_under v (head_of t) (blocks_of t) l)
        × ((ended ≡ values_under v (head_of t) (blocks_of t) (readings_of t) (set_of t) (sum_of t) x)
        × (after ≡ deviations_under v (head_of t) (blocks_of t) (readings_of t) z)))
        → let four = four_of s in
        (q ≡ solved_under second (head_of four) (blocks_of four) (readings_of four) (set_of four))
        × ((left ≡ words_under second (head_of four) (blocks_of four) l)
        × ((ended ≡ values_under second (head_of four) (blocks_of four) (readings_of four) (set_of four) (sum_of four) x)
        × (after ≡ deviations_under second (head_of four) (blocks_of four) (readings_of four) z)))
    solve_there t same moved e =
        let four = four_of s in
        let f = rw same at e in (
          moved ∙ ap solved_on f.0 ∙ solved-moved first (head_of four) (blocks_of four) (readings_of four) (set_of four)
              ∙ ap (λ (v : Verdict). solved_under v (head_of four) (blocks_of four) (readings_of four) (set_of four))
              (sym (solve_moved2 s words values deviations there)),
          (f.1.0 ∙ given_too _ _, (f.1.1.0 ∙ given_too _ _, f.1.1.1 ∙ given_too _ _)),
        )
