-- A job's verdict with its rooms, test by test, and what an accepted one says of them. Assumes nothing.
use mathlib.Core.Path.{◌≡◌, ◌∙◌}
use mathlib.Core.List.{List}
use Prim.Native.Nat.{ℕ, ◌*◌, ◌≤◌, ◌<◌}
use borrow.Author.Tests.{le-leb, lt-leb, leb-true}
use lib.Dec.{leb}
use lib.IntN.{ℤ}
use lib.ListN.{length}
use Rattle.algebra.specs.Buffers.{over}
use Rattle.records.specs.declared.Head.{Head}
use Rattle.meaning.specs.Design.{objects, blocks}
use Rattle.meaning.specs.Refusals.{accepted, refused}
use Rattle.meaning.specs.Calls.{word_at, develop_verdict, develop_after, job_verdict, rooms, analyse_verdict}
use Rattle.laws.proofs.Chains.{job, sound_accepted, given_yes, opened, held, accepts, goes_on, refused_stays, test_yes, test_no}

-- ---- rooms

module _ (h : Head) (words values deviations : ℕ) where
  -- no room for the words
  pub no_words : words < 2 * blocks h → rooms h words values deviations ≡ refused 10 0
  unfolding rooms
  no_words a = refused_stays _ 10 0 (refused_stays _ 10 0 (test_no (leb (2 * blocks h) words) 10 0 (lt-leb _ _ a)))

  module _ (l : 2 * blocks h ≤ words) where
    -- none for the values
    pub no_values : values < objects h → rooms h words values deviations ≡ refused 10 0
    unfolding rooms
    no_values a = refused_stays _ 10 0
        (goes_on _ (test_yes (leb (2 * blocks h) words) 10 0 (le-leb _ _ l)) ∙ test_no (leb (objects h) values) 10 0 (lt-leb _ _ a))

    module _ (m : objects h ≤ values) where
      -- none for the deviations
      pub no_deviations : deviations < blocks h → rooms h words values deviations ≡ refused 10 0
      unfolding rooms
      no_deviations a =
          goes_on _ (accepts (test_yes (leb (2 * blocks h) words) 10 0 (le-leb _ _ l)) (test_yes (leb (objects h) values) 10 0 (le-leb _ _ m)))
          ∙ test_no (leb (blocks h) deviations) 10 0 (lt-leb _ _ a)

      -- room for all
      pub roomy : blocks h ≤ deviations → rooms h words values deviations ≡ accepted
      unfolding rooms
      roomy a =
          accepts (accepts (test_yes (leb (2 * blocks h) words) 10 0 (le-leb _ _ l)) (test_yes (leb (objects h) values) 10 0 (le-leb _ _ m)))
          (test_yes (leb (blocks h) deviations) 10 0 (le-leb _ _ a))

-- ---- the job and its rooms

module _ (h : Head) (d : List ℕ) (y : List ℤ) (w : ℕ) (M : ℤ) (words values deviations : ℕ) where
  -- a refused job
  pub analyse_refused : (k at : ℕ) → job_verdict h d y w M ≡ refused k at → analyse_verdict h d y w M words values deviations ≡ refused k at
  unfolding analyse_verdict
  analyse_refused k at e = refused_stays _ k at e

  -- an accepted job: the rooms decide
  pub analyse_rooms : job_verdict h d y w M ≡ accepted → analyse_verdict h d y w M words values deviations ≡ rooms h words values deviations
  unfolding analyse_verdict
  analyse_rooms e = goes_on _ e

-- ---- what an accepted analysis gives to the rooms that it was lent

module _ (h : Head) (words values deviations : ℕ) where
  -- accepted rooms are long enough
  pub enough : rooms h words values deviations ≡ accepted → (2 * blocks h ≤ words) × (objects h ≤ values) × (blocks h ≤ deviations)
  unfolding rooms
  enough e =
      let a = opened _ _ e in
      let b = opened _ _ a.0 in
      (leb-true _ _ (held _ _ _ b.0), leb-true _ _ (held _ _ _ b.1), leb-true _ _ (held _ _ _ a.1))

-- the words of an accepted job, developed into a room that is long enough
pub developed-words : (h : Head) (d : List ℕ) (y : List ℤ) (w : ℕ) (M : ℤ) (words : List ℕ) {after : List ℕ} → job_verdict h d y w M ≡ accepted →
    2 * blocks h ≤ length words
    → after ≡ develop_after h d words → after ≡ over (2 * blocks h) (word_at h d) words
unfolding develop_verdict
developed-words h d y w M words e l is =
    let s = (job h d y w M e).measures.design in
    is ∙ given_yes (develop_verdict h d (length words)) _ _ (accepts (sound_accepted h d s) (test_yes (leb (2 * blocks h) (length words)) 10 0 (le-leb _ _ l)))
