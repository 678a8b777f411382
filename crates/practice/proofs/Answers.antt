-- What the verdicts of practice come to, test by test, and what is left and handed back under them.
--     practised-judged, known-..     past the lengths: the judgement of the design, then 16
--     practice-..                    the verdict of the readings, with too little room and with enough
--     develops, words-laid           an accepted practice is developed, and the words that it then has
--     front_few, front_readings      the readings, from the front of a room of 1,300
--     file_unwritten, file-written   the file of a practice job, refused and written
-- Assumes nothing.
use Rattle.std.proofs.Common.{
  Ok,
  Err,
  ◌≡◌,
  ℕ,
  zero,
  suc,
  ◌*◌,
  ◌<◌,
  ◌≤◌,
  true,
  false,
  ◌&&◌,
  leb,
  List,
  [],
  ◌∷◌,
  ◌++◌,
  length,
  take,
  drop,
  ℤ,
  sym,
  refl,
  ap,
  ◌∙◌,
  ap₂,
  arith,
  eq-eqb,
  le-leb,
}
use borrow.Author.Tests.{lt-leb}
use Rattle.algebra.specs.Buffers.{over}
use Rattle.algebra.proofs.Filling.{over_ext, over-long}
use Rattle.algebra.proofs.Tests.{and_both, and_fails_left, and_fails_right}
use Rattle.records.specs.declared.Head.{Head}
use Rattle.records.specs.declared.JobWritten.{JobWritten}
use Rattle.meaning.specs.Design.{objects, blocks, sized, list_length}
use Rattle.meaning.specs.Refusals.{Verdict, ◌⨾◌, accepted, refused, room, restraint}
use Rattle.meaning.specs.Calls.{given, design_verdict, written, judge_verdict, develop_verdict, words_under, word_at}
use Rattle.meaning.specs.Writing.{file_of, file_length, write_verdict, written_answer, written_after}
use Rattle.meaning.specs.Practice.{
  state,
  near,
  width_limit,
  known,
  practised,
  practice_reading,
  practice_verdict,
  practice_after,
  listed,
  practice_readings,
  true_sum,
  practice_file_verdict,
  practice_file_answer,
  practice_file_after,
}
use Rattle.laws.proofs.Chains.{accepts, goes_on, refused_stays, test_yes, test_no, given_yes, given_no, Sound, sound_accepted}
use Rattle.laws.proofs.Practice.{Practised, practised-is, practice_job_lem}
use Rattle.weighing.proofs.Developing.{Laid, laid}
use Rattle.practice.specs.Drawn.{reading_in}
use Rattle.practice.proofs.Drawing.{drawn}

-- ---- the tests

module _ (h : Head) (d : List ℕ) (u : List ℤ) (w : ℕ) where
  -- past the lengths: the judgement of the design, then 16
  pub practised-judged : sized h ≡ true → length d ≡ list_length h → length u ≡ objects h → practised h d u w ≡ judge_verdict h d ⨾ known u w
  unfolding practised judge_verdict design_verdict
  practised-judged s l m = rw (s, eq-eqb _ _ l, eq-eqb _ _ m) refl

  -- a true value out of range, or the width
  pub known-far : near u ≡ false → known u w ≡ refused 16 0
  known-far e = test_no (near u && leb w width_limit) 16 0 (and_fails_left (leb w width_limit) e)

  pub known-wide : width_limit < w → known u w ≡ refused 16 0
  known-wide l = test_no (near u && leb w width_limit) 16 0 (and_fails_right (near u) (lt-leb w width_limit l))

  -- both in range
  pub known_yes : near u ≡ true → w ≤ width_limit → known u w ≡ accepted
  known_yes e l = test_yes (near u && leb w width_limit) 16 0 (and_both e (le-leb w width_limit l))

  -- ---- the readings

  module _ (len : ℕ) where
    pub practice_refused : (k at : ℕ) → practised h d u w ≡ refused k at → practice_verdict h d u w len ≡ refused k at
    unfolding practice_verdict
    practice_refused k at e = refused_stays (room len (blocks h)) k at e

    pub practice_short : practised h d u w ≡ accepted → len < blocks h → practice_verdict h d u w len ≡ refused 10 0
    unfolding practice_verdict
    practice_short e l = goes_on (room len (blocks h)) e ∙ test_no (leb (blocks h) len) 10 0 (lt-leb (blocks h) len l)

    pub practice_enough : practised h d u w ≡ accepted → blocks h ≤ len → practice_verdict h d u w len ≡ accepted
    unfolding practice_verdict
    practice_enough e l = accepts e (test_yes (leb (blocks h) len) 10 0 (le-leb (blocks h) len l))

  -- 1,300 places are always enough
  pub practice_roomy : practice_verdict h d u w 1300 ≡ practised h d u w
  practice_roomy = go (practised h d u w) refl
    where
      go : (v : Verdict) → practised h d u w ≡ v → practice_verdict h d u w 1300 ≡ practised h d u w
      go (Ok done) e = practice_enough 1300 e (practised-is h d u w e).design.sizes.blocks-most ∙ sym e
      go (Err why) e = practice_refused 1300 why.number why.place e ∙ sym e

  module _ (start : ℕ) (readings : List ℤ) where
    -- a refusal leaves the room
    pub practice_leaves : (k at : ℕ) → practice_verdict h d u w (length readings) ≡ refused k at → readings ≡ practice_after h d u start w readings
    practice_leaves k at e = sym (given_no (practice_verdict h d u w (length readings)) _ readings k at e)

    -- what was drawn from the words of the design stands there else
    pub practice_lays : Practised h d u w → (words : List ℕ) → Laid h d words → practice_verdict h d u w (length readings) ≡ accepted →
        (after : List ℤ) → after ≡ over (blocks h) (λ k. reading_in words u w (state start k) k) readings → after ≡ practice_after h d u start w readings
    practice_lays p words laid e after f =
        f ∙ over_ext (blocks h) _ _ readings (λ k l. drawn h d u w p words laid start k l)
        ∙ sym (given_yes (practice_verdict h d u w (length readings)) _ readings e)

-- ---- the words

-- 2,600 places are enough for any development
pub develops : (h : Head) (d : List ℕ) {len : ℕ} → Sound h d → len ≡ 2600 → develop_verdict h d len ≡ accepted
unfolding develop_verdict
develops h d {len} s m =
    let enough : 2 * blocks h ≤ len = omega (arith, s.sizes.blocks-most, m) in
    accepts (sound_accepted h d s) (test_yes (leb (2 * blocks h) len) 10 0 (le-leb _ _ enough))

pub words-laid : (h : Head) (d l words : List ℕ) → Sound h d → length l ≡ 2600 → words ≡ words_under (develop_verdict h d 2600) h d l → Laid h d words
words-laid h d l words s m e =
    laid h d l words s (omega (arith, m, s.sizes.blocks-most))
    (e ∙ given_yes (develop_verdict h d 2600) (over (2 * blocks h) (word_at h d) l) l (develops h d s refl))

-- ---- the file

-- of a room that was filled from its front, the front is a list of its own
front_listed : (n : ℕ) (f : ℕ → ℤ) (l : List ℤ) → n ≤ length l → take n (over n f l) ≡ listed n f
unfolding over listed
front_listed zero f l m = refl
front_listed (suc n) f [] m = absurd (omega arith)
front_listed (suc n) f (x ∷ l) m = ap (λ (r : List ℤ). f 0 ∷ r) (front_listed n (λ i. f (suc i)) l (omega arith))

-- the readings that practice leaves in a room of 1,300
module _ (h : Head) (d : List ℕ) (u : List ℤ) (start w : ℕ) (l : List ℤ) {after : List ℤ} (whole : length l ≡ 1300)
    (f : after ≡ written (practice_verdict h d u w 1300) (blocks h) (practice_reading h d u start w) l) (e : practised h d u w ≡ accepted) where
  few : blocks h ≤ length l
  few = omega (arith, whole, (practised-is h d u w e).design.sizes.blocks-most)

  filled : after ≡ over (blocks h) (practice_reading h d u start w) l
  filled = f ∙ given_yes (practice_verdict h d u w 1300) _ _ (practice_roomy h d u w ∙ e)

  pub front_few : blocks h ≤ length after
  front_few = omega (arith, few, over-long (blocks h) (practice_reading h d u start w) l after filled)

  pub front_readings : take (blocks h) after ≡ practice_readings h d u start w
  front_readings = ap (take (blocks h)) filled ∙ front_listed (blocks h) (practice_reading h d u start w) l few

module _ (h : Head) (d : List ℕ) (u : List ℤ) (start w set : ℕ) (out : List ℕ) where
  -- refused: nothing is written, and no length is told
  pub file_unwritten : (v : Verdict) (k at : ℕ) → v ≡ practice_verdict h d u w 1300 → v ≡ refused k at →
      (record { verdict = v; length = 0 } ≡ practice_file_answer h d u w set (length out)) × (out ≡ practice_file_after h d u start w set out)
  unfolding practice_file_verdict
  file_unwritten v k at e r =
      let stays = refused_stays (room (length out) (file_length h)) k at (refused_stays (restraint h set (true_sum h u set)) k at
      (sym (practice_roomy h d u w) ∙ sym e ∙ r)) in (
        ap (λ (t : Verdict). record { verdict = t; length = 0 }) r
            ∙ sym (ap (λ (t : Verdict). record { verdict = t; length = given t (file_length h) 0 }) stays),
        sym (given_no (practice_file_verdict h d u w set (length out)) _ out k at stays),
      )

  -- else the file of the practice job is written under the verdict of its restraint and of the room
  module _ (e : practised h d u w ≡ accepted) where
    same-verdict : write_verdict h d (practice_readings h d u start w) set (true_sum h u set) (length out) ≡ practice_file_verdict h d u w set (length out)
    unfolding write_verdict practice_file_verdict
    same-verdict = ap (λ (v : Verdict). v ⨾ room (length out) (file_length h))
        (practice_job_lem h d u w (practised-is h d u w e) start set (true_sum h u set) ∙ sym (goes_on (restraint h set (true_sum h u set)) e))

    pub file-written : (y : List ℤ) (M : ℤ) → y ≡ practice_readings h d u start w → M ≡ true_sum h u set → {r : JobWritten} {after : List ℕ} →
        r ≡ written_answer h d y set M (length out) → after ≡ written_after h d y set M out →
        (r ≡ practice_file_answer h d u w set (length out)) × (after ≡ practice_file_after h d u start w set out)
    file-written y M p q a b = (
      a ∙ ap₂ (λ (y : List ℤ) (M : ℤ). written_answer h d y set M (length out)) p q
          ∙ ap (λ (v : Verdict). record { verdict = v; length = given v (file_length h) 0 }) same-verdict,
      b ∙ ap₂ (λ (y : List ℤ) (M : ℤ). written_after h d y set M out) p q
          ∙ ap (λ (v : Verdict). given v (file_of h d (practice_readings h d u start w) set (true_sum h u set) ++ drop (file_length h) out) out) same-verdict,
    )
