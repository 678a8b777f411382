-- The card of a file of the second edition.
--     second-again      with optional fields it makes that very file
--     second-four       without them it makes the four fields, a file of the first edition
--     second-accepted   it is accepted
--     second_short      no card is longer than 65,536 bytes
-- Assumes nothing.
use Rattle.std.proofs.Common.{Ok, Err}
use mathlib.Core.Path.{◌≡◌, refl, sym, ap, ap₂, ◌∙◌, subst}
use mathlib.Core.Bool.{Bool, true, false, cond}
use mathlib.Core.List.{List, ◌++◌, append_assoc}
use Prim.Native.Nat.{ℕ, ◌+◌, ◌-◌, ◌*◌, ◌≤◌, ◌<◌}
use native.Mathlib.Omega.{arith}
use native.Mathlib.Decide.{dec_le}
use native.Mathlib.Nat.{lt_of_not-le}
use lib.IntN.{ℤ}
use lib.ListN.{length, drop, length-append, length-drop, take-append-drop}
use lib.Seq.{drop-drop}
use borrow.Author.Tests.{lt-ltb, le-ltb}
use Rattle.records.specs.declared.Head.{Head}
use Rattle.records.specs.declared.Card.{Card}
use Rattle.meaning.specs.Design.{blocks, list_length}
use Rattle.meaning.specs.Refusals.{Verdict, accepted}
use Rattle.meaning.specs.Calls.{job_verdict}
use Rattle.meaning.specs.File.{head_of, blocks_of, readings_of, set_of, sum_of, end_at, read_verdict}
use Rattle.meaning.specs.Writing.{Bytes, readings_body, file_of}
use Rattle.meaning.specs.Edition2.{edition_field, start_at, four_of, names_tag, names_length, optional_at, read_verdict2}
use Rattle.meaning.specs.Card.{no_card, other_bytes, four_fields, is_second, file_from, card_file, card_limit, moved_to, card_verdict}
use Rattle.meaning.specs.CardText.{names_line, other_lines, others_at, four_text, card_under2, card_text_of2}
use Rattle.laws.proofs.Chains.{Job, job}
use Rattle.laws.proofs.Files.{file-job}
use Rattle.laws.proofs.Lengths.{refused-length}
use Rattle.laws.proofs.Writing.{writes_again}
use Rattle.laws.proofs.WritingBack.{file-length}
use Rattle.laws.proofs.Edition2.{four-part, four-inside, edition_front, Whole, whole, file_job2, Optionals, optional-fields}
use Rattle.laws.proofs.CardsSteps.{Says, Any, then, state}
use Rattle.laws.proofs.CardsFirst.{file_by, accepted_by, fourth, four-says, four-length, four-fields, other-part}
use Rattle.laws.proofs.CardsOptional.{bytes-part, Ends, optional-says, optional-length}

module _ (s : List ℕ) (b : Bytes s) (e : read_verdict2 s ≡ accepted) where
  abbrev four : List ℕ
  four = four_of s

  abbrev h : Head
  h = head_of four

  abbrev w : ℕ
  w = set_of four

  abbrev M : ℤ
  M = sum_of four

  four-read : read_verdict four ≡ accepted
  four-read = (file_job2 s e).1

  held : job_verdict h (blocks_of four) (readings_of four) w M ≡ accepted
  held = (file-job four four-read).1

  its_job : Job h (blocks_of four) (readings_of four) w M
  its_job = job h (blocks_of four) (readings_of four) w M held

  parts : Whole s
  parts = whole s (file_job2 s e).0

  four_bytes : Bytes four
  unfolding four_of
  four_bytes = bytes-part s b start_at (end_at (drop start_at s))

  again : file_of h (blocks_of four) (readings_of four) w M ≡ four
  again = writes_again four four_bytes four-read

  -- how long the four fields are
  four-long : length four ≡ 32 + (list_length h + 4 * blocks h)
  four-long = omega (arith, ap length again, file-length h (blocks_of four) (readings_of four) w M held)

  -- ---- the text, part by part

  abbrev optional : List ℕ
  optional = names_line s ++ other_lines (length s) s (others_at s)

  text-is : card_text_of2 s ≡ four_text four ++ optional
  unfolding card_text_of2
  text-is = ap (λ (v : Verdict). card_under2 v s) e ∙ append_assoc (four_text four) (names_line s) (other_lines (length s) s (others_at s))

  abbrev len : ℕ
  len = list_length h + 4 * blocks h

  fields_are : Optionals s (names_length h) names_tag (optional_at s)
  fields_are = optional-fields s parts.optional

  ends : Ends h w M (blocks h) s b (names_length h) (fourth h w M) optional len (drop (optional_at s) s)
  ends = optional-says s b w M (blocks h) (h.p - 1) len (omega (arith, its_job.measures.design.sizes.n_least)) fields_are

  -- the card after them
  last : Card
  last = state ends.wants h ends.count w M (blocks h) (len + length (drop (optional_at s) s))

  abbrev body : List ℕ
  body = blocks_of four ++ readings_body (readings_of four) ++ drop (optional_at s) s

  says : Says Any no_card (card_text_of2 s) last body
  unfolding last
  says = subst (λ (t : List ℕ). Says Any no_card t last body) (sym text-is)
      (then (four-says h (blocks_of four) (readings_of four) w M held) ends.says)

  -- ---- the file

  four-made : four_fields last body ≡ four
  unfolding last
  four-made =
      four-fields h (blocks_of four) (readings_of four) w M held ends.wants ends.count (len + length (drop (optional_at s) s)) (drop (optional_at s) s) ∙ again

  other-made : other_bytes last body ≡ drop (optional_at s) s
  unfolding last
  other-made =
      other-part h (blocks_of four) (readings_of four) w M held ends.wants ends.count (len + length (drop (optional_at s) s)) (drop (optional_at s) s)

  -- the edition field, the four, and the others are the file
  file-is : edition_field ++ four ++ drop (optional_at s) s ≡ s
  file-is =
      ap (λ (r : List ℕ). edition_field ++ r) (ap₂ (λ (x y : List ℕ). x ++ y) (sym (four-part s)) (sym (drop-drop (length four) start_at s))
      ∙ take-append-drop (length four) (drop start_at s))
      ∙ sym (edition_front s parts.edition_there)

  made_by : (t : Bool) → is_second last ≡ t →
      card_file (card_text_of2 s) ≡ cond t (edition_field ++ four_fields last body ++ other_bytes last body) (four_fields last body)
  unfolding file_from
  made_by t q = file_by (card_text_of2 s) last body says
      ∙ ap (λ (u : Bool). cond u (edition_field ++ four_fields last body ++ other_bytes last body) (four_fields last body)) q

  second_yes : optional_at s < length s → is_second last ≡ true
  unfolding last
  second_yes l = lt-ltb len (len + length (drop (optional_at s) s)) (omega (arith, length-drop (optional_at s) s))

  second_no : length s ≤ optional_at s → is_second last ≡ false
  unfolding last
  second_no l = le-ltb len (len + length (drop (optional_at s) s)) (omega (arith, length-drop (optional_at s) s))

  -- with an optional field it is that very file
  pub second-again : optional_at s < length s → card_file (card_text_of2 s) ≡ s
  second-again l = made_by true (second_yes l) ∙ ap₂ (λ (x y : List ℕ). edition_field ++ x ++ y) four-made other-made ∙ file-is

  -- without one it is the four fields
  pub second-four : length s ≤ optional_at s → card_file (card_text_of2 s) ≡ four_of s
  second-four l = made_by false (second_no l) ∙ four-made

  short : length (card_text_of2 s) ≤ card_limit
  short =
      let four-most = four-length h (blocks_of four) (readings_of four) w M held in
      let others-most = optional-length s b its_job.measures.design.sizes.objects-most fields_are in
      omega (arith, ap length text-is, length-append (four_text four) optional, four-most, others-most, parts.short)

  -- and the card is accepted
  pub second-accepted : card_verdict (card_text_of2 s) ≡ accepted
  unfolding last
  second-accepted =
      let t = card_text_of2 s in
      accepted_by t last body says short refl ends.whole (omega (arith, four-long, four-inside s parts.edition_there.long, length-drop (optional_at s) s, parts.short)) (by (dec_le (length s) (optional_at s)))
    where
      by : Dec (length s ≤ optional_at s) →
          cond (is_second last) (moved_to (card_text_of2 s) start_at (read_verdict2 (card_file (card_text_of2 s)))) (moved_to (card_text_of2 s) 0 (read_verdict (card_file (card_text_of2 s))))
          ≡ accepted
      by (yes l) = rw (second_no l) (ap (moved_to (card_text_of2 s) 0) (ap read_verdict (second-four l) ∙ four-read))
      by (no l) = rw (second_yes (lt_of_not-le l)) (ap (moved_to (card_text_of2 s) start_at) (ap read_verdict2 (second-again (lt_of_not-le l)) ∙ e))

-- the text for any file is at most 64 KiB
pub second_short : (s : List ℕ) → Bytes s → length (card_text_of2 s) ≤ card_limit
unfolding card_text_of2
second_short s b = by (read_verdict2 s) refl
  where
    by : (v : Verdict) → read_verdict2 s ≡ v → length (card_under2 v s) ≤ card_limit
    by (Ok done) e = subst (λ (v : Verdict). length (card_under2 v s) ≤ card_limit) e (short s b e)
    by (Err why) e = omega (arith, refused-length why.number why.place)
