-- The card of a file of the first edition.
--     four-says                     the card of an accepted job: its head, its set, its sum, and the bytes of its blocks and readings
--     file_by, accepted_by          a card by all of its parts: its file, and when it is accepted
--     four-fields, other-part       the four fields of such a card, and what follows them
--     first_short                   no card is longer than 65,536 bytes
--     first-again, first-accepted   the card that is printed for an accepted file makes that very file, and is accepted
-- Assumes nothing.
use Rattle.std.proofs.Common.{Ok, Err}
use mathlib.Core.Path.{◌≡◌, refl, sym, ap, ap₂, ◌∙◌, subst}
use mathlib.Core.Bool.{Bool, true, false, cond, not}
use mathlib.Core.List.{List, [], ◌∷◌, ◌++◌, append_assoc, append-nil}
use Prim.Native.Nat.{ℕ, ◌+◌, ◌-◌, ◌*◌, ◌≤◌, ◌<◌}
use native.Mathlib.Nat.{mul-le-mul}
use native.Mathlib.Omega.{arith}
use lib.Dec.{ltb}
use lib.IntN.{ℤ}
use lib.ListN.{length, take, drop, length-append}
use lib.Seq.{take_at, drop_at}
use borrow.Author.Tests.{le-ltb}
use Rattle.records.specs.declared.Head.{Head}
use Rattle.records.specs.declared.Card.{Card}
use Rattle.meaning.specs.Design.{objects, blocks, list_length}
use Rattle.meaning.specs.Refusals.{Verdict, accepted, refused}
use Rattle.meaning.specs.Calls.{job_verdict}
use Rattle.meaning.specs.File.{body_length, head_of, blocks_of, readings_of, set_of, sum_of, read_verdict}
use Rattle.meaning.specs.Writing.{Bytes, bytes_of, sizes_body, restraint_body, readings_body, field_bytes, file_of}
use Rattle.meaning.specs.Text.{each, line}
use Rattle.meaning.specs.Edition2.{edition_field, start_at, read_verdict2}
use Rattle.meaning.specs.Card.{
  no_card,
  card_of,
  bytes_in,
  word_in,
  field,
  other_bytes,
  four_fields,
  is_second,
  file_from,
  card_file,
  card_limit,
  bytes_limit,
  is_whole,
  moved_to,
  file_verdict,
  card_verdict,
}
use Rattle.meaning.specs.CardText.{reading_text, card_text, four_text, card_under, card_text_of}
use Rattle.laws.proofs.Chains.{listed-most, Job, job}
use Rattle.laws.proofs.Files.{file-job}
use Rattle.laws.proofs.Bytes.{numbers-bytes}
use Rattle.laws.proofs.Lengths.{refused-length}
use Rattle.laws.proofs.Writing.{restraint-long, objects-bytes, writes_again}
use Rattle.laws.proofs.CardsWords.{plain, texts, card_on, bytes_on, card-plain, bytes-plain}
use Rattle.laws.proofs.CardsSteps.{Says, Any, then, says_as, state}
use Rattle.laws.proofs.CardsHead.{head-says}
use Rattle.laws.proofs.CardsBlocks.{blocks_say}
use Rattle.laws.proofs.CardsRestraint.{restraint-says, readings_say}
use Rattle.laws.proofs.CardsLengths.{card-length}

-- ---- a card by all of its parts

module _ (t : List ℕ) (c : Card) (b : List ℕ) (x : Says Any no_card t c b) where
  all-card : card_of t ≡ c
  unfolding plain card_on
  all-card = card-plain t ∙ ap (λ (s : List ℕ). card_on no_card (texts s)) (sym (append-nil t)) ∙ x.card [] tt

  all-bytes : bytes_in t ≡ b
  unfolding plain bytes_on
  all-bytes = bytes-plain t ∙ ap (λ (s : List ℕ). bytes_on no_card (texts s)) (sym (append-nil t)) ∙ x.bytes [] tt ∙ append-nil b

  -- its file
  pub file_by : card_file t ≡ file_from c b
  unfolding card_file
  file_by = ap₂ file_from all-card all-bytes

  -- it is accepted where it may end and its file is accepted
  pub accepted_by : length t ≤ card_limit → c.bad ≡ false → is_whole c ≡ true → c.length ≤ bytes_limit →
      cond (is_second c) (moved_to t start_at (read_verdict2 (card_file t))) (moved_to t 0 (read_verdict (card_file t))) ≡ accepted → card_verdict t ≡ accepted
  unfolding card_verdict file_verdict
  accepted_by short good whole few file =
      ap (λ (u : Bool). cond u (refused 19 0) (judged (card_of t))) (le-ltb card_limit (length t) short)
      ∙ ap judged all-card
      ∙ ap (λ (u : Bool). cond u (refused 19 (word_in 21 card_limit t)) (cond (not (is_whole c)) (refused 19 (length t))
      (cond (ltb bytes_limit c.length) (refused 19 (word_in 21 bytes_limit t)) (under c)))) good
      ∙ ap (λ (u : Bool). cond (not u) (refused 19 (length t)) (cond (ltb bytes_limit c.length) (refused 19 (word_in 21 bytes_limit t)) (under c))) whole
      ∙ ap (λ (u : Bool). cond u (refused 19 (word_in 21 bytes_limit t)) (under c)) (le-ltb bytes_limit c.length few)
      ∙ file
    where
      under : Card → Verdict
      under c = cond (is_second c) (moved_to t start_at (read_verdict2 (card_file t))) (moved_to t 0 (read_verdict (card_file t)))

      judged : Card → Verdict
      judged c = cond c.bad (refused 19 (word_in 21 card_limit t)) (cond (not (is_whole c)) (refused 19 (length t))
          (cond (ltb bytes_limit c.length) (refused 19 (word_in 21 bytes_limit t)) (under c)))

-- ---- the card of a job

-- the card after its four fields
abbrev pub fourth : Head → ℕ → ℤ → Card
fourth h w M = state 17 h (h.p - 1) w M (blocks h) (list_length h + 4 * blocks h)

module _ (h : Head) (d : List ℕ) (y : List ℤ) (w : ℕ) (M : ℤ) (e : job_verdict h d y w M ≡ accepted) where
  its_job : Job h d y w M
  its_job = job h d y w M e

  pub four-says : Says Any no_card (card_text h d y w M) (fourth h w M) (d ++ readings_body y)
  four-says =
      let j = its_job in
      let f = j.measures.design.sizes in
      let long = j.measures.readings.readings-long in
      let some : 0 < length y = omega (arith, long, mul-le-mul f.m_least f.n_least) in
      let readings = readings_say h (h.p - 1) w M (list_length h) y some (λ k l. j.measures.readings.readings-most k (omega (arith, long))) in
      then (says_as refl (append-nil d) (then
      (then (head-says h (omega arith) f.flag-most)
      (blocks_say h d f.p_least (omega arith) f.m_least (omega arith) (objects-bytes h d y w M e) j.measures.design.long))
      (restraint-says h (h.p - 1) (list_length h) (objects h) w M (omega arith) j.restraint.set-some j.restraint.set-inside
      (omega (arith, j.restraint.sum-most)))))
      (subst (λ (k : ℕ). Says Any (state 15 h (h.p - 1) w M 0 (list_length h)) (line "readings" (each k (reading_text h y)))
      (state 17 h (h.p - 1) w M k (list_length h + 4 * k)) (readings_body y)) long readings)

  pub four-length : length (card_text h d y w M) ≤ 29323
  four-length = card-length h d y w M its_job (objects-bytes h d y w M e)

  -- ---- its fields

  list-long : length d ≡ list_length h
  list-long = its_job.measures.design.long

  body-long : length (readings_body y) ≡ 4 * blocks h
  body-long = omega (arith, numbers-bytes y, its_job.measures.readings.readings-long)

  field_is : (tag : ℕ) (body body' : List ℕ) → body ≡ body' → length body' ≡ body_length h tag → field tag body ≡ field_bytes h tag body'
  field_is tag body body' e l = ap (field tag) e ∙ ap (λ (k : ℕ). tag ∷ bytes_of 2 k ++ body') l

  module _ (k i len : ℕ) (more : List ℕ) where
    abbrev ends : Card
    ends = state k h i w M (blocks h) len

    pub four-fields : four_fields ends (d ++ readings_body y ++ more) ≡ file_of h d y w M
    unfolding four_fields file_of
    four-fields =
        let whole = append_assoc d (readings_body y) more in
        let two : take (list_length h) (d ++ readings_body y ++ more) ≡ d =
        ap (take (list_length h)) whole ∙ take_at d (readings_body y ++ more) (list_length h) list-long in
        let four : take (4 * blocks h) (drop (list_length h) (d ++ readings_body y ++ more)) ≡ readings_body y =
        ap (λ (s : List ℕ). take (4 * blocks h) (drop (list_length h) s)) whole
        ∙ ap (take (4 * blocks h)) (drop_at d (readings_body y ++ more) (list_length h) list-long) ∙ take_at (readings_body y) more (4 * blocks h) body-long in
        λ j. field 1 (sizes_body h) ++ field_is 2 _ d two list-long j ++ field_is 3 (restraint_body w M) (restraint_body w M) refl (restraint-long w M) j
        ++ field_is 4 _ (readings_body y) four body-long j

    pub other-part : other_bytes ends (d ++ readings_body y ++ more) ≡ more
    other-part =
        drop_at (d ++ readings_body y) more (list_length h + 4 * blocks h) (omega (arith, length-append d (readings_body y), list-long, body-long))

-- ---- a file of the first edition

-- the text for any file is at most 64 KiB
pub first_short : (s : List ℕ) → length (card_text_of s) ≤ card_limit
unfolding card_text_of
first_short s = by (read_verdict s) refl
  where
    by : (v : Verdict) → read_verdict s ≡ v → length (card_under v s) ≤ card_limit
    by (Ok done) e = omega (arith, four-length (head_of s) (blocks_of s) (readings_of s) (set_of s) (sum_of s) (file-job s e).1)
    by (Err why) e = omega (arith, refused-length why.number why.place)

module _ (s : List ℕ) (b : Bytes s) (e : read_verdict s ≡ accepted) where
  held : job_verdict (head_of s) (blocks_of s) (readings_of s) (set_of s) (sum_of s) ≡ accepted
  held = (file-job s e).1

  text-is : card_text_of s ≡ four_text s
  unfolding card_text_of
  text-is = ap (λ (v : Verdict). card_under v s) e

  says : Says Any no_card (card_text_of s) (fourth (head_of s) (set_of s) (sum_of s)) (blocks_of s ++ readings_body (readings_of s))
  says = subst (λ (t : List ℕ). Says Any no_card t (fourth (head_of s) (set_of s) (sum_of s)) (blocks_of s ++ readings_body (readings_of s))) (sym text-is)
      (four-says (head_of s) (blocks_of s) (readings_of s) (set_of s) (sum_of s) held)

  one : is_second (fourth (head_of s) (set_of s) (sum_of s)) ≡ false
  one = let l = list_length (head_of s) + 4 * blocks (head_of s) in le-ltb l l (omega arith)

  -- it is that very file
  pub first-again : card_file (card_text_of s) ≡ s
  unfolding file_from
  first-again =
      let h = head_of s in
      let c = fourth h (set_of s) (sum_of s) in
      let body = blocks_of s ++ readings_body (readings_of s) in
      file_by (card_text_of s) c body says
      ∙ ap (λ (u : Bool). cond u (edition_field ++ four_fields c body ++ other_bytes c body) (four_fields c body)) one
      ∙ ap (four_fields c) (sym (append-nil body))
      ∙ four-fields h (blocks_of s) (readings_of s) (set_of s) (sum_of s) held 17 (h.p - 1) (list_length h + 4 * blocks h) []
      ∙ writes_again s b e

  -- and the card is accepted
  pub first-accepted : card_verdict (card_text_of s) ≡ accepted
  first-accepted =
      let h = head_of s in
      let c = fourth h (set_of s) (sum_of s) in
      let t = card_text_of s in
      let f = (job h (blocks_of s) (readings_of s) (set_of s) (sum_of s) held).measures.design.sizes in
      accepted_by t c (blocks_of s ++ readings_body (readings_of s)) says (first_short s) refl refl (omega (arith, listed-most h f, f.blocks-most))
      (ap (λ (u : Bool). cond u (moved_to t start_at (read_verdict2 (card_file t))) (moved_to t 0 (read_verdict (card_file t)))) one
      ∙ ap (moved_to t 0) (ap read_verdict first-again ∙ e))
