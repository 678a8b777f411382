-- The verdict of a card by the first of its tests that refuses, and the answer that goes with it. Assumes nothing.
use Prim.Native.Nat.{ℕ, ◌≤◌, ◌<◌}
use mathlib.Core.Path.{◌≡◌, refl}
use mathlib.Core.Bool.{true, false}
use mathlib.Core.List.{List, ◌++◌}
use native.Mathlib.Omega.{arith}
use borrow.Author.Tests.{lt-ltb, le-ltb, leb-true}
use lib.Dec.{leb}
use lib.ListN.{length, drop}
use Rattle.algebra.specs.Buffers.{Wrote}
use Rattle.algebra.proofs.Writing.{counts, in_front}
use Rattle.records.specs.declared.Card.{Card}
use Rattle.records.specs.declared.CardRead.{CardRead}
use Rattle.meaning.specs.Refusals.{Verdict, accepted, refused, room}
use Rattle.meaning.specs.File.{read_verdict}
use Rattle.meaning.specs.Edition2.{read_verdict2}
use Rattle.meaning.specs.Card.{card_of, card_file, word_in, is_second, is_whole, moved_to, file_verdict, card_verdict, card_wants, card_answer, card_after}
use Rattle.laws.proofs.Chains.{opened, held}
use Rattle.cards.specs.Filing.{unreadable, filing, file_answer, file_after}

module _ (s out : List ℕ) where
  -- the answer, and the room after
  abbrev pub Answers : CardRead → List ℕ → Type 0
  Answers r after = (r ≡ card_answer s (length out)) × (after ≡ card_after s out)

  -- a card that cannot be read: what was wanted at that place
  module _ (place wants : ℕ) (v : card_verdict s ≡ refused 19 place) (w : card_wants s ≡ wants) where
    unread-is : Answers (unreadable place wants) out
    unfolding card_answer card_after
    unread-is = rw (v, w) (refl, refl)

  -- too long
  pub too_long : 65536 < length s → Answers (unreadable 0 22) out
  unfolding card_verdict card_wants
  too_long l = unread-is 0 22 (rw (lt-ltb 65536 (length s) l)) (rw (lt-ltb 65536 (length s) l))

  -- what was seen of it
  module _ (short : length s ≤ 65536) {seen : Card} (is : seen ≡ card_of s) where
    -- a word is not what it was to be
    pub bad-word : seen.bad ≡ true → Answers (unreadable (word_in 21 65536 s) seen.wants) out
    unfolding card_verdict card_wants
    bad-word b = unread-is (word_in 21 65536 s) seen.wants (rw (le-ltb 65536 (length s) short, ← is, b)) (rw (le-ltb 65536 (length s) short, ← is, b))

    module _ (good : seen.bad ≡ false) where
      -- it ends too early
      pub too_early : is_whole seen ≡ false → Answers (unreadable (length s) seen.wants) out
      unfolding card_verdict card_wants
      too_early n = unread-is (length s) seen.wants (rw (le-ltb 65536 (length s) short, ← is, good, n)) (rw (le-ltb 65536 (length s) short, ← is, good, n))

      module _ (whole : is_whole seen ≡ true) where
        -- its words give more than a file holds
        pub too_many : 16348 < seen.length → Answers (unreadable (word_in 21 16348 s) 22) out
        unfolding card_verdict card_wants
        too_many l = unread-is (word_in 21 16348 s) 22
            (rw (le-ltb 65536 (length s) short, ← is, good, whole, lt-ltb 16348 seen.length l))
            (rw (le-ltb 65536 (length s) short, ← is, good, whole, lt-ltb 16348 seen.length l))

        -- it can be read: the answer is that of its file
        module _ (few : seen.length ≤ 16348) where
          verdict-file : card_verdict s ≡ file_verdict s
          unfolding card_verdict
          verdict-file = rw (le-ltb 65536 (length s) short, ← is, good, whole, le-ltb 16348 seen.length few)

          wants_none : card_wants s ≡ 0
          unfolding card_wants
          wants_none = rw (le-ltb 65536 (length s) short, ← is, good, whole, le-ltb 16348 seen.length few)

          pub can_be_read : (file_answer s (length out) ≡ card_answer s (length out)) × (file_after s out ≡ card_after s out)
          unfolding card_answer card_after
          can_be_read = rw (verdict-file, wants_none) (refl, refl)

-- ---- the file

module _ (s : List ℕ) where
  -- its tests, by its edition
  pub second-tests : is_second (card_of s) ≡ true → moved_to s 4 (read_verdict2 (card_file s)) ≡ file_verdict s
  unfolding file_verdict
  second-tests e = rw e refl

  pub first-tests : is_second (card_of s) ≡ false → moved_to s 0 (read_verdict (card_file s)) ≡ file_verdict s
  unfolding file_verdict
  first-tests e = rw e refl

  module _ (out : List ℕ) where
    -- the answer of its file, and the room after
    abbrev pub Files : CardRead → List ℕ → Type 0
    Files r after = (r ≡ file_answer s (length out)) × (after ≡ file_after s out)

    -- accepted: there is room for the file, and it stands in front
    module _ (e : filing s (length out) ≡ accepted) where
      pub room_there : length (card_file s) ≤ length out
      room_there = leb-true _ _ (held (leb (length (card_file s)) (length out)) 10 0 (opened (file_verdict s) (room (length out) (length (card_file s))) e).1)

      pub filed : {after : List ℕ} {r : ℕ} (v : Verdict) → v ≡ accepted → Wrote out 0 (card_file s) after r → length out < 18446744073709551615 →
          Files (record { verdict = v; wants = 0; length = r }) after
      filed {after} {r} v a p small =
          let long = room_there in
          let count : r ≡ length (card_file s) = counts p (omega arith) in
          let there : after ≡ card_file s ++ drop (length (card_file s)) out = in_front p long small in
          rw (a, e) ((λ j. record { verdict = accepted; wants = 0; length = count j }), there)
