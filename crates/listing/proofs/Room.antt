-- What a text leaves in lent room and what is answered, where it has no room and where it has, by a dry run that counted it. Assumes nothing.
use mathlib.Core.Path.{◌≡◌, refl}
use mathlib.Core.List.{List}
use Prim.Native.Nat.{ℕ, ◌≤◌, ◌<◌}
use native.Mathlib.Omega.{arith}
use borrow.Author.Tests.{le-leb, lt-leb}
use lib.ListN.{length}
use Rattle.algebra.specs.Buffers.{Wrote}
use Rattle.algebra.proofs.Writing.{measured, longer, in_front}
use Rattle.meaning.specs.Text.{text_answer, text_after}
use Rattle.meaning.specs.Refusals.{refused, accepted}

module _ (text out : List ℕ) {one one' : List ℕ} {n : ℕ} (dry : Wrote one 0 text one' n) (small : length out < 18446744073709551615) where
  -- too long: refused, and the room is as it was
  pub refused_value : length out < n → record { verdict = refused 10 0; length = 0 } ≡ text_answer text (length out)
  refused_value l = rw (lt-leb (length text) (length out) (longer (length out) dry small l)) refl

  pub refused_room : length out < n → out ≡ text_after text out
  refused_room l = rw (lt-leb (length text) (length out) (longer (length out) dry small l)) refl

  -- with room: its length, and the text in front
  counted : n ≤ length out → n ≡ length text
  counted l = measured dry (omega arith)

  pub written_value : n ≤ length out → record { verdict = accepted; length = n } ≡ text_answer text (length out)
  written_value l =
      let e : n ≡ length text = counted l in
      rw (le-leb (length text) (length out) (omega arith)) (λ j. record { verdict = accepted; length = e j })

  pub written_room : {after : List ℕ} {r : ℕ} → n ≤ length out → Wrote out 0 text after r → after ≡ text_after text out
  written_room l w = let e : n ≡ length text = counted l in rw (le-leb (length text) (length out) (omega arith)) (in_front w (omega arith) small)
