-- What the verdict of writing says of the answer and of the room after. Assumes nothing.
use mathlib.Core.Path.{◌≡◌, refl, ap, ◌∙◌}
use mathlib.Core.List.{List, ◌++◌}
use Prim.Native.Nat.{ℕ, ◌≤◌, ◌<◌}
use native.Mathlib.Omega.{arith}
use borrow.Author.Tests.{leb-true}
use lib.Dec.{leb}
use lib.IntN.{ℤ}
use lib.ListN.{length, drop}
use Rattle.algebra.specs.Buffers.{Wrote}
use Rattle.algebra.proofs.Writing.{counts, in_front}
use Rattle.records.specs.declared.Head.{Head}
use Rattle.records.specs.declared.JobWritten.{JobWritten}
use Rattle.meaning.specs.Refusals.{accepted, refused, room}
use Rattle.meaning.specs.Calls.{job_verdict}
use Rattle.meaning.specs.Writing.{file_of, file_length, write_verdict, written_answer, written_after}
use Rattle.laws.proofs.Chains.{opened, held}
use Rattle.laws.proofs.WritingBack.{file-length}
use Rattle.writing.proofs.writable.Slices.{Laid, laid}

module _ (h : Head) (d : List ℕ) (y : List ℤ) (w : ℕ) (M : ℤ) (out : List ℕ) where
  -- the answer and the room after are those of writing
  abbrev pub Written : JobWritten → List ℕ → Type 0
  Written r after = (r ≡ written_answer h d y w M (length out)) × (after ≡ written_after h d y w M out)

  -- refused: no byte is written
  pub unwritten : (k at : ℕ) → write_verdict h d y w M (length out) ≡ refused k at → Written (record { verdict = refused k at; length = 0 }) out
  unwritten k at e = rw e (refl, refl)

  module _ (e : write_verdict h d y w M (length out) ≡ accepted) where
    both : (job_verdict h d y w M ≡ accepted) × (room (length out) (file_length h) ≡ accepted)
    unfolding write_verdict
    both = opened _ _ e

    -- accepted: the sizes fit, and the slices have their lengths
    pub fitting : Laid h d y
    fitting = laid h d y w M both.0

    -- and the file stands in front, as many bytes as were put
    pub written : {after : List ℕ} {r : ℕ} → Wrote out 0 (file_of h d y w M) after r → length out < 18446744073709551615 →
        Written (record { verdict = accepted; length = r }) after
    written {after} {r} p small =
        let long = file-length h d y w M both.0 in
        let fits : file_length h ≤ length out = leb-true _ _ (held (leb (file_length h) (length out)) 10 0 both.1) in
        let count : r ≡ file_length h = counts p (omega arith) ∙ long in
        let there : after ≡ file_of h d y w M ++ drop (file_length h) out = in_front p (omega arith) small
        ∙ ap (λ (i : ℕ). file_of h d y w M ++ drop i out) long in
        rw e ((λ j. record { verdict = accepted; length = count j }), there)
