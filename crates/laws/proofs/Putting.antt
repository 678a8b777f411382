-- A file put into lent room under a verdict: what is answered, and the room after. Assumes nothing.
use Rattle.std.proofs.Common.{Ok, Err}
use Prim.Native.Nat.{ℕ, ◌≤◌, ◌<◌}
use mathlib.Core.Path.{◌≡◌, refl, sym}
use mathlib.Core.Bool.{true, false, false≢true}
use mathlib.Core.List.{List, ◌++◌}
use native.Mathlib.Omega.{arith}
use lib.ListN.{length, drop}
use Rattle.algebra.specs.Buffers.{Wrote}
use Rattle.algebra.proofs.Writing.{counts, in_front}
use Rattle.records.specs.declared.JobWritten.{JobWritten}
use Rattle.meaning.specs.Refusals.{Verdict, accepted}
use Rattle.meaning.specs.Calls.{given}
use Rattle.meaning.specs.Edition2.{put_answer, put_after}

module _ (verdict : Verdict) (file out : List ℕ) where
  -- the answer and the room after are those of putting the file
  abbrev pub Put : JobWritten → List ℕ → Type 0
  Put r after = (r ≡ put_answer verdict file) × (after ≡ put_after verdict file out)

  -- refused: no byte is written
  pub unput : (v : Verdict) → v ≡ verdict → given v false true ≡ true → Put (record { verdict = v; length = 0 }) out
  unput (Ok done) e r = absurd (false≢true r)
  unput (Err why) e r = rw (sym e) (refl, refl)

  -- accepted: the file stands in front, as many bytes as were put
  pub put : {after : List ℕ} {r : ℕ} (v : Verdict) → v ≡ accepted → verdict ≡ accepted → Wrote out 0 file after r → length file ≤ length out →
      length out < 18446744073709551615 → Put (record { verdict = v; length = r }) after
  put {after} {r} v a e p l small =
      let count : r ≡ length file = counts p (omega arith) in
      let there : after ≡ file ++ drop (length file) out = in_front p l small in
      rw (a, e) ((λ j. record { verdict = accepted; length = count j }), there)
