-- Any two outcomes that keep the promise of a public function are identical: the answer and what each lent buffer holds at the end. `Post` is the
-- contract itself, as the check reads it from the source: where a clause of it is dropped or weakened, the theorem fails. Assumes nothing.
-- (tools/determined.py writes this file.)
use mathlib.Core.Path.{◌≡◌, sym, ◌∙◌}
use contract.Lifetimes.{Lfts}
use borrow.Fn.World.{ArgsD, ResD}
use borrow.Fn.Kinds.{ended_of}
use denote.Triple.Clauses.{AtExit}
use Rattle.numbers.specs.contracts.row.readings as readings
use Rattle.numbers.proofs.row.readings.Kinds as readings-kinds
use Rattle.numbers.proofs.row.readings.Reads as readings-reads
use Rattle.numbers.specs.contracts.signed.signed_64 as signed-64
use Rattle.numbers.proofs.signed.signed_64.Kinds as signed-64-kinds
use Rattle.numbers.proofs.signed.signed_64.Reads as signed-64-reads
use Rattle.numbers.specs.contracts.unsigned.byte as byte
use Rattle.numbers.proofs.unsigned.byte.Kinds as byte-kinds
use Rattle.numbers.proofs.unsigned.byte.Reads as byte-reads
use Rattle.numbers.specs.contracts.unsigned.two_bytes as two-bytes
use Rattle.numbers.proofs.unsigned.two_bytes.Kinds as two-bytes-kinds
use Rattle.numbers.proofs.unsigned.two_bytes.Reads as two-bytes-reads
use Rattle.numbers.specs.contracts.unsigned.eight_bytes as eight-bytes
use Rattle.numbers.proofs.unsigned.eight_bytes.Kinds as eight-bytes-kinds
use Rattle.numbers.proofs.unsigned.eight_bytes.Reads as eight-bytes-reads

-- `readings`: `out`
module _ (κs : Lfts 2) (a : ArgsD readings.signature κs) (r q : ResD readings.signature κs)
    (s t : AtExit (ended_of 2 readings-kinds.ps readings-kinds.r) κs) where
  pub readings_determined : readings-reads.Post κs a r s → readings-reads.Post κs a q t →
      s.1.1.1.0.now ≡ t.1.1.1.0.now
  readings_determined p e = p ∙ sym e

-- `signed_64`: the answer
module _ (κs : Lfts 1) (a : ArgsD signed-64.signature κs) (r q : ResD signed-64.signature κs)
    (s t : AtExit (ended_of 1 signed-64-kinds.ps signed-64-kinds.r) κs) where
  pub signed_64_determined : signed-64-reads.Post κs a r s → signed-64-reads.Post κs a q t →
      r ≡ q
  signed_64_determined p e = p ∙ sym e

-- `byte`: the answer
module _ (κs : Lfts 1) (a : ArgsD byte.signature κs) (r q : ResD byte.signature κs)
    (s t : AtExit (ended_of 1 byte-kinds.ps byte-kinds.r) κs) where
  pub byte_determined : byte-reads.Post κs a r s → byte-reads.Post κs a q t →
      r ≡ q
  byte_determined p e = p ∙ sym e

-- `two_bytes`: the answer
module _ (κs : Lfts 1) (a : ArgsD two-bytes.signature κs) (r q : ResD two-bytes.signature κs)
    (s t : AtExit (ended_of 1 two-bytes-kinds.ps two-bytes-kinds.r) κs) where
  pub two_bytes_determined : two-bytes-reads.Post κs a r s → two-bytes-reads.Post κs a q t →
      r ≡ q
  two_bytes_determined p e = p ∙ sym e

-- `eight_bytes`: the answer
module _ (κs : Lfts 1) (a : ArgsD eight-bytes.signature κs) (r q : ResD eight-bytes.signature κs)
    (s t : AtExit (ended_of 1 eight-bytes-kinds.ps eight-bytes-kinds.r) κs) where
  pub eight_bytes_determined : eight-bytes-reads.Post κs a r s → eight-bytes-reads.Post κs a q t →
      r ≡ q
  eight_bytes_determined p e = p ∙ sym e
