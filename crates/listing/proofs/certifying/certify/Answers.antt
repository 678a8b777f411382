-- `certifying::certify`: without room for all of it nothing is written, and with room the text stands in front. Assumes nothing.
use Rattle.std.proofs.Common.{◌≡◌, ℤ, to_z, of_z, w64, nat_abs, ◌≤◌, arith}
use Rattle.algebra.proofs.Bounds.{mag_abs}
use Rattle.algebra.proofs.Signs.{read_back}
use Rattle.meaning.specs.Refusals.{sum_limit}
use Rattle.listing.proofs.Room.{refused_value, refused_room, written_value, written_room}
use Rattle.listing.proofs.certifying.certify.Goals as goal

-- the accepted sum is read as it was handed on
back : (sum : ℤ) → nat_abs sum ≤ sum_limit → to_z w64 (of_z w64 sum) ≡ sum
back sum small = read_back sum (omega (arith, mag_abs sum, small))

pub returns-then-out-length-clause-value : goal.returns-then-out-length-clause-value
returns-then-out-length-clause-value c =
    refused_value _ _ (rw (back _ c.requires.small) at c.put_certificate-length.ensures) (omega arith) (omega arith)

pub returns-then-out-length-clause-out_after : goal.returns-then-out-length-clause-out_after
returns-then-out-length-clause-out_after c =
    refused_room _ _ (rw (back _ c.requires.small) at c.put_certificate-length.ensures) (omega arith) (omega arith)

pub returns-clause-value : goal.returns-clause-value
returns-clause-value c =
    written_value _ _ (rw (back _ c.requires.small) at c.put_certificate-length.ensures) (omega arith) (omega arith)

pub returns-clause-out_after : goal.returns-clause-out_after
returns-clause-out_after c =
    let same = back c.args.found.sum c.requires.small in
    written_room _ _ (rw same at c.put_certificate-length.ensures) (omega arith) (omega arith) (rw same at c.put_certificate.ensures)
