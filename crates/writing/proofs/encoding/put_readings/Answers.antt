-- A turn puts the low four bytes of one reading more.
use Rattle.std.proofs.Common.{arith, get_or, pos, ◌<◌, ◌^◌}
use lib.Signed.{mag}
use Rattle.algebra.proofs.Writing.{named}
use Rattle.writing.proofs.Shortened.{widened_short}
use Rattle.writing.proofs.encoding.Numbers.{no_readings, more-readings}
use Rattle.writing.proofs.encoding.put_readings.Goals as goal

pub loop-reading-init : goal.loop-reading-init
loop-reading-init c = no_readings _ _ c.args.readings.now

pub loop-reading-preserved : goal.loop-reading-preserved
loop-reading-preserved c =
    let readings = c.args.readings.now in
    let i = c.loop-reading.reading-index in
    let reading = get_or readings i (pos 0) in
    let small : mag reading < 2 ^ 31 = omega arith in
    more-readings readings i c.loop-reading-test.true c.loop-reading.invariant
    (named c.put_bytes-place.ensures (rw (c.bits.ensures, c.from.ensures) (widened_short reading small)))
