use Rattle.std.proofs.Common.{◌<◌, refl, arith}
use Rattle.meaning.specs.Design.{occ, moved}
use Rattle.design.proofs.development.Parts.{moved_below}
use Rattle.design.proofs.differences.Counting.{counted_next, part-most}
use Rattle.design.proofs.differences.add_side.Goals as goal

pub loop-byte-init : goal.loop-byte-init
unfolding occ
loop-byte-init c = record { long = refl; each = λ e m. omega arith }

pub offset_bounds-counts-object : goal.offset_bounds-counts-object
offset_bounds-counts-object c =
    let a = c.args in
    let below = moved_below a.addition.head a.shift _ a.addition.fits c.requires.0 (c.requires.1.ranged c.loop-byte.byte-index c.loop-byte-test.true) in
    omega (arith, c.object_of-object.ensures, below)

pub bounds-counts-object : goal.bounds-counts-object
bounds-counts-object c =
    let a = c.args in
    let below = moved_below a.addition.head a.shift _ a.addition.fits c.requires.0 (c.requires.1.ranged c.loop-byte.byte-index c.loop-byte-test.true) in
    omega (arith, c.object_of-object.ensures, below, c.requires.2.long)

pub bounds-counts-object-in-loop-byte : goal.bounds-counts-object-in-loop-byte
bounds-counts-object-in-loop-byte c =
    let a = c.args in
    let below = moved_below a.addition.head a.shift _ a.addition.fits c.requires.0 (c.requires.1.ranged c.loop-byte.byte-index c.loop-byte-test.true) in
    omega (arith, c.object_of-object.ensures, below, c.requires.2.long)

pub overflow_add-counts : goal.overflow_add-counts
overflow_add-counts c =
    let a = c.args in
    let l = c.loop-byte in
    let e = c.object_of-object.result in
    let m : e < 50 = omega (arith, bounds-counts-object-in-loop-byte c, c.requires.2.long) in
    let few = part-most (moved a.addition.head a.shift) e a.side.now l.byte-index c.requires.1.few (omega arith) in
    grind (arith, l.invariant.each e m, c.requires.2.most e m, few)

pub loop-byte-preserved : goal.loop-byte-preserved
loop-byte-preserved c =
    let a = c.args in
    counted_next (moved a.addition.head a.shift) a.side.now c.loop-byte.byte-index c.object_of-object.result c.loop-byte.counts a.counts.now
    c.loop-byte-test.true c.object_of-object.ensures (bounds-counts-object-in-loop-byte c) c.loop-byte.invariant
