-- The tests of the job, and after them the room. A block list has at most 3,200 bytes, and there are at most 1,300 readings.
use Rattle.std.proofs.Common.{◌≡◌, sym, ◌∙◌, arith, rules}
use borrow.Author.Tests.{lt-leb, le-leb}
use mir.Facts.{to_z-of_z}
use Rattle.meaning.specs.Refusals.{accepted}
use Rattle.meaning.specs.Calls.{job_verdict}
use Rattle.meaning.specs.Writing.{file_length}
use Rattle.laws.proofs.Chains.{listed-most}
use Rattle.writing.proofs.writable.Slices.{laid}
use Rattle.writing.proofs.writable.write_refusal.Goals as goal

pub overflow_add-length-2 : goal.overflow_add-length-2
overflow_add-length-2 c =
    let a = c.args in
    let told = rw (to_z-of_z c.ranges.sum) at c.refusal.ensures in
    let lengths = laid a.head a.blocks.now a.readings.now a.set a.sum (sym told ∙ c.in_ok-refusal.was) in
    omega (arith, listed-most _ lengths.0, lengths.1, lengths.2, lengths.0.blocks-most)

pub returns-then-space-length : goal.returns-then-space-length
returns-then-space-length c =
    let a = c.args in
    let told = rw (to_z-of_z c.ranges.sum) at c.refusal.ensures in
    let sound : job_verdict a.head a.blocks.now a.readings.now a.set a.sum ≡ accepted = sym told ∙ c.in_ok-refusal.was in
    let lengths = laid a.head a.blocks.now a.readings.now a.set a.sum sound in
    rw (sound, lt-leb (file_length a.head) a.space (omega (arith, lengths.1, lengths.2))) (search rules)

pub returns : goal.returns
returns c =
    let a = c.args in
    let told = rw (to_z-of_z c.ranges.sum) at c.refusal.ensures in
    let sound : job_verdict a.head a.blocks.now a.readings.now a.set a.sum ≡ accepted = sym told ∙ c.in_ok-refusal.was in
    let lengths = laid a.head a.blocks.now a.readings.now a.set a.sum sound in
    rw (sound, le-leb (file_length a.head) a.space (omega (arith, lengths.1, lengths.2))) (search rules)
