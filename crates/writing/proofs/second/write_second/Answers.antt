-- Refused, nothing is written; accepted, the file stands in front.
use Rattle.std.proofs.Common.{◌≡◌, sym, ◌∙◌, arith, length, to_z-of_z}
use Rattle.meaning.specs.Refusals.{accepted}
use Rattle.meaning.specs.Edition2.{file_of2, write_verdict2}
use Rattle.laws.proofs.Edition2.{second-length}
use Rattle.laws.proofs.Putting.{put}
use Rattle.verdicts.proofs.Told.{accepting}
use Rattle.writing.proofs.writable.Slices.{laid}
use Rattle.writing.proofs.second.Verdicts.{accepted_has}
use Rattle.writing.proofs.second.write_second.Goals as goal

pub put_second-length-requires : goal.put_second-length-requires
put_second-length-requires c =
    let a = c.args in
    let told = rw (to_z-of_z c.ranges.sum) at c.second_refusal-verdict.ensures in
    laid a.head a.blocks.now a.readings.now a.set a.sum
    (accepted_has a.head a.blocks.now a.readings.now a.set a.sum a.names.now (length a.out.now)
    (sym told ∙ accepting _ (sym c.is_refused.ensures ∙ c.if-is_refused.false))).0

pub returns : goal.returns
returns c =
    let a = c.args in
    let told = rw (to_z-of_z c.ranges.sum) at c.second_refusal-verdict.ensures in
    let passes : c.second_refusal-verdict.result ≡ accepted = accepting _ (sym c.is_refused.ensures ∙ c.if-is_refused.false) in
    let has = accepted_has a.head a.blocks.now a.readings.now a.set a.sum a.names.now (length a.out.now) (sym told ∙ passes) in
    let wrote = rw (to_z-of_z c.ranges.sum) at c.put_second-length.ensures in
    let w = put (write_verdict2 a.head a.blocks.now a.readings.now a.set a.sum a.names.now (length a.out.now))
    (file_of2 a.head a.blocks.now a.readings.now a.set a.sum a.names.now) a.out.now _ passes (sym told ∙ passes) wrote
    (omega (arith, has.1, second-length a.head a.blocks.now a.readings.now a.set a.sum a.names.now has.0)) (omega arith) in
    record { value = w.0; out_after = w.1 }
