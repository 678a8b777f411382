-- Refused, nothing is written; accepted, the file stands in front.
use Rattle.std.proofs.Common.{◌≡◌, sym, ◌∙◌, arith, to_z-of_z}
use Rattle.meaning.specs.Refusals.{accepted}
use Rattle.meaning.specs.Writing.{write_verdict}
use Rattle.verdicts.proofs.Told.{refusing, accepting}
use Rattle.writing.proofs.Answers.{unwritten, fitting, written}
use Rattle.writing.proofs.file.write.Goals as goal

pub returns-then-is_refused : goal.returns-then-is_refused
unfolding write_verdict
returns-then-is_refused c =
    let a = c.args in
    let r = refusing _ (sym c.is_refused.ensures ∙ c.if-is_refused.true) in
    let w = unwritten a.head a.blocks.now a.readings.now a.set a.sum a.out.now _ _ (sym (rw (to_z-of_z c.ranges.sum) at c.write_refusal-verdict.ensures) ∙ r) in
    rw r (record { value = w.0; out_after = w.1 })

pub put_file-length-requires : goal.put_file-length-requires
unfolding write_verdict
put_file-length-requires c =
    let a = c.args in
    let told = rw (to_z-of_z c.ranges.sum) at c.write_refusal-verdict.ensures in
    fitting a.head a.blocks.now a.readings.now a.set a.sum a.out.now (sym told ∙ accepting _ (sym c.is_refused.ensures ∙ c.if-is_refused.false))

pub returns : goal.returns
unfolding write_verdict
returns c =
    let a = c.args in
    let told = rw (to_z-of_z c.ranges.sum) at c.write_refusal-verdict.ensures in
    let passes : c.write_refusal-verdict.result ≡ accepted = accepting _ (sym c.is_refused.ensures ∙ c.if-is_refused.false) in
    let w = written a.head a.blocks.now a.readings.now a.set a.sum a.out.now (sym told ∙ passes)
    (rw (to_z-of_z c.ranges.sum) at c.put_file-length.ensures) (omega arith) in
    rw passes (record { value = w.0; out_after = w.1 })
