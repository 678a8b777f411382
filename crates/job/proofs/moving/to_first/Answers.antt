-- An accepted move has its room, and the four fields stand in front.
use Rattle.std.proofs.Common.{sym, ◌∙◌, arith, length}
use Rattle.algebra.proofs.Writing.{named}
use Rattle.meaning.specs.Edition2.{four_of, to_first_verdict}
use Rattle.laws.proofs.Putting.{put}
use Rattle.verdicts.proofs.Told.{accepting}
use Rattle.job.proofs.moving.Putting.{first-room}
use Rattle.job.proofs.moving.to_first.Goals as goal

pub returns : goal.returns
returns c =
    let a = c.args in
    let says = accepting _ (sym c.is_refused.ensures ∙ c.if-is_refused.false) in
    let verdict = sym c.to_first_refusal-verdict.ensures ∙ says in
    let file = named c.put_text-length.ensures c.four_fields.ensures in
    let e = put (to_first_verdict a.bytes.now (length a.out.now)) (four_of a.bytes.now) a.out.now _ says verdict file
    (omega (arith, (first-room a.bytes.now (length a.out.now) verdict).1)) (omega arith) in
    record { value = e.0; out_after = e.1 }
