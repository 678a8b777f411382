-- An accepted move has its room, and the edition field and the file stand in front.
use Rattle.std.proofs.Common.{sym, ◌∙◌, arith, rules, length}
use Rattle.algebra.proofs.Writing.{◌then◌, named}
use Rattle.meaning.specs.Edition2.{second_of, to_second_verdict}
use Rattle.laws.proofs.Putting.{put}
use Rattle.verdicts.proofs.Told.{accepting}
use Rattle.job.proofs.moving.Putting.{second-room}
use Rattle.job.proofs.moving.to_second.Goals as goal

pub returns : goal.returns
returns c =
    let a = c.args in
    let says = accepting _ (sym c.is_refused.ensures ∙ c.if-is_refused.false) in
    let verdict = sym c.to_second_refusal-verdict.ensures ∙ says in
    let file = named {t = second_of a.bytes.now} (c.put_text-start.ensures then c.put_text-length.ensures) (search rules) in
    let e = put (to_second_verdict a.bytes.now (length a.out.now)) (second_of a.bytes.now) a.out.now _ says verdict file
    (omega (arith, second-room a.bytes.now (length a.out.now) verdict)) (omega arith) in
    record { value = e.0; out_after = e.1 }
