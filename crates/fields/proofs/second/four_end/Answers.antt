-- By their sizes the four fields end within the bytes, or the bytes end before.
use Rattle.std.proofs.Common.{ap, ◌∙◌, List, ℕ, arith}
use Rattle.meaning.specs.File.{end_at}
use Rattle.fields.proofs.second.Answers.{rest-is, end_bound, end_none, end_where}
use Rattle.fields.proofs.second.four_end.Goals as goal

pub returns-then-bytes-lt4 : goal.returns-then-bytes-lt4
returns-then-bytes-lt4 c = end_none c.args.bytes.now c.if-bytes-lt4.true

pub overflow_add-end_at : goal.overflow_add-end_at
overflow_add-end_at c =
    let e = c.end_at.ensures ∙ ap (λ (t : List ℕ). end_at t) (rest-is c.args.bytes.now) in
    omega (arith, e, end_bound c.args.bytes.now c.type_inv.bytes)

pub returns : goal.returns
returns c =
    let e = c.end_at.ensures ∙ ap (λ (t : List ℕ). end_at t) (rest-is c.args.bytes.now) in
    omega (arith, e, end_where c.args.bytes.now (omega arith), c.min.ensures)
