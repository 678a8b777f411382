-- Past the refusal the rows are those of object 0, and their test is that of balance.
use Rattle.std.proofs.Common.{◌≡◌, sym, ap, ◌∙◌, arith}
use Rattle.records.specs.declared.Differences.{Differences}
use Rattle.meaning.specs.Design.{objects}
use Rattle.meaning.specs.Refusals.{accepted}
use Rattle.meaning.specs.Calls.{design_verdict}
use Rattle.design.proofs.Within.{within-sizes}
use Rattle.laws.proofs.Chains.{sound}
use Rattle.verdicts.proofs.Told.{accepting}
use Rattle.balance.proofs.differences.Rows.{one-most, rows-judged}
use Rattle.balance.proofs.verdict.Tables.{judged-refused}
use Rattle.balance.proofs.differences.judge_by_differences.Goals as goal

pub returns-then-is_refused : goal.returns-then-is_refused
returns-then-is_refused c =
    let verdict = ap (λ (x : Differences). x.verdict) c.count_differences-counted.ensures in
    c.no_judgement.ensures ∙ judged-refused _ _ _ verdict (sym c.is_refused.ensures ∙ c.if-is_refused.true)

pub overflow_mul-b : goal.overflow_mul-b
overflow_mul-b c =
    let verdict = ap (λ (x : Differences). x.verdict) c.count_differences-counted.ensures in
    let f = (sound _ _ (sym verdict ∙ accepting _ (sym c.is_refused.ensures ∙ c.if-is_refused.false))).sizes in
    omega arith

pub judge_rows-requires : goal.judge_rows-requires
judge_rows-requires c =
    let verdict = ap (λ (x : Differences). x.verdict) c.count_differences-counted.ensures in
    let e : design_verdict c.args.head c.args.blocks.now ≡ accepted = sym verdict ∙ accepting _ (sym c.is_refused.ensures ∙ c.if-is_refused.false) in
    let f = (sound _ _ e).sizes in
    let v : c.objects-v.result ≡ objects c.args.head = c.objects-v.ensures ∙ within-sizes _ _ f in
    (omega arith, omega arith, one-most _ _ e c.count_differences-counted.ensures)

pub returns : goal.returns
returns c =
    let verdict = ap (λ (x : Differences). x.verdict) c.count_differences-counted.ensures in
    let e : design_verdict c.args.head c.args.blocks.now ≡ accepted = sym verdict ∙ accepting _ (sym c.is_refused.ensures ∙ c.if-is_refused.false) in
    let v : c.objects-v.result ≡ objects c.args.head = c.objects-v.ensures ∙ within-sizes _ _ (sound _ _ e).sizes in
    c.judge_rows.ensures ∙ rows-judged _ _ e c.count_differences-counted.ensures _ v
