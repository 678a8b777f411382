-- Past the refusal the two tables are those of the design, and the judgement is the one over them.
use Rattle.std.proofs.Common.{◌≡◌, refl, sym, ◌∙◌, arith}
use Rattle.meaning.specs.Design.{objects}
use Rattle.meaning.specs.Refusals.{accepted}
use Rattle.meaning.specs.Calls.{design_verdict}
use Rattle.design.proofs.Within.{within-sizes}
use Rattle.laws.proofs.Chains.{sound}
use Rattle.verdicts.proofs.Told.{accepting}
use Rattle.balance.specs.Tables.{tables_even}
use Rattle.balance.proofs.counting.Developed.{room_enough, words_left, company-table, opposition-table}
use Rattle.balance.proofs.verdict.Tables.{side-size, tables_tell, first-most, company-first, opposition-first, judged-refused, judged-accepted}
use Rattle.balance.proofs.verdict.judge.Goals as goal

pub returns-then-is_refused : goal.returns-then-is_refused
returns-then-is_refused c =
    let verdict = c.develop-verdict.ensures.value ∙ room_enough _ _ in
    c.no_judgement.ensures ∙ judged-refused _ _ _ verdict (sym c.is_refused.ensures ∙ c.if-is_refused.true)

pub overflow_mul-b : goal.overflow_mul-b
overflow_mul-b c =
    let verdict = c.develop-verdict.ensures.value ∙ room_enough _ _ in
    let f = (sound _ _ (sym verdict ∙ accepting _ (sym c.is_refused.ensures ∙ c.if-is_refused.false))).sizes in
    omega arith

pub judge_tables-requires : goal.judge_tables-requires
judge_tables-requires c =
    let verdict = c.develop-verdict.ensures.value ∙ room_enough _ _ in
    let e : design_verdict c.args.head c.args.blocks.now ≡ accepted = sym verdict ∙ accepting _ (sym c.is_refused.ensures ∙ c.if-is_refused.false) in
    let f = (sound _ _ e).sizes in
    let v : c.objects-v.result ≡ objects c.args.head = c.objects-v.ensures ∙ within-sizes _ _ f in
    let company = c.count_company-company.ensures ∙ company-table _ _ _ refl c.develop-verdict.ensures.words_after e in
    let opposition = c.count_opposition-opposition.ensures ∙ opposition-table _ _ _ refl c.develop-verdict.ensures.words_after e in
    (omega arith, omega arith, first-most _ _ e company opposition)

pub returns : goal.returns
returns c =
    let verdict = c.develop-verdict.ensures.value ∙ room_enough _ _ in
    let e : design_verdict c.args.head c.args.blocks.now ≡ accepted = sym verdict ∙ accepting _ (sym c.is_refused.ensures ∙ c.if-is_refused.false) in
    let v : c.objects-v.result ≡ objects c.args.head = c.objects-v.ensures ∙ within-sizes _ _ (sound _ _ e).sizes in
    let words = c.develop-verdict.ensures.words_after in
    let company = c.count_company-company.ensures ∙ company-table _ _ _ refl words e in
    let opposition = c.count_opposition-opposition.ensures ∙ opposition-table _ _ _ refl words e in
    let p = c.ones-p.ensures ∙ side-size _ _ e _ refl (words_left _ _ _ refl words e) in
    c.judge_tables.ensures
    ∙ judged-accepted _ _ (tables_even _ _ _ _) _ _ _ _ e v (tables_tell _ _ e company opposition) p (company-first _ _ e company opposition)
    (opposition-first _ _ e company opposition)
