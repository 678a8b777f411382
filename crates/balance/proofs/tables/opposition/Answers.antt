-- The table is counted in the words of the development, and zeros on a refusal.
use Rattle.std.proofs.Common.{◌≡◌, refl, sym, ◌∙◌, arith}
use Rattle.meaning.specs.Calls.{no_table}
use Rattle.laws.proofs.Chains.{sound, given_no}
use Rattle.verdicts.proofs.Told.{refusing, accepting}
use Rattle.balance.proofs.counting.Developed.{room_enough, opposition-table}
use Rattle.balance.proofs.tables.opposition.Goals as goal

pub returns-then-is_refused : goal.returns-then-is_refused
returns-then-is_refused c =
    let verdict = c.develop.ensures.value ∙ room_enough _ _ in
    sym (given_no _ _ no_table _ _ (sym verdict ∙ refusing _ (sym c.is_refused.ensures ∙ c.if-is_refused.true)))

pub overflow_mul-head : goal.overflow_mul-head
overflow_mul-head c =
    let verdict = c.develop.ensures.value ∙ room_enough _ _ in
    let f = (sound _ _ (sym verdict ∙ accepting _ (sym c.is_refused.ensures ∙ c.if-is_refused.false))).sizes in
    omega arith

pub returns : goal.returns
returns c =
    let verdict = c.develop.ensures.value ∙ room_enough _ _ in
    let accepts = sym verdict ∙ accepting _ (sym c.is_refused.ensures ∙ c.if-is_refused.false) in
    let told = opposition-table c.args.head c.args.blocks.now _ refl c.develop.ensures.words_after accepts in
    cc
