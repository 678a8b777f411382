-- `practice`: past the tests what is drawn from the words of the design are its readings. Assumes nothing.
use Rattle.std.proofs.Common.{◌≡◌, length, sym, refl, ◌∙◌, arith, rules}
use Rattle.meaning.specs.Refusals.{accepted}
use Rattle.meaning.specs.Practice.{practised}
use Rattle.laws.proofs.Chains.{refused_is_not}
use Rattle.laws.proofs.Practice.{practised-is}
use Rattle.practice.proofs.Drawing.{knows}
use Rattle.practice.proofs.Answers.{practice_refused, practice_short, practice_enough, practice_leaves, practice_lays, develops, words-laid}
use Rattle.practice.proofs.readings.practice.Goals as goal

pub returns-in_err-practice_refusal : goal.returns-in_err-practice_refusal
returns-in_err-practice_refusal c =
    let a = c.args in
    let why = c.in_err-practice_refusal.field-0.0 in
    let verdict = practice_refused a.head a.blocks.now a.truths.now a.width (length a.readings.now) why.number why.place
    (sym c.practice_refusal.ensures ∙ c.in_err-practice_refusal.was) in
    record { value = rw verdict (search rules); readings_after = practice_leaves _ _ _ _ a.start a.readings.now _ _ verdict }

pub overflow_mul-b : goal.overflow_mul-b
overflow_mul-b c =
    let f = (practised-is _ _ _ _ (sym c.practice_refusal.ensures ∙ c.in_ok-practice_refusal.was)).design.sizes in
    omega arith

pub returns-then-readings-b : goal.returns-then-readings-b
returns-then-readings-b c =
    let a = c.args in
    let verdict = practice_short a.head a.blocks.now a.truths.now a.width (length a.readings.now) (sym c.practice_refusal.ensures ∙ c.in_ok-practice_refusal.was) (omega arith) in
    record { value = sym verdict; readings_after = practice_leaves _ _ _ _ a.start a.readings.now _ _ verdict }

-- a design that is accepted is developed
pub returns-in_err-develop : goal.returns-in_err-develop
returns-in_err-develop c =
    let p = practised-is _ _ _ _ (sym c.practice_refusal.ensures ∙ c.in_ok-practice_refusal.was) in
    let why = c.in_err-develop.field-0.0 in
    refused_is_not why.number why.place (sym c.in_err-develop.was ∙ c.develop.ensures.value ∙ develops _ _ p.design (search rules))

pub fill_readings-requires : goal.fill_readings-requires
fill_readings-requires c =
    let p = practised-is _ _ _ _ (sym c.practice_refusal.ensures ∙ c.in_ok-practice_refusal.was) in
    let words = words-laid _ _ _ _ p.design refl c.develop.ensures.words_after in
    (knows _ _ _ _ p, p.width-most, words.long, omega arith)

pub returns : goal.returns
returns c =
    let a = c.args in
    let passed : practised a.head a.blocks.now a.truths.now a.width ≡ accepted = sym c.practice_refusal.ensures ∙ c.in_ok-practice_refusal.was in
    let p = practised-is _ _ _ _ passed in
    let words = words-laid _ _ _ _ p.design refl c.develop.ensures.words_after in
    let verdict = practice_enough a.head a.blocks.now a.truths.now a.width (length a.readings.now) passed (omega arith) in
    record { value = sym verdict; readings_after = practice_lays a.head a.blocks.now a.truths.now a.width a.start a.readings.now p _ words verdict _ c.fill_readings.ensures }
