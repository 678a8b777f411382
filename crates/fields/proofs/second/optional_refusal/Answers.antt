-- A turn looks at one field: it is refused, and so are all, or the rest is due from the byte after it. Past its tests a field lies within the bytes.
use Rattle.std.proofs.Common.{refl, sym, ◌∙◌, arith, rules, length}
use Rattle.fields.proofs.second.Answers.{due_end, due_refused, due_on, optional-inside}
use Rattle.fields.proofs.second.optional_refusal.Goals as goal

pub loop-place-init : goal.loop-place-init
loop-place-init c = record { left = length c.args.bytes.now; enough = omega arith; due = refl }

pub returns-in_err-optional_at : goal.returns-in_err-optional_at
returns-in_err-optional_at c =
    let l = c.loop-place in
    let e = due_refused c.args.bytes.now c.args.names l.least l.place _ l.invariant c.loop-place-test.true c.in_err-optional_at.field-0.0
    (sym c.optional_at.ensures ∙ c.in_err-optional_at.was) in
    rw (← e) (search rules)

pub loop-place-smaller : goal.loop-place-smaller
loop-place-smaller c =
    let l = c.loop-place in
    omega (arith, optional-inside c.args.bytes.now c.args.names l.least l.place (sym c.optional_at.ensures ∙ c.in_ok-optional_at.was), c.two_bytes.ensures)

pub loop-place-preserved : goal.loop-place-preserved
loop-place-preserved c =
    let l = c.loop-place in
    rw (c.byte.ensures, c.two_bytes.ensures) (due_on c.args.bytes.now c.args.names l.least l.place _ l.invariant c.loop-place-test.true (sym c.optional_at.ensures ∙ c.in_ok-optional_at.was))

pub returns : goal.returns
returns c =
    let l = c.loop-place in
    due_end c.args.bytes.now c.args.names l.least l.place _ l.invariant (omega arith)
