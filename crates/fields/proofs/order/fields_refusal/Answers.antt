-- A turn looks at one field: it is refused, and so are the fields, or the rest is due from the place past it.
use Rattle.std.proofs.Common.{◌≡◌, ◌∙◌, sym, ap, ◌+◌, ◌-◌, arith, rules}
use Rattle.fields.proofs.order.Order.{tests, goes, starts, ends, refuses, goes_on}
use Rattle.fields.proofs.order.fields_refusal.Goals as goal

pub loop-tag-init : goal.loop-tag-init
loop-tag-init c =
    let r = c.reader_at-reader.ensures in
    record { same_bytes = ap (λ b. b.now) r.0; due = rw r.1 (starts c.args.bytes.now) }

pub returns-in_err-tested : goal.returns-in_err-tested
returns-in_err-tested c =
    let l = c.loop-tag in
    let e : c.tested.result ≡ tests c.args.bytes.now l.tag l.reader.place = cc in
    let r = refuses c.args.bytes.now (5 - l.tag) l.tag l.reader.place (omega arith) l.invariant.due c.in_err-tested.field-0.0 (sym e ∙ c.in_err-tested.was) in
    rw (← r) (search rules)

pub loop-tag-preserved : goal.loop-tag-preserved
loop-tag-preserved c =
    let l = c.loop-tag in
    let e : c.tested.result ≡ tests c.args.bytes.now l.tag l.reader.place = cc in
    let t = goes_on c.args.bytes.now (5 - l.tag) l.tag l.reader.place (omega arith) l.invariant.due _ (sym e ∙ c.in_ok-tested.was) in
    let past = c.past-reader.ensures in
    let place : c.past-reader.result.place ≡ goes c.args.bytes.now l.tag l.reader.place = cc in
    let one_less : 5 - (l.tag + 1) ≡ 5 - l.tag - 1 = omega arith in
    record {
      same_bytes = ap (λ b. b.now) past.0 ∙ l.invariant.same_bytes;
      due = rw (place, one_less) t;
    }

pub returns : goal.returns
returns c =
    let l = c.loop-tag in
    c.ended.ensures ∙ sym (ends c.args.bytes.now (5 - l.tag) l.tag l.reader.place (omega arith)) ∙ l.invariant.due
