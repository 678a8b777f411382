use Rattle.std.proofs.Common.{sym, ◌∙◌, arith, eqb}
use borrow.Author.Tests.{eq-eqb}
use Rattle.algebra.proofs.Tests.{first-is, first_from_none}
use Rattle.meaning.specs.Design.{plus}
use Rattle.meaning.proofs.Addition.{plus_group}
use Rattle.design.specs.Addition.{back}
use Rattle.design.proofs.addition.Negatives.{back_residue}
use Rattle.design.proofs.addition.Addition.back.Goals as goal

pub returns-then-not-by_field : goal.returns-then-not-by_field
returns-then-not-by_field c =
    let a = c.args.self in
    back_residue a.head (plus_group a.head a.fits.has_addition_lem) (sym c.by_field.ensures ∙ c.if-not-by_field.true) c.args.x c.requires

pub returns-then-plus-eq0 : goal.returns-then-plus-eq0
unfolding back
returns-then-plus-eq0 c =
    let h = c.args.self.head in
    sym (first-is (λ s. eqb (plus h c.args.x s) 0) 0 _ c.loop-shift.shift (omega arith) (omega arith) (λ k _. c.loop-shift.invariant k)
    (eq-eqb _ 0 (sym c.plus.ensures ∙ c.if-plus-eq0.true)))

pub returns : goal.returns
unfolding back
returns c =
    let h = c.args.self.head in
    omega (arith, first_from_none (λ s. eqb (plus h c.args.x s) 0) 0 h.n (λ k _ o. c.loop-shift.invariant k (omega arith)))
