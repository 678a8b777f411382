-- `slices_refusal`: each way out rewrites the chain by the tests that led there. Assumes nothing.
use borrow.Author.Rules.{rules}
use mathlib.Core.Path.{◌≡◌, sym, ◌∙◌}
use mathlib.Core.Bool.{true}
use native.Mathlib.Omega.{arith}
use Prim.Native.Nat.{◌*◌}
use lib.ListN.{length}
use borrow.Author.Tests.{not-true, not-false, eq-eqb, ne_eqb}
use Rattle.meaning.specs.Design.{sized}
use Rattle.meaning.specs.Calls.{slices}
use Rattle.laws.proofs.Chains.{fits, listed-most}
use Rattle.weighing.proofs.readings.slices_refusal.Statement.{statement}
use Rattle.weighing.proofs.readings.slices_refusal.Tie as tie

-- past the first test the sizes hold
passed : (c : tie.Else-not-sized) → sized c.args.head ≡ true
passed c = sym c.sized.ensures ∙ not-false _ c.if-not-sized.false-raw

returns : tie.Need-returns-then-not-sized
unfolding slices
returns c = rw (sym c.sized.ensures ∙ not-true _ c.if-not-sized.true-raw) (search rules)

returns-3 : tie.Need-returns-then-readings-m
unfolding slices
returns-3 c = rw (passed c.before.before, eq-eqb (length c.args.blocks.now) (2 * c.args.head.p * c.args.head.m) (omega arith), ne_eqb _ _ c.if-readings-m.true)

returns-4 : tie.Need-returns
unfolding slices
returns-4 c = rw (passed c.before.before, eq-eqb (length c.args.blocks.now) (2 * c.args.head.p * c.args.head.m) (omega arith), eq-eqb _ _ c.if-readings-m.false)

pub slices_refusal_spec : {M : Type 1} → statement M
unfolding slices
slices_refusal_spec =
    tie.close
    (tie.spec
    (λ c κs. search rules)
    returns
    (λ c. let f = fits _ (passed c) in omega arith)
    (λ c. omega (arith, listed-most _ (fits _ (passed c))))
    (λ c. rw (passed c.before, ne_eqb (length c.args.blocks.now) (2 * c.args.head.p * c.args.head.m) (λ e. omega (arith, e))))
    (λ c. let f = fits _ (passed c.before) in omega arith)
    returns-3
    returns-4)
