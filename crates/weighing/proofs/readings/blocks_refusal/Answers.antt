-- `blocks_refusal`: past the lengths, the tests of the block list come to its bytes. Assumes nothing.
use Rattle.std.proofs.Common.{◌≡◌, ◌∙◌, sym}
use Rattle.meaning.specs.Refusals.{accepted}
use Rattle.meaning.specs.Calls.{slices}
use Rattle.laws.proofs.Chains.{goes_on}
use Rattle.weighing.proofs.Slices.{design-clean}
use Rattle.weighing.proofs.readings.blocks_refusal.Goals as goal

pub returns : goal.returns
returns c =
    let e : slices c.args.head c.args.blocks.now c.args.readings.now ≡ accepted = sym c.slices_refusal.ensures ∙ c.in_ok-slices_refusal.was in
    c.pairs_refusal.ensures ∙ design-clean _ _ _ e ∙ sym (goes_on _ e)
