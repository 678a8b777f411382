-- `developed`: past the lengths the verdict of the development is that of the block list. Assumes nothing.
use Rattle.std.proofs.Common.{◌≡◌, ◌∙◌, sym, ap, rules}
use Rattle.meaning.specs.Refusals.{Verdict, accepted}
use Rattle.meaning.specs.Calls.{slices, words_under}
use Rattle.weighing.proofs.totals.Refusing.{develops_clean}
use Rattle.weighing.proofs.totals.developed.Goals as goal

pub returns-clause-value : goal.returns-clause-value
returns-clause-value c =
    let e : slices c.args.head c.args.blocks.now c.args.readings.now ≡ accepted = sym c.slices_refusal.ensures ∙ c.in_ok-slices_refusal.was in
    c.develop.ensures.value ∙ develops_clean _ _ _ (search rules) e

pub returns-clause-words_after : goal.returns-clause-words_after
returns-clause-words_after c =
    let e : slices c.args.head c.args.blocks.now c.args.readings.now ≡ accepted = sym c.slices_refusal.ensures ∙ c.in_ok-slices_refusal.was in
    c.develop.ensures.words_after ∙ ap (λ (v : Verdict). words_under v c.args.head c.args.blocks.now c.args.words.now) (develops_clean _ _ _ (search rules) e)
