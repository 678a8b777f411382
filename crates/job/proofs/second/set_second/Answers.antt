-- The set stands in the four fields.
use Rattle.std.proofs.Common.{ap, ◌∙◌, List, ℕ}
use Rattle.records.specs.declared.Held.{Held}
use Rattle.fields.specs.Contents.{held_in}
use Rattle.job.proofs.second.set_second.Goals as goal

pub returns : goal.returns
returns c = ap (λ (k : Held). k.set) (c.held.ensures ∙ ap (λ (t : List ℕ). held_in t) c.four_fields.ensures)
