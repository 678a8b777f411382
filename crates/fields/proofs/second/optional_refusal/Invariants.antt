-- At the head of a turn the optional fields from the place on come to the verdict on all.
use Rattle.std.proofs.Common.{length, ◌-◌}
use Rattle.meaning.specs.Edition2.{names_tag, optionals}
use Rattle.fields.proofs.second.Answers.{Due}
use Rattle.fields.proofs.second.optional_refusal.Given as goal

abbrev pub invariant-loop-place : goal.invariant-loop-place
invariant-loop-place l = Due l.bytes l.names l.least l.place (optionals (length l.bytes) l.bytes l.names names_tag l.start)

abbrev pub decreases-loop-place : goal.decreases-loop-place
decreases-loop-place l = length l.bytes - l.place
