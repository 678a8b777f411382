-- How the answers of calls on blocks in groups are handed over to C: their slots, and the verdict with its test for them. Assumes nothing.
use Rattle.std.specs.Prelude.{ℕ, List, [], ◌∷◌, length}
use Rattle.records.specs.declared.GroupCounts.{GroupCounts}
use Rattle.records.specs.declared.GroupParameters.{GroupParameters}
use Rattle.records.specs.declared.Grouped.{Grouped}
use Rattle.records.specs.declared.GroupedSet.{GroupedSet}
use Rattle.meaning.specs.Refusals.{Verdict, ◌⨾◌, room}
use Rattle.slots.specs.Laid.{laid}

-- four counts: company and opposition within groups, company and opposition between them
abbrev pub count_slots : GroupCounts → List ℕ
count_slots c = c.l11 ∷ c.l21 ∷ c.l12 ∷ c.l22 ∷ []

-- a verdict on blocks in groups
module _ (g : Grouped) (answer : List ℕ) where
  unfoldable pub grouped_call : Verdict
  grouped_call = g.verdict ⨾ room (length answer) 4

  abbrev pub grouped_laid : List ℕ
  grouped_laid = laid grouped_call (count_slots g.counts) answer

-- the parameters of a grouped set: v, b, r, p, and the same four counts
abbrev pub group_slots : GroupParameters → List ℕ
group_slots q = q.v ∷ q.b ∷ q.r ∷ q.p ∷ q.counts.l11 ∷ q.counts.l21 ∷ q.counts.l12 ∷ q.counts.l22 ∷ []

-- a grouped set
module _ (s : GroupedSet) (answer : List ℕ) where
  unfoldable pub group_set_call : Verdict
  group_set_call = s.verdict ⨾ room (length answer) 8

  abbrev pub group_set_laid : List ℕ
  group_set_laid = laid group_set_call (group_slots s.parameters) answer
