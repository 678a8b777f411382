-- What the steps of the call from a design speak of. Assumes nothing.
use Rattle.std.specs.Prelude.{ℕ, ◌*◌, List, length}
use Rattle.records.specs.declared.Head.{Head}
use Rattle.records.specs.declared.Parameters.{Parameters}
use Rattle.records.specs.declared.GroupParameters.{GroupParameters}
use Rattle.records.specs.declared.GroupedSet.{GroupedSet}
use Rattle.meaning.specs.Design.{blocks, list_length}
use Rattle.meaning.specs.Refusals.{Verdict, ◌⨾◌, sizes, length_is}
use Rattle.meaning.specs.Calls.{given, written, develop_verdict}
use Rattle.meaning.specs.Groups.{groups_fit, group_parameters_of, no_group_parameters, grouped_word_at}

-- the tests before those of the blocks, for a list of so many bytes
unfoldable pub sizes_verdict : Head → ℕ → ℕ → Verdict
sizes_verdict h len g = sizes h ⨾ length_is len (list_length h) ⨾ groups_fit h g

-- what a refused call hands back
abbrev pub no_set : Verdict → GroupedSet
no_set verdict = record { verdict = verdict; parameters = no_group_parameters }

-- the parameters of a grouped set, from those of its design
abbrev pub in_groups_of : ℕ → Parameters → GroupParameters
in_groups_of g q = record { v = g * q.v; b = q.b; r = q.r; p = g * q.p; counts = record { l11 = q.r; l21 = 0; l12 = q.l1; l22 = q.l2 } }

-- what is handed back and left where the design is balanced: the verdict is that of its development
abbrev pub laid_answer : Head → List ℕ → ℕ → ℕ → GroupedSet
laid_answer h d g len = let verdict = develop_verdict h d len in
    record { verdict = verdict; parameters = given verdict (group_parameters_of h d g) no_group_parameters }

abbrev pub laid_words : Head → List ℕ → ℕ → List ℕ → List ℕ
laid_words h d g words = written (develop_verdict h d (length words)) (2 * blocks h) (grouped_word_at h d g) words
