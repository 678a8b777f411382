-- The grouped set of a design, from its parts: what the direct call answers, the verdict of the call from C, which asks for its slots last, and the words
-- after, under it. Assumes nothing.
use Rattle.std.specs.Prelude.{ℕ, ◌*◌, List, length}
use Rattle.records.specs.declared.Head.{Head}
use Rattle.records.specs.declared.GroupedSet.{GroupedSet}
use Rattle.meaning.specs.Design.{blocks}
use Rattle.meaning.specs.Calls.{written}
use Rattle.meaning.specs.Groups.{base_answer, grouped_word_at}
use Rattle.slots.specs.Groups.{group_set_call}
use Rattle.meaning.specs.Refusals.{Verdict}

module _ (h : Head) (d : List ℕ) (g : ℕ) (words : List ℕ) where
  -- what the direct call answers
  abbrev pub group_set : GroupedSet
  group_set = base_answer h d g (length words)

  -- the verdict
  abbrev pub group_base_call : List ℕ → Verdict
  group_base_call answer = group_set_call group_set answer

  -- the words after
  abbrev pub group_base_words : List ℕ → List ℕ
  group_base_words answer = written (group_base_call answer) (2 * blocks h) (grouped_word_at h d g) words
