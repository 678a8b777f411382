-- Grouped sets at their boundaries, rows of a table under one theorem: every refusal with its place, every two neighbouring ones in one call, groups in any
-- order of their numbers, the four counts, and the grouped set of a design as a list, as groups and as words. The figures were worked out apart from
-- these definitions. Assumes nothing.
use Prim.Native.Nat.{ℕ}
use mathlib.Core.Bool.{true}
use mathlib.Core.List.{List, [], ◌∷◌, ◌++◌, replicate}
use mathlib.Core.Path.{◌≡◌, refl}
use lib.ListN.{set, length, take}
use Rattle.algebra.specs.Buffers.{over}
use Rattle.algebra.specs.Ranges.{sum_ℕ, first_from}
use Rattle.records.specs.declared.Grouped.{Grouped}
use Rattle.records.specs.declared.GroupedSet.{GroupedSet}
use Rattle.meaning.specs.Design.{sized, occ, plus, left, right, company, opposition, balanced, beta, field_prime, digit_sum}
use Rattle.meaning.specs.Refusals.{offender}
use Rattle.meaning.specs.Calls.{word}
use Rattle.meaning.specs.Groups.{
  left_of,
  right_of,
  shared,
  opposed,
  even_groups,
  mate,
  stranger,
  partially_balanced,
  list_sized,
  stray,
  list_verdict,
  grouped_verdict,
  grouped_answer,
  run,
  in_members,
  side_at,
  grouped_sides,
  grouped_list,
  groups_of,
  grouped_word_at,
  base_verdict,
  base_answer,
  base_words,
}
use Rattle.meaning.proofs.Rows.{Row, refuses, holding, head, every}

-- three blocks of two objects a side over six, in three groups of two: 0 1 against 2 3, 2 3 against 4 5, 4 5 against 0 1
abbrev six : List ℕ
six = 0 ∷ 1 ∷ 2 ∷ 3 ∷ 2 ∷ 3 ∷ 4 ∷ 5 ∷ 4 ∷ 5 ∷ 0 ∷ 1 ∷ []

abbrev pairs : List ℕ
pairs = 0 ∷ 0 ∷ 1 ∷ 1 ∷ 2 ∷ 2 ∷ []

-- the same with the members of a group three apart, under other numbers
abbrev apart : List ℕ
apart = 0 ∷ 3 ∷ 1 ∷ 4 ∷ 1 ∷ 4 ∷ 2 ∷ 5 ∷ 2 ∷ 5 ∷ 0 ∷ 3 ∷ []

abbrev labels : List ℕ
labels = 9 ∷ 0 ∷ 255 ∷ 9 ∷ 0 ∷ 255 ∷ []

-- two blocks over four objects that no base design gives: the members of a group always oppose
abbrev four : List ℕ
four = 0 ∷ 2 ∷ 1 ∷ 3 ∷ 0 ∷ 3 ∷ 1 ∷ 2 ∷ []

abbrev two : List ℕ
two = 0 ∷ 0 ∷ 1 ∷ 1 ∷ []

-- the four counts that a call hands back
abbrev counts : Grouped → List ℕ
counts a = a.counts.l11 ∷ a.counts.l21 ∷ a.counts.l12 ∷ a.counts.l22 ∷ []

abbrev direct_rows : List Row
direct_rows =
    refuses (grouped_verdict 3 6 2 six pairs) 0 0
    ∷ holding (counts (grouped_answer 3 6 2 six pairs)) (2 ∷ 0 ∷ 0 ∷ 1 ∷ [])
    ∷ refuses (grouped_verdict 3 6 2 apart labels) 0 0
    ∷ holding (counts (grouped_answer 3 6 2 apart labels)) (2 ∷ 0 ∷ 0 ∷ 1 ∷ [])
    ∷ refuses (grouped_verdict 2 4 2 four two) 0 0
    ∷ holding (counts (grouped_answer 2 4 2 four two)) (0 ∷ 2 ∷ 1 ∷ 1 ∷ [])
    ∷ holding (counts (grouped_answer 4 4 1 (0 ∷ 2 ∷ 0 ∷ 3 ∷ 1 ∷ 2 ∷ 1 ∷ 3 ∷ []) two)) (0 ∷ 0 ∷ 0 ∷ 1 ∷ [])
    ∷ holding (counts (grouped_answer 2 4 1 (0 ∷ 1 ∷ 2 ∷ 3 ∷ []) two)) (0 ∷ 1 ∷ 0 ∷ 0 ∷ [])
    -- 4 at each bound, before 3
    ∷ refuses (grouped_verdict 0 6 2 [] pairs) 4 0
    ∷ refuses (grouped_verdict 1301 6 2 six pairs) 4 0
    ∷ refuses (grouped_verdict 1300 6 2 six pairs) 3 0
    ∷ refuses (grouped_verdict 3 51 2 six pairs) 4 0
    ∷ refuses (grouped_verdict 3 50 2 six pairs) 3 0
    ∷ refuses (grouped_verdict 3 6 0 six pairs) 4 0
    ∷ refuses (grouped_verdict 3 6 4 six pairs) 4 0
    ∷ refuses (grouped_verdict 3 6 3 six pairs) 3 0
    ∷ refuses (grouped_verdict 1 0 0 [] []) 4 0
    ∷ refuses (grouped_verdict 1 2 1 (0 ∷ 1 ∷ []) (0 ∷ [])) 3 0
    -- 3 for either slice, before 14
    ∷ refuses (grouped_verdict 3 6 2 (take 11 six) (replicate 6 0)) 3 0
    ∷ refuses (grouped_verdict 3 6 2 (six ++ (0 ∷ [])) (replicate 6 0)) 3 0
    ∷ refuses (grouped_verdict 3 6 2 six (0 ∷ 0 ∷ 0 ∷ 0 ∷ 0 ∷ [])) 3 0
    ∷ refuses (grouped_verdict 3 6 2 six (replicate 7 0)) 3 0
    -- 14: one group, groups of one, groups of two sizes; before 5
    ∷ refuses (grouped_verdict 3 6 2 six (replicate 6 4)) 14 0
    ∷ refuses (grouped_verdict 3 6 2 six (0 ∷ 1 ∷ 2 ∷ 3 ∷ 4 ∷ 5 ∷ [])) 14 0
    ∷ refuses (grouped_verdict 3 6 2 six (0 ∷ 0 ∷ 1 ∷ 1 ∷ 1 ∷ 1 ∷ [])) 14 0
    ∷ refuses (grouped_verdict 3 6 2 six (0 ∷ 0 ∷ 1 ∷ 1 ∷ 2 ∷ 3 ∷ [])) 14 0
    ∷ refuses (grouped_verdict 3 6 2 (set six 3 9) (replicate 6 4)) 14 0
    ∷ refuses (grouped_verdict 1 2 1 (0 ∷ 1 ∷ []) (0 ∷ 1 ∷ [])) 14 0
    -- 5 at the first byte that is no object or stands twice in its block, before 6
    ∷ refuses (grouped_verdict 3 6 2 (set six 3 6) pairs) 5 3
    ∷ refuses (grouped_verdict 3 6 2 (set six 11 255) pairs) 5 11
    ∷ refuses (grouped_verdict 3 6 2 (set six 6 3) pairs) 5 6
    ∷ refuses (grouped_verdict 3 6 2 (set (set six 9 4) 10 77) pairs) 5 9
    ∷ refuses (grouped_verdict 3 6 2 (set six 4 0) pairs) 6 0
    -- 6: one object moved; groups that the set is not balanced over; counts that differ within groups only, between them only
    ∷ refuses (grouped_verdict 3 6 2 (set six 11 3) pairs) 6 0
    ∷ refuses (grouped_verdict 3 6 2 six (0 ∷ 1 ∷ 1 ∷ 0 ∷ 2 ∷ 2 ∷ [])) 6 0
    ∷ refuses (grouped_verdict 3 6 2 six (0 ∷ 1 ∷ 0 ∷ 1 ∷ 0 ∷ 1 ∷ [])) 6 0
    ∷ refuses (grouped_verdict 1 4 1 (0 ∷ 1 ∷ []) two) 6 0
    ∷ refuses (grouped_verdict 1 4 1 (0 ∷ 2 ∷ []) two) 6 0
    ∷ holding (counts (grouped_answer 3 6 2 (set six 11 3) pairs)) (replicate 4 0)
    ∷ []

-- the initial block of three residues, one a side
abbrev one_each : List ℕ
one_each = 0 ∷ 1 ∷ []

-- what a grouped set hands back
abbrev handed : GroupedSet → List ℕ
handed a = a.parameters.v ∷ a.parameters.b ∷ a.parameters.r ∷ a.parameters.p
    ∷ a.parameters.counts.l11 ∷ a.parameters.counts.l21 ∷ a.parameters.counts.l12 ∷ a.parameters.counts.l22 ∷ []

abbrev base_rows : List Row
base_rows =
    holding (grouped_list (head 3 0 1 1) one_each 2) six
    ∷ holding (groups_of (head 3 0 1 1) 2) pairs
    ∷ holding (handed (base_answer (head 3 0 1 1) one_each 2 6)) (6 ∷ 3 ∷ 2 ∷ 2 ∷ 2 ∷ 0 ∷ 0 ∷ 1 ∷ [])
    ∷ holding (base_words (head 3 0 1 1) one_each 2 (replicate 7 9)) (3 ∷ 12 ∷ 12 ∷ 48 ∷ 48 ∷ 3 ∷ 9 ∷ [])
    ∷ holding (base_words (head 3 0 1 1) one_each 2 (replicate 5 9)) (replicate 5 9)
    ∷ holding (handed (base_answer (head 3 0 1 1) one_each 2 5)) (replicate 8 0)
    -- every object replaced by three members, ∞ too, and over a field
    ∷ holding (handed (base_answer (head 7 1 4 1) (255 ∷ 1 ∷ 2 ∷ 4 ∷ 0 ∷ 3 ∷ 5 ∷ 6 ∷ []) 3 14)) (24 ∷ 7 ∷ 7 ∷ 12 ∷ 7 ∷ 0 ∷ 3 ∷ 4 ∷ [])
    ∷ holding (take 2 (base_words (head 7 1 4 1) (255 ∷ 1 ∷ 2 ∷ 4 ∷ 0 ∷ 3 ∷ 5 ∷ 6 ∷ []) 3 (replicate 14 0))) (14709240 ∷ 2067975 ∷ [])
    ∷ holding (handed (base_answer (head 9 2 4 1) (1 ∷ 2 ∷ 3 ∷ 6 ∷ 4 ∷ 5 ∷ 7 ∷ 8 ∷ []) 5 18)) (45 ∷ 9 ∷ 8 ∷ 20 ∷ 8 ∷ 0 ∷ 3 ∷ 4 ∷ [])
    -- the refusals and their order
    ∷ refuses (base_verdict (head 2 0 1 1) (0 ∷ []) 1 0) 4 0
    ∷ refuses (base_verdict (head 3 0 1 1) (0 ∷ []) 1 0) 3 0
    ∷ refuses (base_verdict (head 3 0 1 1) (0 ∷ 3 ∷ []) 1 0) 14 0
    ∷ refuses (base_verdict (head 3 0 1 1) one_each 0 6) 14 0
    ∷ refuses (base_verdict (head 3 0 1 1) one_each 1 6) 14 0
    ∷ refuses (base_verdict (head 3 0 1 1) one_each 16 6) 0 0
    ∷ refuses (base_verdict (head 3 0 1 1) one_each 17 6) 14 0
    ∷ refuses (base_verdict (head 5 0 2 1) (1 ∷ 4 ∷ 2 ∷ 3 ∷ []) 10 10) 0 0
    ∷ refuses (base_verdict (head 5 0 2 1) (1 ∷ 4 ∷ 2 ∷ 3 ∷ []) 11 10) 14 0
    ∷ refuses (base_verdict (head 4 0 1 1) (0 ∷ 4 ∷ []) 2 0) 5 1
    ∷ refuses (base_verdict (head 4 0 1 1) (0 ∷ 1 ∷ []) 2 0) 6 0
    ∷ refuses (base_verdict (head 3 0 1 1) one_each 2 5) 10 0
    ∷ []

unfoldable pub table : List Row
table = direct_rows ++ base_rows

pub groupings : every table ≡ true
unfolding table sized occ field_prime digit_sum plus left right company opposition balanced beta offender word over sum_ℕ first_from left_of right_of shared opposed even_groups mate stranger partially_balanced list_sized stray list_verdict grouped_verdict run in_members side_at grouped_sides groups_of grouped_word_at base_verdict
groupings = refl
