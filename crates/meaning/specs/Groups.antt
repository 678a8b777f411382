-- Sets of blocks that are partially balanced with respect to groups (02, P9; 004, section 5): any blocks as a list of objects, with a group number for each
-- object, and the grouped set that comes from a design by replacing every object by the members of its group. Assumes nothing.
use Rattle.std.specs.Prelude.{ℕ, zero, suc, ◌+◌, ◌-◌, ◌*◌, ◌/◌, ◌%◌, ◌<◌, Bool, cond, not, ◌&&◌, ◌||◌, List, [], ◌∷◌, ◌++◌, map, ◌≡◌, get_or, take, drop, length, eqb, ltb, leb}
use Rattle.algebra.specs.Ranges.{all, first_from}
use Rattle.records.specs.declared.Head.{Head}
use Rattle.records.specs.declared.GroupCounts.{GroupCounts}
use Rattle.records.specs.declared.Grouped.{Grouped}
use Rattle.records.specs.declared.GroupParameters.{GroupParameters}
use Rattle.records.specs.declared.GroupedSet.{GroupedSet}
use Rattle.meaning.specs.Design.{objects, blocks, list_length, occ, left, right, company_in, opposition_in, company, opposition, beta}
use Rattle.meaning.specs.Refusals.{Verdict, ◌⨾◌, test, sizes, length_is, clean, in_balance, room}
use Rattle.meaning.specs.Calls.{given, written, word}

-- ---- any blocks: a list of objects, p left and p right ones for each block

-- the left objects of block k
unfoldable pub left_of : ℕ → List ℕ → ℕ → List ℕ
left_of p d k = take p (drop (2 * p * k) d)

-- the right objects of block k
unfoldable pub right_of : ℕ → List ℕ → ℕ → List ℕ
right_of p d k = take p (drop (2 * p * k + p) d)

-- in how many of the blocks i and j share a side
unfoldable pub shared : ℕ → ℕ → List ℕ → ℕ → ℕ → ℕ
shared count p d i j = company_in count (left_of p d) (right_of p d) i j

-- in how many they stand on opposite sides
unfoldable pub opposed : ℕ → ℕ → List ℕ → ℕ → ℕ → ℕ
opposed count p d i j = opposition_in count (left_of p d) (right_of p d) i j

-- ---- groups: objects of one group have one number, whichever it is

-- i and j are of one group
abbrev pub one_group : List ℕ → ℕ → ℕ → Bool
one_group groups i j = eqb (get_or groups i 0) (get_or groups j 0)

-- how many objects the group of object i has
abbrev pub group_size : List ℕ → ℕ → ℕ
group_size groups i = occ (get_or groups i 0) groups

-- there are two groups or more, of one size of at least 2
unfoldable pub even_groups : List ℕ → Bool
even_groups groups = leb 2 (group_size groups 0) && ltb (group_size groups 0) (length groups)
    && all (length groups) (λ i. eqb (group_size groups i) (group_size groups 0))

-- ---- partial balance

-- partially balanced with respect to groups: every two different objects of one group share a side l11 times and oppose l21 times, every two of different
-- groups share a side l12 times and oppose l22 times, the same four numbers for all
pub record PartiallyBalanced (count v p : ℕ) (d groups : List ℕ) (c : GroupCounts) : Type 0 where
  pub together-within : (i j : ℕ) → i < v → j < v → (i ≡ j → ⊥) → get_or groups i 0 ≡ get_or groups j 0 → shared count p d i j ≡ c.l11
  pub against-within : (i j : ℕ) → i < v → j < v → (i ≡ j → ⊥) → get_or groups i 0 ≡ get_or groups j 0 → opposed count p d i j ≡ c.l21
  pub together-between : (i j : ℕ) → i < v → j < v → (get_or groups i 0 ≡ get_or groups j 0 → ⊥) → shared count p d i j ≡ c.l12
  pub against-between : (i j : ℕ) → i < v → j < v → (get_or groups i 0 ≡ get_or groups j 0 → ⊥) → opposed count p d i j ≡ c.l22

-- the first object after 0 that is of its group, and the first that is not
unfoldable pub mate : List ℕ → ℕ
mate groups = first_from (λ j. one_group groups j 0) 1 (length groups - 1)

unfoldable pub stranger : List ℕ → ℕ
stranger groups = first_from (λ j. not (one_group groups j 0)) 1 (length groups - 1)

-- the four counts, read off object 0 with its mate, and with its stranger
abbrev pub counts_of : ℕ → ℕ → List ℕ → List ℕ → GroupCounts
counts_of count p d groups = let m = mate groups in let s = stranger groups in
    record { l11 = shared count p d m 0; l21 = opposed count p d m 0; l12 = shared count p d s 0; l22 = opposed count p d s 0 }

-- company and opposition of a pair are those that c has for one group, or for two
abbrev pub meets_as : GroupCounts → Bool → ℕ → ℕ → Bool
meets_as c one together against = cond one (eqb together c.l11 && eqb against c.l21) (eqb together c.l12 && eqb against c.l22)

-- partial balance as a test
unfoldable pub partially_balanced : ℕ → ℕ → ℕ → List ℕ → List ℕ → Bool
partially_balanced count v p d groups = let c = counts_of count p d groups in
    all v (λ i. all i (λ j. meets_as c (one_group groups i j) (shared count p d i j) (opposed count p d i j)))

-- ---- the direct call

-- 4: 1 to 1,300 blocks, v at most 50, p at least 1, 2p at most v
unfoldable pub list_sized : ℕ → ℕ → ℕ → Bool
list_sized count v p = leb 1 count && leb count 1300 && leb v 50 && leb 1 p && leb (2 * p) v

-- 14: the groups
abbrev pub in_groups : List ℕ → Verdict
in_groups groups = test (even_groups groups) 14 0

-- byte i of the list is no object (255 is none here), or was already in its block, on either side
abbrev pub strays : ℕ → ℕ → List ℕ → ℕ → Bool
strays v p d i = not (ltb (get_or d i 0) v) || ltb 0 (occ (get_or d i 0) (take (i % (2 * p)) (drop (i - i % (2 * p)) d)))

-- the first byte that does, or the length where none does
unfoldable pub stray : ℕ → ℕ → List ℕ → ℕ
stray v p d = first_from (strays v p d) 0 (length d)

-- the tests before that of balance: 4, 3, 14, 5
unfoldable pub list_verdict : ℕ → ℕ → ℕ → List ℕ → List ℕ → Verdict
list_verdict count v p d groups = test (list_sized count v p) 4 0 ⨾ length_is (length d) (2 * p * count) ⨾ length_is (length groups) v ⨾ in_groups groups
    ⨾ test (eqb (stray v p d) (length d)) 5 (stray v p d)

-- and 6
unfoldable pub grouped_verdict : ℕ → ℕ → ℕ → List ℕ → List ℕ → Verdict
grouped_verdict count v p d groups = list_verdict count v p d groups ⨾ test (partially_balanced count v p d groups) 6 0

abbrev pub no_counts : GroupCounts
no_counts = record { l11 = 0; l21 = 0; l12 = 0; l22 = 0 }

-- what the call answers
abbrev pub grouped_answer : ℕ → ℕ → ℕ → List ℕ → List ℕ → Grouped
grouped_answer count v p d groups = let verdict = grouped_verdict count v p d groups in
    record { verdict = verdict; counts = given verdict (counts_of count p d groups) no_counts }

-- ---- the grouped set of a design

-- the c numbers from a on
unfoldable pub run : ℕ → ℕ → List ℕ
run a zero = []
run a (suc c) = a ∷ run (suc a) c

-- a side with every object i replaced by its g members, gi to gi + g-1
unfoldable pub in_members : ℕ → List ℕ → List ℕ
in_members g [] = []
in_members g (i ∷ side) = run (g * i) g ++ in_members g side

-- side c of a design: left, right, next block
unfoldable pub side_at : Head → List ℕ → ℕ → List ℕ
side_at h d c = cond (eqb (c % 2) 0) (left h d (c / 2)) (right h d (c / 2))

-- the grouped blocks as a list of objects: the first c sides, and all
unfoldable pub grouped_sides : Head → List ℕ → ℕ → ℕ → List ℕ
grouped_sides h d g zero = []
grouped_sides h d g (suc c) = grouped_sides h d g c ++ in_members g (side_at h d c)

abbrev pub grouped_list : Head → List ℕ → ℕ → List ℕ
grouped_list h d g = grouped_sides h d g (2 * blocks h)

-- the group of each object of the grouped set: members of object i have the number i
unfoldable pub groups_of : Head → ℕ → List ℕ
groups_of h g = map (λ x. x / g) (run 0 (g * objects h))

-- word c of the grouped blocks: left word, right word, next block
unfoldable pub grouped_word_at : Head → List ℕ → ℕ → ℕ → ℕ
grouped_word_at h d g c = word (in_members g (side_at h d c))

-- 14: g is at least 2, and g v at most 50
abbrev pub groups_fit : Head → ℕ → Verdict
groups_fit h g = test (leb 2 g && leb (g * objects h) 50) 14 0

-- the tests of a base design, and of the room for its grouped words
unfoldable pub base_verdict : Head → List ℕ → ℕ → ℕ → Verdict
base_verdict h d g len = sizes h ⨾ length_is (length d) (list_length h) ⨾ groups_fit h g ⨾ clean h d ⨾ in_balance h d ⨾ room len (2 * blocks h)

-- the parameters of the grouped set: members of one group share a side r times and oppose 0 times, others keep L1 and L2
abbrev pub group_parameters_of : Head → List ℕ → ℕ → GroupParameters
group_parameters_of h d g = let r = beta h d * (objects h - 1) in
    let counts : GroupCounts = record { l11 = r; l21 = 0; l12 = company h d 1 0; l22 = opposition h d 1 0 } in
    record { v = g * objects h; b = blocks h; r = r; p = g * h.p; counts = counts }

abbrev pub no_group_parameters : GroupParameters
no_group_parameters = record { v = 0; b = 0; r = 0; p = 0; counts = no_counts }

-- what the call answers, and the lent words after
abbrev pub base_answer : Head → List ℕ → ℕ → ℕ → GroupedSet
base_answer h d g len = let verdict = base_verdict h d g len in
    record { verdict = verdict; parameters = given verdict (group_parameters_of h d g) no_group_parameters }

abbrev pub base_words : Head → List ℕ → ℕ → List ℕ → List ℕ
base_words h d g words = written (base_verdict h d g (length words)) (2 * blocks h) (grouped_word_at h d g) words
