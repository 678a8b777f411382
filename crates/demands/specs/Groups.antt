-- GROUPED SETS (02, P9). Some sets come in glued groups that never part. From an accepted base design and a group size g, replace every object by its g
-- members (source document 004, theorem 5.1) and check the result as partially balanced: members of one group share a side r times and oppose 0 times;
-- others keep L1 and L2. A direct call takes 1 to 1,300 blocks of p objects a side over v objects (0 to v-1, v at most 50, p at least 1, 2p at most v), with
-- a group number for each object, and accepts exactly if all four counts are constant over their pairs, returning them. Values are not wanted for these
-- designs, so demand 3 doesn't extend here. The limit is g·v at most 50; members of object i are gi to gi + g-1. Refusals: 14 when g is below 2, g·v above
-- 50, or, in the direct call, there are fewer than two groups or they are not of one size of at least 2; it comes after 4 and 3. Unequal counts are 6.
-- What the two calls answer is equated to `grouped_answer` and to `base_answer` and `base_words` in docs/PROMISES.md. `left_of p d k` and `right_of p d k` are
-- the sides of block k of a list d with p objects a side; `PartiallyBalanced` says that every two objects of one group, and every two of different groups,
-- have the four counts; `grouped_list h d g` is the list of the grouped blocks, and `groups_of h g` has the group of each of its objects. Assumes nothing.
use Rattle.std.specs.Prelude.{true, ◌&&◌, List, ◌≡◌, ℕ, ◌+◌, ◌-◌, ◌*◌, ◌/◌, ◌≤◌, ◌<◌, eqb, leb, length, get_or}
use Rattle.records.specs.declared.Head.{Head}
use Rattle.records.specs.declared.GroupCounts.{GroupCounts}
use Rattle.meaning.specs.Design.{objects, blocks, list_length, occ, left, right, company, opposition, beta}
use Rattle.meaning.specs.Refusals.{accepted, test, ◌⨾◌, sizes, length_is, clean, in_balance, room}
use Rattle.meaning.specs.Calls.{word}
use Rattle.meaning.specs.Groups.{
  left_of,
  right_of,
  group_size,
  even_groups,
  PartiallyBalanced,
  partially_balanced,
  stray,
  strays,
  list_verdict,
  grouped_verdict,
  grouped_answer,
  no_counts,
  in_members,
  grouped_list,
  groups_of,
  base_verdict,
  base_answer,
  base_words,
  no_group_parameters,
}
use Rattle.demands.specs.Outcomes.{OnRefusal}

-- two groups or more, of one size of at least 2
pub record InGroups (groups : List ℕ) : Type 0 where
  pub size : ℕ
  pub at_least_two : 2 ≤ size
  pub of_one_size : (i : ℕ) → i < length groups → group_size groups i ≡ size
  pub one : ℕ
  pub other : ℕ
  pub both_there : (one < length groups) × (other < length groups)
  pub two-groups : get_or groups one 0 ≡ get_or groups other 0 → ⊥

-- the direct call
module _ (count v p : ℕ) (d groups : List ℕ) where
  pub record AnyBlocks : Type 0 where
    -- 1 to 1,300 blocks of p objects a side over v objects, v at most 50, p at least 1, 2p at most v: 4; lengths: 3; 14 comes after 4 and 3; then 5;
    -- unequal counts are 6
    pub order : grouped_verdict count v p d groups
        ≡ test (leb 1 count && leb count 1300 && leb v 50 && leb 1 p && leb (2 * p) v) 4 0
        ⨾ length_is (length d) (2 * p * count) ⨾ length_is (length groups) v
        ⨾ test (even_groups groups) 14 0
        ⨾ test (eqb (stray v p d) (length d)) 5 (stray v p d)
        ⨾ test (partially_balanced count v p d groups) 6 0
    -- 14: there are fewer than two groups or they are not of one size of at least 2
    pub groups_are : (even_groups groups ≡ true → InGroups groups) × (InGroups groups → even_groups groups ≡ true)
    -- objects are 0 to v-1: 255 is none
    pub no-∞ : v ≤ 50 → (i : ℕ) → get_or d i 0 ≡ 255 → strays v p d i ≡ true
    -- accepts exactly if all four counts are constant over their pairs, returning them
    pub accepts-then : grouped_verdict count v p d groups ≡ accepted → PartiallyBalanced count v p d groups (grouped_answer count v p d groups).counts
    pub accepts_if : list_verdict count v p d groups ≡ accepted → (c : GroupCounts) → PartiallyBalanced count v p d groups c →
        grouped_answer count v p d groups ≡ record { verdict = accepted; counts = c }
    -- (a refusal hands back zeros)
    pub hands_back : OnRefusal (grouped_verdict count v p d groups) (grouped_answer count v p d groups).counts no_counts

-- the call from a base design
module _ (h : Head) (d : List ℕ) (g : ℕ) where
  abbrev r : ℕ
  r = beta h d * (objects h - 1)

  pub record FromBase : Type 0 where
    -- the base is judged as ever; 14 when g is below 2 or g·v above 50, after 4 and 3; 10 last
    pub order : (len : ℕ) → base_verdict h d g len
        ≡ sizes h ⨾ length_is (length d) (list_length h) ⨾ test (leb 2 g && leb (g * objects h) 50) 14 0 ⨾ clean h d ⨾ in_balance h d ⨾ room len (2 * blocks h)
    -- (a refusal leaves the words as they were and hands back zeros)
    pub leaves : (words : List ℕ) → OnRefusal (base_verdict h d g (length words)) (base_words h d g words) words
    pub hands_back : (len : ℕ) → OnRefusal (base_verdict h d g len) (base_answer h d g len).parameters no_group_parameters
    -- replace every object by its g members; members of object i are gi to gi + g-1: the number x stands on a grouped side as often as the object x / g did
    pub members : 2 ≤ g → (x : ℕ) (side : List ℕ) → occ x (in_members g side) ≡ occ (x / g) side
    pub blocks_are : (len k : ℕ) → base_verdict h d g len ≡ accepted → k < blocks h →
        (left_of (g * h.p) (grouped_list h d g) k ≡ in_members g (left h d k)) × (right_of (g * h.p) (grouped_list h d g) k ≡ in_members g (right h d k))
    -- the words that are written are those of that list
    pub words_are : (words : List ℕ) (k : ℕ) → base_verdict h d g (length words) ≡ accepted → k < blocks h →
        (get_or (base_words h d g words) (2 * k) 0 ≡ word (left_of (g * h.p) (grouped_list h d g) k))
        × (get_or (base_words h d g words) (2 * k + 1) 0 ≡ word (right_of (g * h.p) (grouped_list h d g) k))
    -- theorem 5.1: handed to the direct call with its groups, the result is accepted
    pub composed : (len : ℕ) → base_verdict h d g len ≡ accepted →
        grouped_verdict (blocks h) (g * objects h) (g * h.p) (grouped_list h d g) (groups_of h g) ≡ accepted
    -- members of one group share a side r times and oppose 0 times; others keep L1 and L2
    pub theorem : (len : ℕ) → base_verdict h d g len ≡ accepted →
        PartiallyBalanced (blocks h) (g * objects h) (g * h.p) (grouped_list h d g) (groups_of h g)
        (record { l11 = r; l21 = 0; l12 = company h d 1 0; l22 = opposition h d 1 0 })
    -- and both calls hand these back
    pub counts : (len : ℕ) → base_verdict h d g len ≡ accepted →
        (grouped_answer (blocks h) (g * objects h) (g * h.p) (grouped_list h d g) (groups_of h g)).counts ≡ (base_answer h d g len).parameters.counts
    pub the_counts_lem : (len : ℕ) → base_verdict h d g len ≡ accepted →
        (base_answer h d g len).parameters.counts ≡ record { l11 = r; l21 = 0; l12 = company h d 1 0; l22 = opposition h d 1 0 }
