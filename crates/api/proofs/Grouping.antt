-- The call that makes a grouped set with too few slots, and what the number 0 tells of calls on blocks in groups. Assumes nothing.
use Prim.Native.Nat.{ℕ, ◌*◌, ◌≤◌, ◌<◌}
use mathlib.Core.Path.{◌≡◌}
use mathlib.Core.List.{List}
use native.Mathlib.Omega.{arith}
use native.Mathlib.Nat.{mul-le-mul}
use mathlib.Core.Bool.{◌&&◌}
use lib.Dec.{eqb, leb}
use lib.ListN.{length}
use Rattle.records.specs.declared.Head.{Head}
use Rattle.meaning.specs.Design.{objects, blocks, list_length, sized, balanced}
use Rattle.meaning.specs.Refusals.{Verdict, accepted, ◌⨾◌, offender, sizes, length_is, clean, in_balance, room}
use Rattle.meaning.specs.Groups.{even_groups, partially_balanced, list_sized, stray, list_verdict, grouped_verdict, grouped_answer, groups_fit, base_verdict}
use Rattle.laws.proofs.Chains.{opened, held, fits}
use Rattle.slots.specs.Groups.{grouped_call, group_set_call}
use Rattle.slots.proofs.Numbered.{Numbered, numbered_test, numbered_then}
use Rattle.api.specs.Groups.{group_base_call}
use Rattle.api.proofs.Slots.{nothing_laid, laid_once, room_of_one_under}

module _ (h : Head) (d : List ℕ) (g : ℕ) where
  abbrev early : Verdict
  early = sizes h ⨾ length_is (length d) (list_length h) ⨾ groups_fit h g

  abbrev tests : Verdict
  tests = early ⨾ clean h d ⨾ in_balance h d

  -- an accepted design has more than one word
  words-some : tests ≡ accepted → 1 < 2 * blocks h
  words-some e =
      let a = (opened (early ⨾ clean h d) (in_balance h d) e).0 in
      let b = (opened early (clean h d) a).0 in
      let c = (opened (sizes h ⨾ length_is (length d) (list_length h)) (groups_fit h g) b).0 in
      let f = fits h (held _ _ _ (opened (sizes h) (length_is (length d) (list_length h)) c).0) in
      let one : 1 ≤ h.n = omega (arith, f.n_least) in
      omega (arith, mul-le-mul f.m_least one)

  -- with too few slots the tests alone count, as a room of one word tells
  pub groups_alone : (len slots need : ℕ) → slots < need → base_verdict h d g len ⨾ room slots need ≡ base_verdict h d g 1
  unfolding base_verdict
  groups_alone len slots need l = room_of_one_under tests len (2 * blocks h) slots need l words-some

-- a grouped set written
pub ruleset group_calls = (nothing_laid, laid_once, groups_alone)

-- ---- what the number 0 tells

-- blocks in groups
pub grouped_numbered : (count v p : ℕ) (d groups answer : List ℕ) → Numbered (grouped_call (grouped_answer count v p d groups) answer)
unfolding grouped_call grouped_verdict list_verdict
grouped_numbered count v p d groups answer =
    let lengths = numbered_then (numbered_then (numbered_test (list_sized count v p) 3 0) (numbered_test (eqb (length d) (2 * p * count)) 2 0))
    (numbered_test (eqb (length groups) v) 2 0) in
    let contents = numbered_then (numbered_then lengths (numbered_test (even_groups groups) 13 0)) (numbered_test (eqb (stray v p d) (length d)) 4 (stray v p d)) in
    numbered_then (numbered_then contents (numbered_test (partially_balanced count v p d groups) 5 0)) (numbered_test (leb 4 (length answer)) 9 0)

-- a grouped set
pub group_base_numbered : (h : Head) (d : List ℕ) (g : ℕ) (words answer : List ℕ) → Numbered (group_base_call h d g words answer)
unfolding group_set_call base_verdict
group_base_numbered h d g words answer =
    let lengths = numbered_then (numbered_test (sized h) 3 0) (numbered_test (eqb (length d) (list_length h)) 2 0) in
    let groups = numbered_then lengths (numbered_test (leb 2 g && leb (g * objects h) 50) 13 0) in
    let contents = numbered_then (numbered_then groups (numbered_test (eqb (offender h d) (length d)) 4 (offender h d))) (numbered_test (balanced h d) 5 0) in
    numbered_then (numbered_then contents (numbered_test (leb (2 * blocks h) (length words)) 9 0)) (numbered_test (leb 8 (length answer)) 9 0)
