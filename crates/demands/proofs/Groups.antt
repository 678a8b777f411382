-- What the page says of grouped sets: from the laws of partial balance and of the grouped set of a design. Assumes nothing.
use mathlib.Core.Bool.{Bool, true, false, cond}
use mathlib.Core.List.{List, [], ◌∷◌}
use mathlib.Core.Path.{◌≡◌, refl, sym, ap, ◌∙◌, subst}
use Prim.Native.Nat.{ℕ, zero, suc, ◌+◌, ◌-◌, ◌*◌, ◌/◌, ◌%◌, ◌≤◌, ◌<◌}
use native.Mathlib.Omega.{arith}
use native.Mathlib.Decide.{ℕ_discrete, dec_lt}
use borrow.Author.Tests.{le-ltb, leb-true, eqb-true}
use lib.Dec.{eqb, leb}
use lib.ListN.{length, get_or}
use Rattle.algebra.specs.Buffers.{over}
use Rattle.algebra.proofs.Filling.{get_d_over}
use Rattle.algebra.proofs.Tests.{and_left, and_right}
use Rattle.records.specs.declared.Head.{Head}
use Rattle.records.specs.declared.GroupCounts.{GroupCounts}
use Rattle.records.specs.declared.GroupParameters.{GroupParameters}
use Rattle.meaning.specs.Design.{objects, blocks, list_length, occ, left, right, company, opposition, beta, balanced}
use Rattle.meaning.specs.Refusals.{Verdict, accepted, test, ◌⨾◌, sizes, length_is, clean, in_balance, room}
use Rattle.meaning.specs.Calls.{given, word}
use Rattle.meaning.specs.Groups.{
  left_of,
  right_of,
  group_size,
  even_groups,
  PartiallyBalanced,
  stranger,
  counts_of,
  partially_balanced,
  list_sized,
  list_verdict,
  grouped_verdict,
  grouped_answer,
  no_counts,
  in_members,
  side_at,
  grouped_list,
  groups_of,
  grouped_word_at,
  groups_fit,
  base_verdict,
  base_answer,
  base_words,
  group_parameters_of,
  no_group_parameters,
}
use Rattle.laws.proofs.Chains.{Sound, opened, held, accepts, test_yes, given_yes, given_no, fits}
use Rattle.laws.proofs.Occurrences.{occ-same, occ-other}
use Rattle.laws.proofs.Groups.{even-groups, is_even_groups, stranger-below, stranger-other, listed, partial_is, partial_counts, is_partial}
use Rattle.laws.proofs.Grouping.{
  occ-members,
  grouped-left,
  grouped-right,
  grouped_partial,
  grouped-accepted,
  grouped-counts,
}
use Rattle.demands.specs.Groups.{InGroups, AnyBlocks, FromBase}

-- ---- groups

-- a number stands in a list at most as often as the list is long
size-most : (x : ℕ) (xs : List ℕ) → occ x xs ≤ length xs
unfolding occ
size-most x [] = omega arith
size-most x (y ∷ ys) = go (eqb x y) (size-most x ys)
  where
    go : (b : Bool) → occ x ys ≤ length ys → cond b 1 0 + occ x ys ≤ suc (length ys)
    go true h = omega arith
    go false h = omega arith

-- where it stands as often, there is no other
whole-list : (x : ℕ) (xs : List ℕ) → length xs ≤ occ x xs → (i : ℕ) → i < length xs → get_or xs i 0 ≡ x
whole-list x [] h i l = absurd (none i l)
  where
    none : (i : ℕ) → i < 0 → ⊥
    none i l = omega arith
whole-list x (y ∷ ys) h i l = go (ℕ_discrete x y) i l (λ m j k. whole-list x ys m j k)
  where
    go : Dec (x ≡ y) → (i : ℕ) → i < suc (length ys) → (length ys ≤ occ x ys → (j : ℕ) → j < length ys → get_or ys j 0 ≡ x) → get_or (y ∷ ys) i 0 ≡ x
    go (yes e) zero l ih = sym e
    go (yes e) (suc i) l ih = ih (omega (arith, h, occ-same x y ys e)) i (omega arith)
    go (no n) i l ih = absurd (omega (arith, h, occ-other x y ys n, size-most x ys))

module _ (groups : List ℕ) where
  in_groups_lem : even_groups groups ≡ true → InGroups groups
  in_groups_lem e =
      let g = even-groups groups e in
      record {
        size = group_size groups 0;
        at_least_two = g.size-least;
        of_one_size = g.alike;
        one = stranger groups;
        other = 0;
        both_there = ((stranger-below groups g).1, omega (arith, g.several));
        two-groups = stranger-other groups g;
      }

  -- with two groups, object 0's is not all
  not-all : InGroups groups → group_size groups 0 < length groups
  not-all k = go (dec_lt (group_size groups 0) (length groups))
    where
      go : Dec (group_size groups 0 < length groups) → group_size groups 0 < length groups
      go (yes l) = l
      go (no n) = absurd (k.two-groups (same k.one k.both_there.0 ∙ sym (same k.other k.both_there.1)))
        where
          same : (i : ℕ) → i < length groups → get_or groups i 0 ≡ get_or groups 0 0
          same i l = whole-list (get_or groups 0 0) groups (omega (arith, n, size-most (get_or groups 0 0) groups)) i l

  are_even : InGroups groups → even_groups groups ≡ true
  are_even k =
      let some : 0 < length groups = omega (arith, k.both_there.0) in
      is_even_groups groups (record {
        size-least = omega (arith, k.of_one_size 0 some, k.at_least_two);
        several = not-all k;
        alike = λ i l. k.of_one_size i l ∙ sym (k.of_one_size 0 some);
      })

-- ---- the direct call

module _ (count v p : ℕ) (d groups : List ℕ) where
  -- the answer, accepted
  accepted-counts : grouped_verdict count v p d groups ≡ accepted → (grouped_answer count v p d groups).counts ≡ counts_of count p d groups
  accepted-counts e = given_yes (grouped_verdict count v p d groups) (counts_of count p d groups) no_counts e

  -- its last test held
  tested : grouped_verdict count v p d groups ≡ accepted → partially_balanced count v p d groups ≡ true
  unfolding grouped_verdict
  tested e = held _ _ _ (opened (list_verdict count v p d groups) (test (partially_balanced count v p d groups) 6 0) e).1

  -- and where it holds, the list is accepted
  yes_verdict : list_verdict count v p d groups ≡ accepted → partially_balanced count v p d groups ≡ true → grouped_verdict count v p d groups ≡ accepted
  unfolding grouped_verdict
  yes_verdict l t = accepts l (test_yes (partially_balanced count v p d groups) 6 0 t)

  then-partial : grouped_verdict count v p d groups ≡ accepted → PartiallyBalanced count v p d groups (grouped_answer count v p d groups).counts
  then-partial e = subst (λ (c : GroupCounts). PartiallyBalanced count v p d groups c) (sym (accepted-counts e))
      (partial_is count v p d groups (tested e))

  if-partial : list_verdict count v p d groups ≡ accepted → (c : GroupCounts) → PartiallyBalanced count v p d groups c →
      grouped_answer count v p d groups ≡ record { verdict = accepted; counts = c }
  if-partial l c b =
      let s = listed count v p d groups l in
      let g = even-groups groups s.even in
      let e = yes_verdict l (is_partial count v p d groups s.labelled g c b) in
      ap (λ (k : Verdict). record { verdict = k; counts = given k (counts_of count p d groups) no_counts }) e
      ∙ ap (λ (k : GroupCounts). record { verdict = accepted; counts = k }) (sym (partial_counts count v p d groups s.labelled g c b))

  pub any_blocks : AnyBlocks count v p d groups
  unfolding grouped_verdict list_verdict list_sized
  any_blocks = record {
    order = refl;
    groups_are = (in_groups_lem groups, are_even groups);
    no-∞ = λ l i e. rw (le-ltb (get_or d i 0) v (omega (arith, e, l)));
    accepts-then = then-partial;
    accepts_if = if-partial;
    hands_back = λ k at e. given_no (grouped_verdict count v p d groups) (counts_of count p d groups) no_counts k at e;
  }

-- ---- the call from a design

-- what an accepted base is
record Base (h : Head) (d : List ℕ) (g len : ℕ) : Type 0 where
  pub design : Sound h d
  pub even : balanced h d ≡ true
  pub two : 2 ≤ g
  pub narrow : g * objects h ≤ 50
  pub roomy : 2 * blocks h ≤ len

base : (h : Head) (d : List ℕ) (g len : ℕ) → base_verdict h d g len ≡ accepted → Base h d g len
unfolding base_verdict
base h d g len e =
    let early = sizes h ⨾ length_is (length d) (list_length h) in
    let a = opened (early ⨾ groups_fit h g ⨾ clean h d ⨾ in_balance h d) (room len (2 * blocks h)) e in
    let b = opened (early ⨾ groups_fit h g ⨾ clean h d) (in_balance h d) a.0 in
    let c = opened (early ⨾ groups_fit h g) (clean h d) b.0 in
    let f = opened early (groups_fit h g) c.0 in
    let k = opened (sizes h) (length_is (length d) (list_length h)) f.0 in
    let both = held _ _ _ f.1 in
    record {
      design = record { sizes = fits h (held _ _ _ k.0); long = eqb-true _ _ (held _ _ _ k.1); clean = eqb-true _ _ (held _ _ _ c.1) };
      even = held _ _ _ b.1;
      two = leb-true _ _ (and_left (leb 2 g) (leb (g * objects h) 50) both);
      narrow = leb-true _ _ (and_right (leb 2 g) (leb (g * objects h) 50) both);
      roomy = leb-true _ _ (held _ _ _ a.1);
    }

-- the sides of a block, by its number
left-side : (h : Head) (d : List ℕ) (k : ℕ) → side_at h d (2 * k) ≡ left h d k
unfolding side_at
left-side h d k =
    let q : 2 * k / 2 ≡ k = omega arith in
    let r : 2 * k % 2 ≡ 0 = omega arith in
    rw (q, r)

right_side : (h : Head) (d : List ℕ) (k : ℕ) → side_at h d (2 * k + 1) ≡ right h d k
unfolding side_at
right_side h d k =
    let q : (2 * k + 1) / 2 ≡ k = omega arith in
    let r : (2 * k + 1) % 2 ≡ 1 = omega arith in
    rw (q, r)

module _ (h : Head) (d : List ℕ) (g : ℕ) where
  some : (len : ℕ) → base_verdict h d g len ≡ accepted → 0 < g
  some len e = omega (arith, (base h d g len e).two)

  -- a word that was written
  at-word : (words : List ℕ) (c : ℕ) → base_verdict h d g (length words) ≡ accepted → c < 2 * blocks h →
      get_or (base_words h d g words) c 0 ≡ word (in_members g (side_at h d c))
  unfolding grouped_word_at
  at-word words c e l =
      ap (λ (t : List ℕ). get_or t c 0)
      (given_yes (base_verdict h d g (length words)) (over (2 * blocks h) (grouped_word_at h d g) words) words e)
      ∙ get_d_over (2 * blocks h) (grouped_word_at h d g) words 0 c l (base h d g (length words) e).roomy

  lefts : (len k : ℕ) → base_verdict h d g len ≡ accepted → k < blocks h → left_of (g * h.p) (grouped_list h d g) k ≡ in_members g (left h d k)
  lefts len k e l = grouped-left h d (base h d g len e).design g (some len e) k l

  rights : (len k : ℕ) → base_verdict h d g len ≡ accepted → k < blocks h → right_of (g * h.p) (grouped_list h d g) k ≡ in_members g (right h d k)
  rights len k e l = grouped-right h d (base h d g len e).design g (some len e) k l

  whole : (len : ℕ) → base_verdict h d g len ≡ accepted →
      grouped_verdict (blocks h) (g * objects h) (g * h.p) (grouped_list h d g) (groups_of h g) ≡ accepted
  whole len e = let b = base h d g len e in grouped-accepted h d b.design b.even g b.two b.narrow

  handed : (len : ℕ) → base_verdict h d g len ≡ accepted →
      (base_answer h d g len).parameters.counts ≡ record { l11 = beta h d * (objects h - 1); l21 = 0; l12 = company h d 1 0; l22 = opposition h d 1 0 }
  handed len e = ap (λ (q : GroupParameters). q.counts) (given_yes (base_verdict h d g len) (group_parameters_of h d g) no_group_parameters e)

  pub from_base : FromBase h d g
  unfolding base_verdict
  from_base = record {
    order = λ len. refl;
    leaves = λ words k at e. given_no (base_verdict h d g (length words)) (over (2 * blocks h) (grouped_word_at h d g) words) words k at e;
    hands_back = λ len k at e. given_no (base_verdict h d g len) (group_parameters_of h d g) no_group_parameters k at e;
    members = λ two x side. occ-members g (omega (arith, two)) x side;
    blocks_are = λ len k e l. (lefts len k e l, rights len k e l);
    words_are = λ words k e l. (
      at-word words (2 * k) e (omega (arith, l)) ∙ ap (λ (t : List ℕ). word (in_members g t)) (left-side h d k) ∙ ap word (sym (lefts (length words) k e l)),
      at-word words (2 * k + 1) e (omega (arith, l)) ∙ ap (λ (t : List ℕ). word (in_members g t)) (right_side h d k)
          ∙ ap word (sym (rights (length words) k e l)),
    );
    composed = whole;
    theorem = λ len e. let b = base h d g len e in grouped_partial h d b.design b.even g b.two b.narrow;
    counts = λ len e. let b = base h d g len e in
        accepted-counts (blocks h) (g * objects h) (g * h.p) (grouped_list h d g) (groups_of h g) (whole len e)
        ∙ sym (grouped-counts h d b.design b.even g b.two b.narrow) ∙ sym (handed len e);
    the_counts_lem = handed;
  }
