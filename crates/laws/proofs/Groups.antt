-- Any blocks as a list of objects, and when they are partially balanced with respect to groups.
--     listed, is-listed                        what an accepted list is, both ways
--     list_left, list_right, list-once         the objects of a block are below v, and none stands twice in it
--     shared_symmetric, opposed_symmetric      the two counts do not mind which object is named first
--     partial_is, is_partial, partial_counts   the test decides the relation, and the four numbers are those that are read off
-- Assumes nothing.
use mathlib.Core.Path.{◌≡◌, refl, sym, ◌∙◌, ap, subst}
use mathlib.Core.Bool.{Bool, true, false, not, ◌&&◌}
use mathlib.Core.List.{List, [], ◌∷◌, ◌++◌}
use Prim.Native.Nat.{ℕ, zero, suc, ◌+◌, ◌-◌, ◌*◌, ◌%◌, ◌≤◌, ◌<◌}
use native.Mathlib.Nat.{mul-le-mul_left}
use native.Mathlib.Omega.{arith}
use native.Mathlib.Decide.{ℕ_discrete, dec_lt}
use lib.ListN.{length, get_or, take, drop}
use lib.Seq.{take-add, drop-drop}
use lib.Dec.{eqb, leb, ltb}
use borrow.Author.Tests.{eq-eqb, ne_eqb, eqb-true, eqb-false, le-leb, leb-true, lt-ltb, ltb-true, ltb-false, not-false, not-true}
use Rattle.algebra.specs.Ranges.{all}
use Rattle.algebra.proofs.Tests.{and_left, and_right, and_both, all-at, all-each, first-before, first_bounds, first_holds}
use Rattle.records.specs.declared.GroupCounts.{GroupCounts}
use Rattle.meaning.specs.Design.{occ}
use Rattle.meaning.specs.Refusals.{accepted}
use Rattle.meaning.specs.Groups.{left_of, right_of, shared, opposed, one_group, group_size, even_groups, PartiallyBalanced, mate, stranger, counts_of, meets_as, partially_balanced, list_sized, strays, stray, list_verdict}
use Rattle.laws.proofs.Chains.{opened, held, accepts, test_yes}
use Rattle.laws.proofs.Occurrences.{Each, occ-append, occ-same, occ_absent}
use Rattle.laws.proofs.Counting.{company_in_symmetric, opposition_in_symmetric}
use Rattle.laws.proofs.Clean.{neither_left, neither_right, part_length, part_byte, block_fresh}

-- ---- an accepted list

-- the sizes of the request
pub record ListFits (count v p : ℕ) : Type 0 where
  pub count-least : 1 ≤ count
  pub count_most : count ≤ 1300
  pub v_most : v ≤ 50
  pub p_least : 1 ≤ p
  pub sides-fit : 2 * p ≤ v

pub list_fits : (count v p : ℕ) → list_sized count v p ≡ true → ListFits count v p
unfolding list_sized
list_fits count v p e =
    let a = and_left (leb 1 count && leb count 1300 && leb v 50 && leb 1 p) (leb (2 * p) v) e in
    let b = and_left (leb 1 count && leb count 1300 && leb v 50) (leb 1 p) a in
    let c = and_left (leb 1 count && leb count 1300) (leb v 50) b in
    record {
      count-least = leb-true 1 count (and_left (leb 1 count) (leb count 1300) c);
      count_most = leb-true count 1300 (and_right (leb 1 count) (leb count 1300) c);
      v_most = leb-true v 50 (and_right (leb 1 count && leb count 1300) (leb v 50) b);
      p_least = leb-true 1 p (and_right (leb 1 count && leb count 1300 && leb v 50) (leb 1 p) a);
      sides-fit = leb-true (2 * p) v (and_right (leb 1 count && leb count 1300 && leb v 50 && leb 1 p) (leb (2 * p) v) e);
    }

pub is_list_sized : (count v p : ℕ) → ListFits count v p → list_sized count v p ≡ true
unfolding list_sized
is_list_sized count v p f =
    rw (le-leb 1 count f.count-least, le-leb count 1300 f.count_most, le-leb v 50 f.v_most, le-leb 1 p f.p_least, le-leb (2 * p) v f.sides-fit)

-- where they cannot all fit, the test fails
pub not_list_sized : (count v p : ℕ) → (ListFits count v p → ⊥) → list_sized count v p ≡ false
not_list_sized count v p n = go (list_sized count v p) refl
  where
    go : (b : Bool) → list_sized count v p ≡ b → b ≡ false
    go true e = absurd (n (list_fits count v p e))
    go false e = refl

-- the list of an accepted call
pub record Listed (count v p : ℕ) (d groups : List ℕ) : Type 0 where
  pub fits : ListFits count v p
  pub long : length d ≡ 2 * p * count
  pub labelled : length groups ≡ v
  pub even : even_groups groups ≡ true
  pub clean : stray v p d ≡ length d

pub listed : (count v p : ℕ) (d groups : List ℕ) → list_verdict count v p d groups ≡ accepted → Listed count v p d groups
unfolding list_verdict
listed count v p d groups e =
    let a = opened _ _ e in
    let b = opened _ _ a.0 in
    let c = opened _ _ b.0 in
    let f = opened _ _ c.0 in
    record {
      fits = list_fits count v p (held _ _ _ f.0);
      long = eqb-true _ _ (held _ _ _ f.1);
      labelled = eqb-true _ _ (held _ _ _ c.1);
      even = held _ _ _ b.1;
      clean = eqb-true _ _ (held _ _ _ a.1);
    }

pub is-listed : (count v p : ℕ) (d groups : List ℕ) → Listed count v p d groups → list_verdict count v p d groups ≡ accepted
unfolding list_verdict
is-listed count v p d groups s =
    accepts (accepts (accepts (accepts (test_yes (list_sized count v p) 4 0 (is_list_sized count v p s.fits))
    (test_yes (eqb (length d) (2 * p * count)) 3 0 (eq-eqb _ _ s.long)))
    (test_yes (eqb (length groups) v) 3 0 (eq-eqb _ _ s.labelled)))
    (test_yes (even_groups groups) 14 0 s.even))
    (test_yes (eqb (stray v p d) (length d)) 5 (stray v p d) (eq-eqb _ _ s.clean))

-- ---- its blocks

module _ (v p : ℕ) (d : List ℕ) (clean : stray v p d ≡ length d) where
  strays-not : (i : ℕ) → i < length d → strays v p d i ≡ false
  unfolding stray
  strays-not i l = first-before (strays v p d) 0 (length d) i (omega arith) (subst (λ (x : ℕ). i < x) (sym clean) l)

  -- every byte is an object
  pub list_range : (i : ℕ) → i < length d → get_or d i 0 < v
  list_range i l = ltb-true _ _ (not-false (ltb (get_or d i 0) v) (neither_left (not (ltb (get_or d i 0) v)) _ (strays-not i l)))

  -- none stands among those before it in its block
  pub list_fresh : (i : ℕ) → i < length d → occ (get_or d i 0) (take (i % (2 * p)) (drop (i - i % (2 * p)) d)) ≡ 0
  list_fresh i l =
      let z = ltb-false 0 (occ (get_or d i 0) (take (i % (2 * p)) (drop (i - i % (2 * p)) d)))
      (neither_right (not (ltb (get_or d i 0) v)) _ (strays-not i l)) in
      omega (arith, z)

  -- the bytes of a part are objects
  pub part-below : (a len : ℕ) → a + len ≤ length d → Each (λ x. x < v) (take len (drop a d))
  part-below a len l i m =
      let m' : i < len = omega (arith, part_length d a len l) in
      subst (λ (x : ℕ). x < v) (sym (part_byte d a len i m')) (list_range (a + i) (omega arith))

-- the two sides are a block's bytes
pub list-halves : (p : ℕ) (d : List ℕ) (k : ℕ) → left_of p d k ++ right_of p d k ≡ take (2 * p) (drop (2 * p * k) d)
unfolding left_of right_of
list-halves p d k =
    ap (λ (xs : List ℕ). take p (drop (2 * p * k) d) ++ take p xs) (sym (drop-drop p (2 * p * k) d))
    ∙ sym (take-add p p (drop (2 * p * k) d)) ∙ ap (λ (q : ℕ). take q (drop (2 * p * k) d)) (double p)
  where
    double : (p : ℕ) → p + p ≡ 2 * p
    double p = omega arith

module _ (count v p : ℕ) (d groups : List ℕ) (s : Listed count v p d groups) (k : ℕ) (l : k < count) where
  -- block k lies in the list
  pub block_inside : 2 * p * k + 2 * p ≤ length d
  block_inside = omega (arith, s.long, mul-le-mul_left (2 * p) l)

  -- the objects of the left are below v
  pub list_left : Each (λ x. x < v) (left_of p d k)
  unfolding left_of
  list_left = part-below v p d s.clean (2 * p * k) p (omega (arith, block_inside))

  -- so are those of the right
  pub list_right : Each (λ x. x < v) (right_of p d k)
  unfolding right_of
  list_right = part-below v p d s.clean (2 * p * k + p) p (omega (arith, block_inside))

  -- no object stands twice in a block, be it on one side or on both
  pub list-once : (i : ℕ) → occ i (left_of p d k) + occ i (right_of p d k) ≤ 1
  list-once i = subst (λ (z : ℕ). z ≤ 1) (ap (occ i) (sym (list-halves p d k)) ∙ occ-append i (left_of p d k) (right_of p d k))
      (block_fresh (2 * p) d (list_fresh v p d s.clean) k i block_inside)

-- ---- the counts do not mind which object is named first

pub shared_symmetric : (count p : ℕ) (d : List ℕ) (i j : ℕ) → shared count p d i j ≡ shared count p d j i
unfolding shared
shared_symmetric count p d = company_in_symmetric count (left_of p d) (right_of p d)

pub opposed_symmetric : (count p : ℕ) (d : List ℕ) (i j : ℕ) → opposed count p d i j ≡ opposed count p d j i
unfolding opposed
opposed_symmetric count p d = opposition_in_symmetric count (left_of p d) (right_of p d)

-- ---- groups

-- what the test of the groups says
pub record EvenGroups (groups : List ℕ) : Type 0 where
  pub size-least : 2 ≤ group_size groups 0
  pub several : group_size groups 0 < length groups
  pub alike : (i : ℕ) → i < length groups → group_size groups i ≡ group_size groups 0

module _ (groups : List ℕ) where
  abbrev large : Bool
  large = leb 2 (group_size groups 0)

  abbrev part : Bool
  part = ltb (group_size groups 0) (length groups)

  abbrev like_first : ℕ → Bool
  like_first i = eqb (group_size groups i) (group_size groups 0)

  pub even-groups : even_groups groups ≡ true → EvenGroups groups
  unfolding even_groups
  even-groups e =
      let a = and_left (large && part) (all (length groups) like_first) e in
      record {
        size-least = leb-true _ _ (and_left large part a);
        several = ltb-true _ _ (and_right large part a);
        alike = λ i l. eqb-true _ _ (all-at (length groups) like_first (and_right (large && part) (all (length groups) like_first) e) i l);
      }

  pub is_even_groups : EvenGroups groups → even_groups groups ≡ true
  unfolding even_groups
  is_even_groups g =
      and_both (and_both (le-leb _ _ g.size-least) (lt-ltb _ _ g.several))
      (all-each (length groups) like_first (λ i l. eq-eqb _ _ (g.alike i l)))

-- an object of another number than all after it is alone in its group
lone : (xs : List ℕ) → ((j : ℕ) → 1 ≤ j → j < length xs → eqb (get_or xs j 0) (get_or xs 0 0) ≡ false) → occ (get_or xs 0 0) xs ≤ 1
unfolding occ
lone [] h = omega arith
lone (y ∷ ys) h =
    omega (arith, occ-same y y ys refl, occ_absent y ys (λ c l e. eqb-false (get_or ys c 0) y (h (suc c) (omega arith) (omega arith)) e))

-- where all have one number, there is one group
pub all_alike : (x : ℕ) (xs : List ℕ) → ((j : ℕ) → j < length xs → get_or xs j 0 ≡ x) → occ x xs ≡ length xs
unfolding occ
all_alike x [] h = refl
all_alike x (y ∷ ys) h = occ-same x y ys (sym (h 0 (omega arith))) ∙ ap suc' (all_alike x ys (λ j l. h (suc j) (omega arith))) ∙ omega arith
  where
    suc' : ℕ → ℕ
    suc' k = 1 + k

module _ (groups : List ℕ) (g : EvenGroups groups) where
  -- object 0 has a mate
  pub mate-below : (1 ≤ mate groups) × (mate groups < length groups)
  unfolding mate
  mate-below = ((first_bounds (λ j. one_group groups j 0) 1 (length groups - 1)).0, by (dec_lt (mate groups) (length groups)))
    where
      by : Dec (mate groups < length groups) → mate groups < length groups
      by (yes l) = l
      by (no n) = absurd (omega (
        arith,
        g.size-least,
        lone groups (λ j m l. first-before (λ j. one_group groups j 0) 1 (length groups - 1) j m (omega (arith, n))),
      ))

  pub mate-same : get_or groups (mate groups) 0 ≡ get_or groups 0 0
  unfolding mate
  mate-same = eqb-true _ _ (first_holds (λ j. one_group groups j 0) 1 (length groups - 1) (omega (arith, mate-below.1)))

  -- and there is a stranger
  pub stranger-below : (1 ≤ stranger groups) × (stranger groups < length groups)
  unfolding stranger
  stranger-below = ((first_bounds (λ j. not (one_group groups j 0)) 1 (length groups - 1)).0, by (dec_lt (stranger groups) (length groups)))
    where
      same : (stranger groups < length groups → ⊥) → (j : ℕ) → j < length groups → get_or groups j 0 ≡ get_or groups 0 0
      same n zero l = refl
      same n (suc j) l = eqb-true _ _ (not-false (one_group groups (suc j) 0)
          (first-before (λ j. not (one_group groups j 0)) 1 (length groups - 1) (suc j) (omega arith) (omega (arith, n))))

      by : Dec (stranger groups < length groups) → stranger groups < length groups
      by (yes l) = l
      by (no n) = absurd (omega (arith, g.several, all_alike (get_or groups 0 0) groups (same n)))

  pub stranger-other : get_or groups (stranger groups) 0 ≡ get_or groups 0 0 → ⊥
  unfolding stranger
  stranger-other = eqb-false _ _ (not-true (one_group groups (stranger groups) 0)
      (first_holds (λ j. not (one_group groups j 0)) 1 (length groups - 1) (omega (arith, stranger-below.1))))

-- ---- the test of partial balance

module _ (c : GroupCounts) (together against : ℕ) where
  pub meets_within : (b : Bool) → b ≡ true → meets_as c b together against ≡ true → (together ≡ c.l11) × (against ≡ c.l21)
  meets_within b e t =
      let u : eqb together c.l11 && eqb against c.l21 ≡ true = rw e at t in
      (eqb-true _ _ (and_left (eqb together c.l11) (eqb against c.l21) u), eqb-true _ _ (and_right (eqb together c.l11) (eqb against c.l21) u))

  pub meets_between : (b : Bool) → b ≡ false → meets_as c b together against ≡ true → (together ≡ c.l12) × (against ≡ c.l22)
  meets_between b e t =
      let u : eqb together c.l12 && eqb against c.l22 ≡ true = rw e at t in
      (eqb-true _ _ (and_left (eqb together c.l12) (eqb against c.l22) u), eqb-true _ _ (and_right (eqb together c.l12) (eqb against c.l22) u))

module _ (count v p : ℕ) (d groups : List ℕ) where
  abbrev meet : GroupCounts → ℕ → ℕ → Bool
  meet c i j = meets_as c (one_group groups i j) (shared count p d i j) (opposed count p d i j)

  -- what the test says of a pair
  module _ (e : partially_balanced count v p d groups ≡ true) where
    abbrev c : GroupCounts
    c = counts_of count p d groups

    tested : (i j : ℕ) → i < v → j < i → meet c i j ≡ true
    unfolding partially_balanced
    tested i j l m = all-at i (meet c i) (all-at v (λ i. all i (meet c i)) e i l) j m

    within : (i j : ℕ) → i < v → j < v → (i ≡ j → ⊥) → get_or groups i 0 ≡ get_or groups j 0 →
        (shared count p d i j ≡ c.l11) × (opposed count p d i j ≡ c.l21)
    within i j l m ne s = go (dec_lt j i)
      where
        go : Dec (j < i) → (shared count p d i j ≡ c.l11) × (opposed count p d i j ≡ c.l21)
        go (yes q) = meets_within c _ _ (one_group groups i j) (eq-eqb _ _ s) (tested i j l q)
        go (no q) =
            let r : i < j = apart (ℕ_discrete i j) in
            let u = meets_within c _ _ (one_group groups j i) (eq-eqb _ _ (sym s)) (tested j i m r) in
            (shared_symmetric count p d i j ∙ u.0, opposed_symmetric count p d i j ∙ u.1)
          where
            apart : Dec (i ≡ j) → i < j
            apart (yes e) = absurd (ne e)
            apart (no e) = omega arith

    between : (i j : ℕ) → i < v → j < v → (get_or groups i 0 ≡ get_or groups j 0 → ⊥) →
        (shared count p d i j ≡ c.l12) × (opposed count p d i j ≡ c.l22)
    between i j l m s = go (dec_lt j i)
      where
        go : Dec (j < i) → (shared count p d i j ≡ c.l12) × (opposed count p d i j ≡ c.l22)
        go (yes q) = meets_between c _ _ (one_group groups i j) (ne_eqb _ _ s) (tested i j l q)
        go (no q) =
            let r : i < j = apart (ℕ_discrete i j) in
            let u = meets_between c _ _ (one_group groups j i) (ne_eqb _ _ (λ e. s (sym e))) (tested j i m r) in
            (shared_symmetric count p d i j ∙ u.0, opposed_symmetric count p d i j ∙ u.1)
          where
            apart : Dec (i ≡ j) → i < j
            apart (yes e) = absurd (s (ap (λ (k : ℕ). get_or groups k 0) e))
            apart (no e) = omega arith

    -- where the test holds, the blocks are partially balanced with the counts that are read off
    pub partial_is : PartiallyBalanced count v p d groups c
    partial_is = record {
      together-within = λ i j l m ne s. (within i j l m ne s).0;
      against-within = λ i j l m ne s. (within i j l m ne s).1;
      together-between = λ i j l m s. (between i j l m s).0;
      against-between = λ i j l m s. (between i j l m s).1;
    }

  module _ (labelled : length groups ≡ v) (g : EvenGroups groups) (c : GroupCounts) (b : PartiallyBalanced count v p d groups c) where
    first-object : 0 < v
    first-object = omega (arith, g.several)

    pair : (1 ≤ mate groups) × (mate groups < v)
    pair = ((mate-below groups g).0, omega (arith, (mate-below groups g).1))

    others : (1 ≤ stranger groups) × (stranger groups < v)
    others = ((stranger-below groups g).0, omega (arith, (stranger-below groups g).1))

    -- four numbers with which the blocks are partially balanced are those that are read off
    pub partial_counts : c ≡ counts_of count p d groups
    partial_counts = four (sym (b.together-within _ 0 pair.1 first-object (λ e. omega (arith, pair.0)) (mate-same groups g)))
        (sym (b.against-within _ 0 pair.1 first-object (λ e. omega (arith, pair.0)) (mate-same groups g)))
        (sym (b.together-between _ 0 others.1 first-object (stranger-other groups g)))
        (sym (b.against-between _ 0 others.1 first-object (stranger-other groups g)))
      where
        four : {w x y z : ℕ} → c.l11 ≡ w → c.l21 ≡ x → c.l12 ≡ y → c.l22 ≡ z → c ≡ record { l11 = w; l21 = x; l12 = y; l22 = z }
        four e f g h = rw (← e, ← f, ← g, ← h) refl

    meets : (i j : ℕ) → i < v → j < i → meet c i j ≡ true
    meets i j l m = go (ℕ_discrete (get_or groups i 0) (get_or groups j 0))
      where
        go : Dec (get_or groups i 0 ≡ get_or groups j 0) → meet c i j ≡ true
        go (yes e) = rw (eq-eqb _ _ e) (and_both (eq-eqb _ _ (b.together-within i j l (omega arith) (λ q. omega arith) e))
            (eq-eqb _ _ (b.against-within i j l (omega arith) (λ q. omega arith) e)))
        go (no n) = rw (ne_eqb _ _ n) (and_both (eq-eqb _ _ (b.together-between i j l (omega arith) n)) (eq-eqb _ _ (b.against-between i j l (omega arith) n)))

    -- and the test holds
    pub is_partial : partially_balanced count v p d groups ≡ true
    unfolding partially_balanced
    is_partial = subst (λ (k : GroupCounts). all v (λ i. all i (meet k i)) ≡ true) partial_counts
        (all-each v (λ i. all i (meet c i)) (λ i l. all-each i (meet c i) (λ j m. meets i j l m)))
