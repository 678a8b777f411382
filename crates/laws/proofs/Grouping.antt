-- The grouped set of a design (004, theorem 5.1): every object is replaced by its g members. A member x is of object x / g, and stands on a side as often as
-- that object does; so two members meet as often as their objects. The list of the grouped blocks, with its groups, is partially balanced.
--     occ-members                      how often a member stands on a grouped side
--     grouped-left, grouped-right      the sides of the list are the grouped sides of the design
--     shared-members, opposed-members  two members meet as often as their objects
--     grouped-accepted                 the theorem: the call accepts the list, with the counts r, 0, L1, L2
-- Assumes nothing.
use mathlib.Core.Path.{◌≡◌, refl, sym, ◌∙◌, ap, ap₂, subst}
use mathlib.Core.Bool.{Bool, true, false, cond}
use mathlib.Core.List.{List, [], ◌∷◌, ◌++◌, map, map-append}
use Prim.Native.Nat.{ℕ, zero, suc, ◌+◌, ◌-◌, ◌*◌, ◌/◌, ◌%◌, ◌≤◌, ◌<◌}
use native.Mathlib.Nat.{mod-lt, div-add-mod, mul-le-mul, mul-le-mul_left, div-lt_iff_lt-mul, zero-div, mul-suc, mul_comm, zero-add}
use native.Mathlib.Omega.{arith}
use native.Mathlib.Decide.{ℕ_discrete, dec_lt}
use lib.Arith.{digits_div}
use lib.ListN.{length, get_or, take, drop, length-append, length-drop, length-map, take-append-drop, get_or-map}
use lib.Seq.{take-suc, take-take, take_all, drop_at, take-append-le, drop-append-le}
use lib.Dec.{eqb}
use borrow.Author.Tests.{eq-eqb, ne_eqb, lt-ltb}
use Rattle.algebra.proofs.Tests.{first_from_none}
use Rattle.algebra.proofs.Sums.{sumℕ_cong}
use Rattle.records.specs.declared.Head.{Head}
use Rattle.records.specs.declared.GroupCounts.{GroupCounts}
use Rattle.meaning.specs.Design.{objects, blocks, occ, left, right, company, opposition, balanced, beta}
use Rattle.meaning.specs.Refusals.{accepted}
use Rattle.meaning.specs.Groups.{
  left_of,
  right_of,
  shared,
  opposed,
  group_size,
  PartiallyBalanced,
  counts_of,
  partially_balanced,
  strays,
  stray,
  grouped_verdict,
  run,
  in_members,
  side_at,
  grouped_sides,
  grouped_list,
  groups_of,
}
use Rattle.laws.proofs.Chains.{Sound, accepts, test_yes}
use Rattle.laws.proofs.Occurrences.{Each, each_tail, occ-same, occ-other, occ-append, occ-here, occ_absent}
use Rattle.laws.proofs.Clean.{left-objects, right-objects, left-length, right-length, block-once, part_length, part_byte}
use Rattle.laws.proofs.Counting.{balanced-is, opposition_self}
use Rattle.laws.proofs.CountingNumbers.{parameters}
use Rattle.laws.proofs.Groups.{ListFits, Listed, is-listed, list-halves, EvenGroups, is_even_groups, all_alike, partial_counts, is_partial}

-- ---- runs of numbers

pub length_run : (a c : ℕ) → length (run a c) ≡ c
unfolding run
length_run a zero = refl
length_run a (suc c) = ap suc (length_run (suc a) c)

get_d_run : (a c i : ℕ) → i < c → get_or (run a c) i 0 ≡ a + i
unfolding run
get_d_run a zero i l = absurd (omega arith)
get_d_run a (suc c) zero l = omega arith
get_d_run a (suc c) (suc i) l = get_d_run (suc a) c i (omega arith) ∙ omega arith

run-append : (a c e : ℕ) → run a (c + e) ≡ run a c ++ run (a + c) e
unfolding run
run-append a zero e = ap₂ run (sym (zero_right a)) (zero-add e)
  where
    zero_right : (a : ℕ) → a + 0 ≡ a
    zero_right a = omega arith
run-append a (suc c) e =
    let n : suc c + e ≡ suc (c + e) = omega arith in
    let m : a + suc c ≡ suc a + c = omega arith in
    rw (n, m) (ap (λ (t : List ℕ). a ∷ t) (run-append (suc a) c e))

-- a number below a run does not stand there, nor does one above
run-low : (x a c : ℕ) → x < a → occ x (run a c) ≡ 0
unfolding run occ
run-low x a zero l = refl
run-low x a (suc c) l = occ-other x a (run (suc a) c) (λ e. omega arith) ∙ run-low x (suc a) c (omega arith)

run_high : (x a c : ℕ) → a + c ≤ x → occ x (run a c) ≡ 0
unfolding run occ
run_high x a zero l = refl
run_high x a (suc c) l = occ-other x a (run (suc a) c) (λ e. omega arith) ∙ run_high x (suc a) c (omega arith)

-- one within stands there once
run_in : (x a c : ℕ) → a ≤ x → x < a + c → occ x (run a c) ≡ 1
unfolding run occ
run_in x a zero l m = absurd (omega arith)
run_in x a (suc c) l m = go (ℕ_discrete x a) (λ n. run_in x (suc a) c n (omega arith))
  where
    go : Dec (x ≡ a) → (suc a ≤ x → occ x (run (suc a) c) ≡ 1) → occ x (a ∷ run (suc a) c) ≡ 1
    go (yes e) ih = omega (arith, occ-same x a (run (suc a) c) e, run-low x (suc a) c (omega arith))
    go (no n) ih = occ-other x a (run (suc a) c) n ∙ ih (omega (arith, n))

-- ---- the members of an object

module _ (g : ℕ) (some : 0 < g) where
  -- x lies among the members of x / g
  low-member : (x : ℕ) → g * (x / g) ≤ x
  low-member x = omega (arith, div-add-mod x g)

  high_member : (x : ℕ) → x < g * (x / g) + g
  high_member x = omega (arith, div-add-mod x g, mod-lt x some)

  -- it stands once among them, and not among those of another
  occ-run : (x i : ℕ) → occ x (run (g * i) g) ≡ cond (eqb (x / g) i) 1 0
  occ-run x i = go (ℕ_discrete (x / g) i) (dec_lt (x / g) i)
    where
      go : Dec (x / g ≡ i) → Dec (x / g < i) → occ x (run (g * i) g) ≡ cond (eqb (x / g) i) 1 0
      go (yes e) o =
          let lo : g * i ≤ x = subst (λ (k : ℕ). g * k ≤ x) e (low-member x) in
          let hi : x < g * i + g = subst (λ (k : ℕ). x < g * k + g) e (high_member x) in
          run_in x (g * i) g lo hi ∙ rw (eq-eqb (x / g) i e)
      go (no n) (yes l) = run-low x (g * i) g (omega (arith, high_member x, mul-suc g (x / g), mul-le-mul_left g l)) ∙ rw (ne_eqb (x / g) i n)
      go (no n) (no o) =
          let m : suc i ≤ x / g = omega (arith, n, o) in
          run_high x (g * i) g (omega (arith, low-member x, mul-suc g i, mul-le-mul_left g m)) ∙ rw (ne_eqb (x / g) i n)

  -- a member stands on a grouped side as often as its object stood there
  pub occ-members : (x : ℕ) (side : List ℕ) → occ x (in_members g side) ≡ occ (x / g) side
  unfolding in_members occ
  occ-members x [] = refl
  occ-members x (i ∷ side) = occ-append x (run (g * i) g) (in_members g side) ∙ ap₂ ◌+◌ (occ-run x i) (occ-members x side)

  -- how long it is
  pub length-members : (side : List ℕ) → length (in_members g side) ≡ g * length side
  unfolding in_members
  length-members [] = omega arith
  length-members (i ∷ side) =
      length-append (run (g * i) g) (in_members g side) ∙ omega (arith, length_run (g * i) g, length-members side, mul-suc g (length side))

  -- members of objects below v are below g v
  member_below : (v x : ℕ) → x / g < v → x < g * v
  member_below v x l = omega (arith, high_member x, mul-suc g (x / g), mul-le-mul_left g l)

  pub each-members : (v : ℕ) (side : List ℕ) → Each (λ i. i < v) side → Each (λ x. x < g * v) (in_members g side)
  each-members v side h c l = go (dec_lt (x / g) v)
    where
      x : ℕ
      x = get_or (in_members g side) c 0

      there : 1 ≤ occ x (in_members g side)
      there = subst (λ (t : List ℕ). 1 ≤ occ x t) (take_all (length (in_members g side)) (in_members g side) (omega arith))
          (occ-here (in_members g side) c (length (in_members g side)) l (omega arith))

      go : Dec (x / g < v) → x < g * v
      go (yes m) = member_below v x m
      go (no n) = absurd (omega (arith, there, occ-members x side, occ_absent (x / g) side (λ k m e. n (subst (λ (y : ℕ). y < v) e (h k m)))))

-- every element of two lists
each_append : (P : ℕ → Type 0) (xs ys : List ℕ) → Each P xs → Each P ys → Each P (xs ++ ys)
each_append P [] ys f h i l = h i l
each_append P (x ∷ xs) ys f h zero l = f 0 (omega arith)
each_append P (x ∷ xs) ys f h (suc i) l = each_append P xs ys (each_tail P x xs f) h i (omega arith)

-- ---- a clean list

-- where none stands twice in a list, none stands among those before it
once_fresh : (xs : List ℕ) → ((x : ℕ) → occ x xs ≤ 1) → (c : ℕ) → c < length xs → occ (get_or xs c 0) (take c xs) ≡ 0
unfolding occ
once_fresh xs h c l =
    let x = get_or xs c 0 in
    let parts : occ x xs ≡ occ x (take (suc c) xs) + occ x (drop (suc c) xs) =
    ap (occ x) (sym (take-append-drop (suc c) xs)) ∙ occ-append x (take (suc c) xs) (drop (suc c) xs) in
    let last : occ x (take (suc c) xs) ≡ occ x (take c xs) + occ x (x ∷ []) = ap (occ x) (take-suc xs c 0 l) ∙ occ-append x (take c xs) (x ∷ []) in
    omega (arith, parts, last, occ-same x x [] refl, h x)

-- a list of n blocks of q bytes, in each of which the bytes are below v and none stands twice, is clean
module _ (v q n : ℕ) (d : List ℕ) (some : 0 < q) (long : length d ≡ q * n)
    (once : (k : ℕ) → k < n → (x : ℕ) → occ x (take q (drop (q * k) d)) ≤ 1) (below : (k : ℕ) → k < n → Each (λ x. x < v) (take q (drop (q * k) d))) where
  module _ (i : ℕ) (l : i < length d) where
    abbrev k : ℕ
    k = i / q

    abbrev c : ℕ
    c = i % q

    at : q * k + c ≡ i
    at = div-add-mod i q

    inside : k < n
    inside = (div-lt_iff_lt-mul some).1 (subst (λ (z : ℕ). i < z) (long ∙ mul_comm q n) l)

    place : c < q
    place = mod-lt i some

    whole : q * k + q ≤ length d
    whole = omega (arith, long, mul-suc q k, mul-le-mul_left q inside)

    start : i - c ≡ q * k
    start = omega (arith, at)

    byte : get_or (take q (drop (q * k) d)) c 0 ≡ get_or d i 0
    byte = part_byte d (q * k) q c place ∙ ap (λ (z : ℕ). get_or d z 0) at

    stays : c < length (take q (drop (q * k) d))
    stays = omega (arith, place, part_length d (q * k) q whole)

    pub byte_below : get_or d i 0 < v
    byte_below = subst (λ (x : ℕ). x < v) byte (below k inside c stays)

    pub byte_fresh : occ (get_or d i 0) (take (i % q) (drop (i - i % q) d)) ≡ 0
    byte_fresh =
        ap₂ occ (sym byte) (ap (λ (z : ℕ). take c (drop z d)) start ∙ sym (take-take c q (drop (q * k) d) (omega (arith, place))))
        ∙ once_fresh (take q (drop (q * k) d)) (once k inside) c stays

-- ---- the groups

module _ (h : Head) (g : ℕ) (some : 0 < g) where
  pub length-groups : length (groups_of h g) ≡ g * objects h
  unfolding groups_of
  length-groups = length-map (run 0 (g * objects h)) (λ x. x / g) ∙ length_run 0 (g * objects h)

  label_at : (n i : ℕ) → i < n → get_or (map (λ x. x / g) (run 0 n)) i 0 ≡ i / g
  label_at n i l =
      ap (get_or (map (λ x. x / g) (run 0 n)) i) (sym (zero-div g)) ∙ get_or-map (λ x. x / g) (run 0 n) i 0
      ∙ ap (λ (x : ℕ). x / g) (get_d_run 0 n i l ∙ omega arith)

  -- the group of member x is object x / g
  pub group_at : (x : ℕ) → x < g * objects h → get_or (groups_of h g) x 0 ≡ x / g
  unfolding groups_of
  group_at x l = label_at (g * objects h) x l

  -- no number from v on is among the first v
  labels_past : (v o : ℕ) → v ≤ o → occ o (map (λ x. x / g) (run 0 (g * v))) ≡ 0
  labels_past v o l = occ_absent o (map (λ x. x / g) (run 0 (g * v))) (λ c m e.
      let n : c < g * v = omega (arith, m, length-map (run 0 (g * v)) (λ x. x / g), length_run 0 (g * v)) in
      let q : c / g < v = (div-lt_iff_lt-mul some).1 (subst (λ (z : ℕ). c < z) (mul_comm g v) n) in
      omega (arith, q, label_at (g * v) c n, e))

  -- the members of one object
  labels-one : (v : ℕ) → occ v (map (λ x. x / g) (run (g * v) g)) ≡ g
  labels-one v = all_alike v (map (λ x. x / g) (run (g * v) g)) each ∙ length-map (run (g * v) g) (λ x. x / g) ∙ length_run (g * v) g
    where
      each : (j : ℕ) → j < length (map (λ x. x / g) (run (g * v) g)) → get_or (map (λ x. x / g) (run (g * v) g)) j 0 ≡ v
      each j m =
          let n : j < g = omega (arith, m, length-map (run (g * v) g) (λ x. x / g), length_run (g * v) g) in
          ap (get_or (map (λ x. x / g) (run (g * v) g)) j) (sym (zero-div g)) ∙ get_or-map (λ x. x / g) (run (g * v) g) j 0
          ∙ ap (λ (x : ℕ). x / g) (get_d_run (g * v) g j n ∙ ap (λ (z : ℕ). z + j) (mul_comm g v)) ∙ digits_div v n

  labels-other : (v o : ℕ) → o < v → occ o (map (λ x. x / g) (run (g * v) g)) ≡ 0
  labels-other v o l = occ_absent o (map (λ x. x / g) (run (g * v) g)) (λ j m e.
      let n : j < g = omega (arith, m, length-map (run (g * v) g) (λ x. x / g), length_run (g * v) g) in
      let q : get_or (map (λ x. x / g) (run (g * v) g)) j 0 ≡ v =
      ap (get_or (map (λ x. x / g) (run (g * v) g)) j) (sym (zero-div g)) ∙ get_or-map (λ x. x / g) (run (g * v) g) j 0
      ∙ ap (λ (x : ℕ). x / g) (get_d_run (g * v) g j n ∙ ap (λ (z : ℕ). z + j) (mul_comm g v)) ∙ digits_div v n in
      omega (arith, q, e))

  labels-more : (v o : ℕ) → occ o (map (λ x. x / g) (run 0 (g * suc v)))
      ≡ occ o (map (λ x. x / g) (run 0 (g * v))) + occ o (map (λ x. x / g) (run (g * v) g))
  labels-more v o =
      let n : g * suc v ≡ g * v + g = mul-suc g v in
      ap (λ (z : ℕ). occ o (map (λ x. x / g) (run 0 z))) n
      ∙ ap (λ (t : List ℕ). occ o (map (λ x. x / g) t)) (run-append 0 (g * v) g ∙ ap (λ (z : ℕ). run 0 (g * v) ++ run z g) (zero-add (g * v)))
      ∙ ap (occ o) (map-append (λ x. x / g) (run 0 (g * v)) (run (g * v) g))
      ∙ occ-append o (map (λ x. x / g) (run 0 (g * v))) (map (λ x. x / g) (run (g * v) g))

  -- every object below v has g members
  labels-count : (v o : ℕ) → o < v → occ o (map (λ x. x / g) (run 0 (g * v))) ≡ g
  labels-count zero o l = absurd (omega arith)
  labels-count (suc v) o l = labels-more v o ∙ go (ℕ_discrete o v) (labels-count v o)
    where
      go : Dec (o ≡ v) → (o < v → occ o (map (λ x. x / g) (run 0 (g * v))) ≡ g)
          → occ o (map (λ x. x / g) (run 0 (g * v))) + occ o (map (λ x. x / g) (run (g * v) g)) ≡ g
      go (yes e) ih = omega (arith, labels_past v o (omega arith), ap (λ (z : ℕ). occ z (map (λ x. x / g) (run (g * v) g))) e, labels-one v)
      go (no n) ih = let l' : o < v = omega (arith, n) in omega (arith, ih l', labels-other v o l')

  -- a group has g members
  pub group_size_lem : (x : ℕ) → x < g * objects h → group_size (groups_of h g) x ≡ g
  unfolding groups_of
  group_size_lem x l =
      ap (λ (o : ℕ). occ o (map (λ x. x / g) (run 0 (g * objects h)))) (label_at (g * objects h) x l)
      ∙ labels-count (objects h) (x / g) ((div-lt_iff_lt-mul some).1 (subst (λ (z : ℕ). x < z) (mul_comm g (objects h)) l))

-- ---- the list

-- the sides of a block, by its number
side_left : (h : Head) (d : List ℕ) (k : ℕ) → side_at h d (2 * k) ≡ left h d k
unfolding side_at
side_left h d k =
    let q : 2 * k / 2 ≡ k = omega arith in
    let r : 2 * k % 2 ≡ 0 = omega arith in
    rw (q, r)

side_right : (h : Head) (d : List ℕ) (k : ℕ) → side_at h d (2 * k + 1) ≡ right h d k
unfolding side_at
side_right h d k =
    let q : (2 * k + 1) / 2 ≡ k = omega arith in
    let r : (2 * k + 1) % 2 ≡ 1 = omega arith in
    rw (q, r)

module _ (h : Head) (d : List ℕ) (s : Sound h d) (g : ℕ) (some : 0 < g) where
  -- every side has p objects
  side-length : (c : ℕ) → c < 2 * blocks h → length (side_at h d c) ≡ h.p
  unfolding side_at
  side-length c l = go (eqb (c % 2) 0)
    where
      go : (b : Bool) → length (cond b (left h d (c / 2)) (right h d (c / 2))) ≡ h.p
      go true = left-length h d s (c / 2) (omega arith)
      go false = right-length h d s (c / 2) (omega arith)

  piece-length : (c : ℕ) → c < 2 * blocks h → length (in_members g (side_at h d c)) ≡ g * h.p
  piece-length c l = length-members g some (side_at h d c) ∙ ap (λ (z : ℕ). g * z) (side-length c l)

  sides-length : (n : ℕ) → n ≤ 2 * blocks h → length (grouped_sides h d g n) ≡ g * h.p * n
  unfolding grouped_sides
  sides-length zero l = omega arith
  sides-length (suc n) l =
      length-append (grouped_sides h d g n) (in_members g (side_at h d n))
      ∙ omega (arith, sides-length n (omega arith), piece-length n (omega arith), mul-suc (g * h.p) n)

  -- piece c of the list is the grouped side c
  piece : (n c : ℕ) → n ≤ 2 * blocks h → c < n → take (g * h.p) (drop (g * h.p * c) (grouped_sides h d g n)) ≡ in_members g (side_at h d c)
  unfolding grouped_sides
  piece zero c l m = absurd (omega arith)
  piece (suc n) c l m = go (ℕ_discrete c n) (λ q. piece n c (omega arith) q)
    where
      long : length (grouped_sides h d g n) ≡ g * h.p * n
      long = sides-length n (omega arith)

      last : length (in_members g (side_at h d n)) ≡ g * h.p
      last = piece-length n (omega arith)

      go : Dec (c ≡ n) → (c < n → take (g * h.p) (drop (g * h.p * c) (grouped_sides h d g n)) ≡ in_members g (side_at h d c))
          → take (g * h.p) (drop (g * h.p * c) (grouped_sides h d g n ++ in_members g (side_at h d n))) ≡ in_members g (side_at h d c)
      go (yes e) ih =
          ap (take (g * h.p)) (drop_at (grouped_sides h d g n) (in_members g (side_at h d n)) (g * h.p * c) (long ∙ ap (λ (z : ℕ). g * h.p * z) (sym e)))
          ∙ take_all (g * h.p) (in_members g (side_at h d n)) (omega (arith, last)) ∙ ap (λ (z : ℕ). in_members g (side_at h d z)) (sym e)
      go (no o) ih =
          let m' : c < n = omega (arith, o) in
          let fits : g * h.p * c + g * h.p ≤ g * h.p * n = omega (arith, mul-suc (g * h.p) c, mul-le-mul_left (g * h.p) m') in
          ap (take (g * h.p)) (drop-append-le (g * h.p * c) (grouped_sides h d g n) (in_members g (side_at h d n)) (omega (arith, fits, long)))
          ∙ take-append-le (g * h.p) (drop (g * h.p * c) (grouped_sides h d g n)) (in_members g (side_at h d n))
          (omega (arith, fits, long, length-drop (g * h.p * c) (grouped_sides h d g n)))
          ∙ ih m'

  -- the sides of the list are the grouped sides of the design
  pub grouped-left : (k : ℕ) → k < blocks h → left_of (g * h.p) (grouped_list h d g) k ≡ in_members g (left h d k)
  unfolding left_of
  grouped-left k l =
      ap (λ (z : ℕ). take (g * h.p) (drop z (grouped_list h d g))) (turn (g * h.p) k) ∙ piece (2 * blocks h) (2 * k) (omega arith) (omega arith)
      ∙ ap (in_members g) (side_left h d k)
    where
      turn : (a k : ℕ) → 2 * a * k ≡ a * (2 * k)
      turn a k = omega arith

  pub grouped-right : (k : ℕ) → k < blocks h → right_of (g * h.p) (grouped_list h d g) k ≡ in_members g (right h d k)
  unfolding right_of
  grouped-right k l =
      ap (λ (z : ℕ). take (g * h.p) (drop z (grouped_list h d g))) (turn (g * h.p) k) ∙ piece (2 * blocks h) (2 * k + 1) (omega arith) (omega arith)
      ∙ ap (in_members g) (side_right h d k)
    where
      turn : (a k : ℕ) → 2 * a * k + a ≡ a * (2 * k + 1)
      turn a k = omega arith

  pub list_length_lem : length (grouped_list h d g) ≡ 2 * (g * h.p) * blocks h
  list_length_lem = sides-length (2 * blocks h) (omega arith) ∙ turn (g * h.p) (blocks h)
    where
      turn : (a k : ℕ) → a * (2 * k) ≡ 2 * a * k
      turn a k = omega arith

  -- a block of the list
  block_of : (k : ℕ) → k < blocks h → take (2 * (g * h.p)) (drop (2 * (g * h.p) * k) (grouped_list h d g)) ≡ in_members g (left h d k) ++ in_members g (right h d k)
  block_of k l = sym (list-halves (g * h.p) (grouped_list h d g) k) ∙ ap₂ ◌++◌ (grouped-left k l) (grouped-right k l)

  block_once_in : (k : ℕ) → k < blocks h → (x : ℕ) → occ x (take (2 * (g * h.p)) (drop (2 * (g * h.p) * k) (grouped_list h d g))) ≤ 1
  block_once_in k l x = omega (
    arith,
    ap (occ x) (block_of k l),
    occ-append x (in_members g (left h d k)) (in_members g (right h d k)),
    occ-members g some x (left h d k),
    occ-members g some x (right h d k),
    block-once h d s k l (x / g),
  )

  block_below_in : (k : ℕ) → k < blocks h →
      Each (λ x. x < g * objects h) (take (2 * (g * h.p)) (drop (2 * (g * h.p) * k) (grouped_list h d g)))
  block_below_in k l = subst (λ (t : List ℕ). Each (λ x. x < g * objects h) t) (sym (block_of k l))
      (each_append (λ x. x < g * objects h) (in_members g (left h d k)) (in_members g (right h d k))
      (each-members g some (objects h) (left h d k) (left-objects h d s k l)) (each-members g some (objects h) (right h d k) (right-objects h d s k l)))

  -- two members meet as often as their objects
  pub shared-members : (x y : ℕ) → shared (blocks h) (g * h.p) (grouped_list h d g) x y ≡ company h d (x / g) (y / g)
  unfolding shared company
  shared-members x y = sumℕ_cong (blocks h) _ _ (λ k l. rw (
    grouped-left k l,
    grouped-right k l,
    occ-members g some x (left h d k),
    occ-members g some y (left h d k),
    occ-members g some x (right h d k),
    occ-members g some y (right h d k),
  ))

  pub opposed-members : (x y : ℕ) → opposed (blocks h) (g * h.p) (grouped_list h d g) x y ≡ opposition h d (x / g) (y / g)
  unfolding opposed opposition
  opposed-members x y = sumℕ_cong (blocks h) _ _ (λ k l. rw (
    grouped-left k l,
    grouped-right k l,
    occ-members g some x (left h d k),
    occ-members g some y (left h d k),
    occ-members g some x (right h d k),
    occ-members g some y (right h d k),
  ))

-- ---- theorem 5.1

module _ (h : Head) (d : List ℕ) (s : Sound h d) (even : balanced h d ≡ true) (g : ℕ) (two : 2 ≤ g) (fits : g * objects h ≤ 50) where
  abbrev list : List ℕ
  list = grouped_list h d g

  abbrev groups : List ℕ
  groups = groups_of h g

  some : 0 < g
  some = omega (arith, two)

  -- r, 0, L1, L2
  abbrev pub the_counts : GroupCounts
  the_counts = record { l11 = beta h d * (objects h - 1); l21 = 0; l12 = company h d 1 0; l22 = opposition h d 1 0 }

  object_of_lem : (x : ℕ) → x < g * objects h → x / g < objects h
  object_of_lem x l = (div-lt_iff_lt-mul some).1 (subst (λ (z : ℕ). x < z) (mul_comm g (objects h)) l)

  -- the objects of two members, by their groups
  same_object : (x y : ℕ) → x < g * objects h → y < g * objects h → get_or groups x 0 ≡ get_or groups y 0 → x / g ≡ y / g
  same_object x y l m e = sym (group_at h g some x l) ∙ e ∙ group_at h g some y m

  other-object : (x y : ℕ) → x < g * objects h → y < g * objects h → (get_or groups x 0 ≡ get_or groups y 0 → ⊥) → x / g ≡ y / g → ⊥
  other-object x y l m n e = n (group_at h g some x l ∙ e ∙ sym (group_at h g some y m))

  -- members of one group share a side r times and oppose 0 times; others keep L1 and L2
  pub grouped_partial : PartiallyBalanced (blocks h) (g * objects h) (g * h.p) list groups the_counts
  grouped_partial =
      let b = balanced-is h d even in
      let n = parameters h d s even in
      record {
        together-within = λ x y l m ne e. shared-members h d s g some x y ∙ ap (company h d (x / g)) (sym (same_object x y l m e))
            ∙ n.repeats (x / g) (object_of_lem x l);
        against-within = λ x y l m ne e. opposed-members h d s g some x y ∙ ap (opposition h d (x / g)) (sym (same_object x y l m e))
            ∙ opposition_self h d s (x / g) (object_of_lem x l);
        together-between = λ x y l m o. shared-members h d s g some x y
            ∙ b.together (x / g) (y / g) (object_of_lem x l) (object_of_lem y m) (other-object x y l m o);
        against-between = λ x y l m o. opposed-members h d s g some x y
            ∙ b.against (x / g) (y / g) (object_of_lem x l) (object_of_lem y m) (other-object x y l m o);
      }

  grouped_fits : ListFits (blocks h) (g * objects h) (g * h.p)
  grouped_fits =
      let f = s.sizes in
      let one : 1 ≤ h.n = omega arith in
      record {
        count-least = mul-le-mul f.m_least one;
        count_most = f.blocks-most;
        v_most = fits;
        p_least = mul-le-mul (omega_one two) f.p_least;
        sides-fit = omega (arith, turn g h.p, mul-le-mul_left g f.sides-fit);
      }
    where
      omega_one : 2 ≤ g → 1 ≤ g
      omega_one t = omega arith

      turn : (a b : ℕ) → 2 * (a * b) ≡ a * (2 * b)
      turn a b = omega arith

  grouped-even : EvenGroups groups
  grouped-even = record {
    size-least = omega (arith, size 0 first, two);
    several = omega (arith, size 0 first, length-groups h g some, three, two);
    alike = λ i l. size i (subst (λ (z : ℕ). i < z) (length-groups h g some) l) ∙ sym (size 0 first);
  }
    where
      three : g * 3 ≤ g * objects h
      three = mul-le-mul_left g (omega_three s.sizes.n_least)
        where
          omega_three : 3 ≤ h.n → 3 ≤ objects h
          omega_three t = omega arith

      first : 0 < g * objects h
      first = omega (arith, three, two)

      size : (i : ℕ) → i < g * objects h → group_size groups i ≡ g
      size = group_size_lem h g some

  -- no byte of the list is out of range or stands twice in its block
  grouped-clean : stray (g * objects h) (g * h.p) list ≡ length list
  unfolding stray
  grouped-clean = first_from_none (strays (g * objects h) (g * h.p) list) 0 (length list) (λ i l m. clean i (omega (arith, m))) ∙ zero-add (length list)
    where
      side : 0 < 2 * (g * h.p)
      side = omega (arith, grouped_fits.p_least)

      clean : (i : ℕ) → i < length list → strays (g * objects h) (g * h.p) list i ≡ false
      clean i l =
          let in_blocks = byte_below (g * objects h) (2 * (g * h.p)) (blocks h) list side (list_length_lem h d s g some) (block_once_in h d s g some)
          (block_below_in h d s g some) i l in
          let new = byte_fresh (g * objects h) (2 * (g * h.p)) (blocks h) list side (list_length_lem h d s g some) (block_once_in h d s g some)
          (block_below_in h d s g some) i l in
          rw (lt-ltb _ _ in_blocks, new)

  pub grouped-listed : Listed (blocks h) (g * objects h) (g * h.p) list groups
  grouped-listed = record {
    fits = grouped_fits;
    long = list_length_lem h d s g some;
    labelled = length-groups h g some;
    even = is_even_groups groups grouped-even;
    clean = grouped-clean;
  }

  -- the direct call accepts the grouped list with its groups
  pub grouped-accepted : grouped_verdict (blocks h) (g * objects h) (g * h.p) list groups ≡ accepted
  unfolding grouped_verdict
  grouped-accepted = accepts (is-listed (blocks h) (g * objects h) (g * h.p) list groups grouped-listed)
      (test_yes (partially_balanced (blocks h) (g * objects h) (g * h.p) list groups) 6 0
      (is_partial (blocks h) (g * objects h) (g * h.p) list groups (length-groups h g some) grouped-even the_counts grouped_partial))

  -- and hands back r, 0, L1, L2
  pub grouped-counts : the_counts ≡ counts_of (blocks h) (g * h.p) list groups
  grouped-counts = partial_counts (blocks h) (g * objects h) (g * h.p) list groups (length-groups h g some) grouped-even the_counts grouped_partial
