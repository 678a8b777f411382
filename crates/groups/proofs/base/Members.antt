-- The words of members: a word with every object replaced by its members is the word of the grouped side. The members of object i are a run of g ones from
-- place gi on, so the words of the objects before i stay below 2 ^ gi.
--     members-more, members-below   one turn of the sum, and that it never wraps
--     members-word                  the word of a grouped side
--     grouped-words                 the words that the call leaves
--     base-..                       the verdict of the call, from those of its steps
-- Assumes nothing.
use Prim.Native.Nat.{ℕ, zero, suc, ◌+◌, ◌-◌, ◌*◌, ◌/◌, ◌%◌, ◌^◌, ◌≤◌, ◌<◌}
use mathlib.Core.Path.{◌≡◌, refl, sym, ap, ap₂, ◌∙◌, subst}
use mathlib.Core.Bool.{Bool, true, false, cond}
use mathlib.Core.List.{List, [], ◌∷◌, ◌++◌}
use native.Mathlib.Omega.{arith}
use native.Mathlib.Nat.{mul-le-mul, mul-le-mul_left, mul-suc, mul_comm, one-mul, pow-suc, zero-add}
use lib.Dec.{eqb, leb}
use lib.Pow.{pow-add, pow_mono, suc_ones, ones_lt, shl_exact}
use lib.ListN.{length, get_or}
use borrow.Author.Tests.{eq-eqb, ne_eqb, leb-true}
use Rattle.algebra.specs.Buffers.{over}
use Rattle.algebra.specs.Ranges.{sum_ℕ}
use Rattle.algebra.proofs.Tests.{and_right}
use Rattle.algebra.proofs.Filling.{over_ext, over-over, get_d_over, length_over}
use Rattle.algebra.proofs.Sums.{sumℕ-none, sumℕ-more, sumℕ_cong, sumℕ_add, sumℕ_only, sumℕ-zero}
use Rattle.records.specs.declared.Head.{Head}
use Rattle.meaning.specs.Design.{objects, blocks, list_length, occ, left, right}
use Rattle.meaning.specs.Analysis.{member}
use Rattle.meaning.specs.Refusals.{Verdict, accepted, number, place, ◌⨾◌, sizes, length_is, clean, in_balance, room}
use Rattle.meaning.specs.Calls.{given, word, word_at, design_verdict, develop_verdict, develop_after, judge_verdict}
use Rattle.meaning.specs.Groups.{run, in_members, side_at, grouped_word_at, groups_fit, base_verdict, base_answer, base_words}
use Rattle.laws.proofs.Chains.{Sound, opened, goes_on, refused_stays, given_yes, given_no, held, fits}
use Rattle.laws.proofs.Occurrences.{Each, each-head, each_tail}
use Rattle.laws.proofs.Clean.{left-objects, right-objects, block-once}
use Rattle.words.proofs.Bits.{bit-most}
use Rattle.words.proofs.Members.{bit_word}
use Rattle.groups.specs.Words.{members_at, word_in_members}
use Rattle.verdicts.proofs.Told.{refusing}
use Rattle.groups.specs.Base.{sizes_verdict, no_set, laid_answer, laid_words}

-- ---- the sum

module _ (g w : ℕ) where
  pub members-none : 0 ≡ word_in_members g 0 w
  unfolding word_in_members
  members-none = sumℕ-none _

  -- one object more
  pub members-more : (i : ℕ) → word_in_members g (i + 1) w ≡ word_in_members g i w + member w i * members_at g i
  unfolding word_in_members
  members-more i = sumℕ-more i _

-- the members of object i, and those before them, fill the places below g (i + 1)
members_fill : (g i : ℕ) → members_at g i + 2 ^ (g * i) ≡ 2 ^ (g * i + g)
members_fill g i =
    fill (2 ^ g - 1) (2 ^ (g * i)) ∙ ap (λ (z : ℕ). z * 2 ^ (g * i)) (suc_ones g) ∙ mul_comm (2 ^ g) (2 ^ (g * i)) ∙ sym (pow-add 2 (g * i) g)
  where
    fill : (a b : ℕ) → a * b + b ≡ suc a * b
    fill a b = omega arith

-- a member's bits are at most all of them
pub bits_most : (g w i : ℕ) → member w i * members_at g i ≤ members_at g i
bits_most g w i = subst (λ (z : ℕ). member w i * members_at g i ≤ z) (one-mul (members_at g i)) (mul-le-mul (bit-most w i) (same (members_at g i)))
  where
    same : (a : ℕ) → a ≤ a
    same a = omega arith

-- the words of the first i objects stay below
pub members-below : (g w i : ℕ) → word_in_members g i w < 2 ^ (g * i)
members-below g w zero = subst (λ (z : ℕ). word_in_members g 0 w < 2 ^ z) (nothing g) (omega (arith, members-none g w))
  where
    nothing : (a : ℕ) → 0 ≡ a * 0
    nothing a = omega arith
members-below g w (suc i) =
    let next : i + 1 ≡ suc i = omega arith in
    subst (λ (z : ℕ). word_in_members g (suc i) w < 2 ^ z) (sym (mul-suc g i))
    (omega (arith, ap (λ (z : ℕ). word_in_members g z w) next, members-more g w i, bits_most g w i, members_fill g i, members-below g w i))

module _ (g v i : ℕ) (l : i < v) (fits : g * v ≤ 50) where
  -- the places of object i's members are below 50
  pub places : g * i + g ≤ 50
  places = omega (arith, mul-suc g i, mul-le-mul_left g l)

  -- so the run is shifted whole
  pub shifted : ((2 ^ g - 1) * 2 ^ (g * i)) % 2 ^ 64 ≡ members_at g i
  shifted = shl_exact g (g * i) 64 (ones_lt g) (omega (arith, places))

  -- and no sum wraps
  pub small : (w : ℕ) → word_in_members g i w + members_at g i < 2 ^ 50
  small w = omega (arith, members-below g w i, members_fill g i, pow_mono {j = 50} places)

-- ---- the word of a grouped side

word-append : (xs ys : List ℕ) → word (xs ++ ys) ≡ word xs + word ys
unfolding word
word-append [] ys = sym (zero-add (word ys))
word-append (x ∷ xs) ys = omega (arith, word-append xs ys)

-- a run of c ones from place a on
word-run : (a c : ℕ) → word (run a c) + 2 ^ a ≡ 2 ^ (a + c)
unfolding word run
word-run a zero = ap (λ (z : ℕ). 0 + 2 ^ z) (none a) ∙ zero-add (2 ^ (a + 0))
  where
    none : (a : ℕ) → a ≡ a + 0
    none a = omega arith
word-run a (suc c) =
    let next : suc a + c ≡ a + suc c = omega arith in
    omega (arith, word-run (suc a) c, pow-suc 2 a, ap (λ (z : ℕ). 2 ^ z) next)

-- so the members of an object are its bits
word-members : (g i : ℕ) → word (run (g * i) g) ≡ members_at g i
word-members g i = omega (arith, word-run (g * i) g, members_fill g i)

-- the word of a grouped side, object by object
side-members : (g v : ℕ) (xs : List ℕ) → Each (λ x. x < v) xs → word (in_members g xs) ≡ sum_ℕ v (λ i. occ i xs * members_at g i)
unfolding word in_members occ
side-members g v [] h = sym (sumℕ-zero v (λ i. 0 * members_at g i) (λ i l. none (members_at g i)))
  where
    none : (a : ℕ) → 0 * a ≡ 0
    none a = omega arith
side-members g v (x ∷ xs) h =
    word-append (run (g * x) g) (in_members g xs)
    ∙ ap₂ ◌+◌ (word-members g x ∙ sym one) (side-members g v xs (each_tail (λ x. x < v) x xs h))
    ∙ sym (sumℕ_cong v _ _ (λ i l. parts (cond (eqb i x) 1 0) (occ i xs) (members_at g i)) ∙ sumℕ_add v _ _)
  where
    parts : (a b c : ℕ) → (a + b) * c ≡ a * c + b * c
    parts a b c = omega arith

    at : (i : ℕ) (b : Bool) → eqb i x ≡ b → cond (eqb i x) 1 0 * members_at g i ≡ cond b (members_at g i) 0
    at i true e = rw e (one-mul (members_at g i))
    at i false e = rw e (none (members_at g i))
      where
        none : (a : ℕ) → 0 * a ≡ 0
        none a = omega arith

    one : sum_ℕ v (λ i. cond (eqb i x) 1 0 * members_at g i) ≡ members_at g x
    one =
        sumℕ_only v x (λ i. cond (eqb i x) 1 0 * members_at g i) (each-head (λ x. x < v) x xs h) (λ j m q. at j false (ne_eqb j x (λ e. q (sym e))))
        ∙ at x true (eq-eqb x x refl)

-- a word with every object replaced by its members is the word of the grouped side
pub members-word : (g v : ℕ) (xs : List ℕ) → Each (λ x. x < v) xs → ((x : ℕ) → occ x xs ≤ 1) → word_in_members g v (word xs) ≡ word (in_members g xs)
unfolding word_in_members
members-word g v xs h o =
    sumℕ_cong v _ _ (λ i l. ap (λ (z : ℕ). z * members_at g i) (bit_word xs o i)) ∙ sym (side-members g v xs h)

-- ---- the words of the call

module _ (h : Head) (d : List ℕ) (s : Sound h d) (g : ℕ) where
  word-grouped : (c : ℕ) → c < 2 * blocks h → word_in_members g (objects h) (word_at h d c) ≡ grouped_word_at h d g c
  unfolding word_at grouped_word_at side_at
  word-grouped c l = go (eqb (c % 2) 0)
    where
      inside : c / 2 < blocks h
      inside = omega arith

      go : (b : Bool) → word_in_members g (objects h) (cond b (word (left h d (c / 2))) (word (right h d (c / 2))))
          ≡ word (in_members g (cond b (left h d (c / 2)) (right h d (c / 2))))
      go true = members-word g (objects h) (left h d (c / 2)) (left-objects h d s (c / 2) inside) (λ x. omega (arith, block-once h d s (c / 2) inside x))
      go false = members-word g (objects h) (right h d (c / 2)) (right-objects h d s (c / 2) inside) (λ x. omega (arith, block-once h d s (c / 2) inside x))

  -- the words of the design, each replaced
  pub grouped-words : (l : List ℕ) (v : ℕ) {ws us : List ℕ} → v ≡ objects h → 2 * blocks h ≤ length l → ws ≡ over (2 * blocks h) (word_at h d) l
      → us ≡ over (2 * blocks h) (λ k. word_in_members g v (get_or ws k 0)) ws → us ≡ over (2 * blocks h) (grouped_word_at h d g) l
  grouped-words l v {ws} {us} e long w u =
      u ∙ over_ext (2 * blocks h) _ (grouped_word_at h d g) ws (λ k m.
      ap₂ (λ (z : ℕ) (t : List ℕ). word_in_members g z (get_or t k 0)) e w
      ∙ ap (word_in_members g (objects h)) (get_d_over (2 * blocks h) (word_at h d) l 0 k m long) ∙ word-grouped k m)
      ∙ ap (over (2 * blocks h) (grouped_word_at h d g)) w ∙ over-over (2 * blocks h) (word_at h d) (grouped_word_at h d g) l

-- ---- its verdict

module _ (h : Head) (d : List ℕ) (g len : ℕ) where
  -- a size is refused
  pub base_sizes : (verdict : Verdict) → given verdict false true ≡ true → verdict ≡ sizes_verdict h (length d) g → base_verdict h d g len ≡ verdict
  unfolding base_verdict sizes_verdict
  base_sizes verdict r e =
      let k = number verdict in
      let at = place verdict in
      let f = sym e ∙ refusing verdict r in
      refused_stays _ k at (refused_stays _ k at (refused_stays _ k at f)) ∙ sym (refusing verdict r)

  -- past the sizes, the design is judged
  pub base_judged : sizes_verdict h (length d) g ≡ accepted → base_verdict h d g len ≡ judge_verdict h d ⨾ room len (2 * blocks h)
  unfolding base_verdict sizes_verdict judge_verdict design_verdict
  base_judged e =
      let a = opened (sizes h ⨾ length_is (length d) (list_length h)) (groups_fit h g) e in
      ap (λ (t : Verdict). t ⨾ clean h d ⨾ in_balance h d ⨾ room len (2 * blocks h)) e
      ∙ sym (ap (λ (t : Verdict). t ⨾ clean h d ⨾ in_balance h d ⨾ room len (2 * blocks h)) a.0)

  -- a design that is refused
  pub base_refused : (verdict : Verdict) → given verdict false true ≡ true → sizes_verdict h (length d) g ≡ accepted → verdict ≡ judge_verdict h d →
      base_verdict h d g len ≡ verdict
  base_refused verdict r e j = base_judged e ∙ refused_stays _ (number verdict) (place verdict) (sym j ∙ refusing verdict r) ∙ sym (refusing verdict r)

  -- one that is accepted: the room is left
  pub base_room : sizes_verdict h (length d) g ≡ accepted → judge_verdict h d ≡ accepted → base_verdict h d g len ≡ develop_verdict h d len
  unfolding develop_verdict judge_verdict
  base_room e j = base_judged e ∙ goes_on (room len (2 * blocks h)) j ∙ sym (goes_on (room len (2 * blocks h)) (opened (design_verdict h d) (in_balance h d) j).0)

  -- what a refusal hands back
  pub set-refused : (verdict : Verdict) → given verdict false true ≡ true → base_verdict h d g len ≡ verdict → no_set verdict ≡ base_answer h d g len
  set-refused verdict r e = rw (e ∙ refusing verdict r) (ap no_set (refusing verdict r))

-- a refusal leaves the words
pub words-kept : (h : Head) (d : List ℕ) (g : ℕ) (words : List ℕ) (verdict : Verdict) → given verdict false true ≡ true →
    base_verdict h d g (length words) ≡ verdict → words ≡ base_words h d g words
words-kept h d g words verdict r e = sym (given_no _ _ _ (number verdict) (place verdict) (e ∙ refusing verdict r))

-- what is laid is what the call answers
pub base_laid : (h : Head) (d : List ℕ) (g len : ℕ) → base_verdict h d g len ≡ develop_verdict h d len → laid_answer h d g len ≡ base_answer h d g len
base_laid h d g len e = rw e

pub base_words_lem : (h : Head) (d : List ℕ) (g : ℕ) (words : List ℕ) → base_verdict h d g (length words) ≡ develop_verdict h d (length words) →
    laid_words h d g words ≡ base_words h d g words
base_words_lem h d g words e = rw e

-- what the tests of the sizes say of g
pub sizes-fit : (h : Head) (len g : ℕ) → sizes_verdict h len g ≡ accepted → (g ≤ 50) × (g * objects h ≤ 50)
unfolding sizes_verdict
sizes-fit h len g e =
    let a = opened (sizes h ⨾ length_is len (list_length h)) (groups_fit h g) e in
    let f = fits h (held _ _ _ (opened (sizes h) (length_is len (list_length h)) a.0).0) in
    let most : g * objects h ≤ 50 = leb-true _ _ (and_right (leb 2 g) (leb (g * objects h) 50) (held _ _ _ a.1)) in
    let one : 1 ≤ objects h = omega (arith, f.n_least) in
    (omega (arith, most, mul-le-mul_left g one), most)

-- an accepted development has its room
pub developed-room : (h : Head) (d : List ℕ) (len : ℕ) → develop_verdict h d len ≡ accepted → 2 * blocks h ≤ len
unfolding develop_verdict
developed-room h d len e = leb-true _ _ (held _ _ _ (opened (design_verdict h d) (room len (2 * blocks h)) e).1)

-- its words stand in front
module _ (h : Head) (d words : List ℕ) (e : develop_verdict h d (length words) ≡ accepted) where
  pub developed-words : {after : List ℕ} → after ≡ develop_after h d words → after ≡ over (2 * blocks h) (word_at h d) words
  developed-words w = w ∙ given_yes (develop_verdict h d (length words)) (over (2 * blocks h) (word_at h d) words) words e

  pub developed-long : {after : List ℕ} → after ≡ develop_after h d words → 2 * blocks h ≤ length after
  developed-long w = omega (arith, ap length (developed-words w), length_over (2 * blocks h) (word_at h d) words, developed-room h d (length words) e)

  -- and those of the members after
  pub laid-words : (g : ℕ) {us : List ℕ} → us ≡ over (2 * blocks h) (grouped_word_at h d g) words → us ≡ laid_words h d g words
  laid-words g u = u ∙ sym (given_yes (develop_verdict h d (length words)) (over (2 * blocks h) (grouped_word_at h d g) words) words e)
