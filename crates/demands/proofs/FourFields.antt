-- The four fields of a file of the second edition, looked at in the file itself, from its fifth byte on: every test and every place by four bytes later, and
-- no test for bytes after them. Assumes nothing.
use Rattle.std.proofs.Common.{Ok, Err}
use mathlib.Core.Path.{◌≡◌, refl, sym, ap, ◌∙◌}
use mathlib.Core.Bool.{Bool, true, false}
use mathlib.Core.List.{List, [], ◌∷◌}
use Prim.Native.Nat.{ℕ, zero, suc, ◌+◌, ◌*◌, ◌≤◌}
use native.Mathlib.Omega.{arith}
use native.Mathlib.Decide.{dec_le}
use borrow.Author.Tests.{le-leb, lt-leb, eq-eqb}
use lib.Dec.{eqb, leb}
use lib.ListN.{length, get_or, take, drop, length-drop}
use lib.Seq.{get_or-take, get_or-drop}
use Rattle.records.specs.declared.Head.{Head}
use Rattle.meaning.specs.Design.{blocks, sized, list_length}
use Rattle.meaning.specs.Refusals.{Verdict, test, ◌⨾◌, sizes}
use Rattle.meaning.specs.File.{big, field_verdict, head_of, end_at, fields}
use Rattle.meaning.specs.Edition2.{four_of, moved_on}
use Rattle.laws.proofs.Chains.{opened, test_yes}
use Rattle.laws.proofs.Writing.{fielded}
use Rattle.laws.proofs.Edition2.{part-most, moved_chain}

-- ---- a field in the first N bytes

-- as much as is asked for is there
part-least : (n a : ℕ) (l : List ℕ) → a ≤ n → a ≤ length l → a ≤ length (take n l)
part-least zero a l p q = omega arith
part-least (suc n) a [] p q = omega arith
part-least (suc n) zero (x ∷ l) p q = omega arith
part-least (suc n) (suc a) (x ∷ l) p q = omega (arith, part-least n a l (omega arith) (omega arith))

part-short : (n : ℕ) (l : List ℕ) → length (take n l) ≤ n
part-short zero l = omega arith
part-short (suc n) [] = omega arith
part-short (suc n) (x ∷ l) = omega (arith, part-short n l)

module _ (N : ℕ) (t : List ℕ) where
  abbrev u : List ℕ
  u = take N t

  within : (a : ℕ) → a ≤ N → leb a (length u) ≡ leb a (length t)
  within a l = by (dec_le a (length t))
    where
      by : Dec (a ≤ length t) → leb a (length u) ≡ leb a (length t)
      by (yes m) = le-leb a (length u) (part-least N a t l m) ∙ sym (le-leb a (length t) m)
      by (no m) = lt-leb a (length u) (omega (arith, part-most N t)) ∙ sym (lt-leb a (length t) (omega arith))

  two-same : (at : ℕ) → at + 2 ≤ N → big u at 2 ≡ big t at 2
  unfolding big
  two-same at l = λ i. (0 * 256 + get_or-take N t (at + 0) 0 (omega arith) i) * 256 + get_or-take N t (at + 1) 0 (omega arith) i

  field_cut : (at tag len : ℕ) → at + 3 + len ≤ N → field_verdict u at tag len ≡ field_verdict t at tag len
  unfolding field_verdict
  field_cut at tag len l = λ i.
      test (within (at + 3) (omega arith) i) 1 at
      ⨾ test (eqb (get_or-take N t at 0 (omega arith) i) tag) 2 at
      ⨾ test (eqb (two-same (at + 1) (omega arith) i) len) 3 at
      ⨾ test (within (at + 3 + len) l i) 1 at

-- ---- a field by four bytes later

module _ (s : List ℕ) (long : 4 ≤ length s) where
  later : (a : ℕ) → leb a (length (drop 4 s)) ≡ leb (4 + a) (length s)
  later a = by (dec_le (4 + a) (length s))
    where
      by : Dec (4 + a ≤ length s) → leb a (length (drop 4 s)) ≡ leb (4 + a) (length s)
      by (yes m) = le-leb a (length (drop 4 s)) (omega (arith, length-drop 4 s)) ∙ sym (le-leb (4 + a) (length s) m)
      by (no m) = lt-leb a (length (drop 4 s)) (omega (arith, length-drop 4 s)) ∙ sym (lt-leb (4 + a) (length s) (omega arith))

  two-later : (at : ℕ) → big (drop 4 s) at 2 ≡ big s (4 + at) 2
  unfolding big
  two-later at =
      let second : 4 + (at + 1) ≡ 4 + at + 1 = omega arith in
      let first : 4 + (at + 0) ≡ 4 + at + 0 = omega arith in
      (λ i. (0 * 256 + get_or-drop 4 s (at + 0) 0 i) * 256 + get_or-drop 4 s (at + 1) 0 i)
      ∙ (λ i. (0 * 256 + get_or s (first i) 0) * 256 + get_or s (second i) 0)

  moved-four : (a b c d : Bool) (at : ℕ) → moved_on (test a 1 at ⨾ test b 2 at ⨾ test c 3 at ⨾ test d 1 at)
      ≡ test a 1 (4 + at) ⨾ test b 2 (4 + at) ⨾ test c 3 (4 + at) ⨾ test d 1 (4 + at)
  moved-four false b c d at = refl
  moved-four true false c d at = refl
  moved-four true true false d at = refl
  moved-four true true true false at = refl
  moved-four true true true true at = refl

  field-later : (at tag len : ℕ) → moved_on (field_verdict (drop 4 s) at tag len) ≡ field_verdict s (4 + at) tag len
  unfolding field_verdict
  field-later at tag len =
      let three : 4 + (at + 3) ≡ 4 + at + 3 = omega arith in
      let body : 4 + (at + 3 + len) ≡ 4 + at + 3 + len = omega arith in
      let next : 4 + (at + 1) ≡ 4 + at + 1 = omega arith in
      moved-four (leb (at + 3) (length (drop 4 s))) (eqb (get_or (drop 4 s) at 0) tag) (eqb (big (drop 4 s) (at + 1) 2) len)
      (leb (at + 3 + len) (length (drop 4 s))) at
      ∙ (λ i.
      test ((later (at + 3) ∙ ap (λ (k : ℕ). leb k (length s)) three) i) 1 (4 + at)
      ⨾ test (eqb (get_or-drop 4 s at 0 i) tag) 2 (4 + at)
      ⨾ test (eqb ((two-later (at + 1) ∙ ap (λ (k : ℕ). big s k 2) next) i) len) 3 (4 + at)
      ⨾ test ((later (at + 3 + len) ∙ ap (λ (k : ℕ). leb k (length s)) body) i) 1 (4 + at))

  moved-sizes : (b : Bool) → moved_on (test b 4 0) ≡ test b 4 4
  moved-sizes true = refl
  moved-sizes false = refl

  abbrev h : Head
  h = head_of (drop 4 s)

  abbrev N : ℕ
  N = end_at (drop 4 s)

  -- the sizes are the file's
  head_cut : head_of (take N (drop 4 s)) ≡ h
  head_cut = λ i. record {
    n = get_or-take N (drop 4 s) 3 0 (omega arith) i;
    flag = get_or-take N (drop 4 s) 4 0 (omega arith) i;
    p = get_or-take N (drop 4 s) 5 0 (omega arith) i;
    m = get_or-take N (drop 4 s) 6 0 (omega arith) i;
  }

  -- the four fields as they are cut out, and the test for bytes after them, by a head
  chain : Head → Verdict
  chain k = field_verdict (take N (drop 4 s)) 0 1 4 ⨾ sizes k ⨾ field_verdict (take N (drop 4 s)) 7 2 (list_length k)
      ⨾ field_verdict (take N (drop 4 s)) (10 + list_length k) 3 16 ⨾ field_verdict (take N (drop 4 s)) (10 + list_length k + 3 + 16) 4 (4 * blocks k)

  end : Head → ℕ
  end k = 10 + list_length k + 3 + 16 + 3 + 4 * blocks k

  by_head_lem : fields (take N (drop 4 s)) ≡ chain h ⨾ test (eqb (end h) (length (take N (drop 4 s)))) 9 (end h)
  unfolding fields chain end
  by_head_lem = ap (λ (k : Head). chain k ⨾ test (eqb (end k) (length (take N (drop 4 s)))) 9 (end k)) head_cut

  -- cut where the fourth ends, they have no bytes after them
  no_nine : fields (take N (drop 4 s)) ≡ chain h
  unfolding chain end
  no_nine = by_head_lem ∙ by (chain h) refl
    where
      by : (v : Verdict) → chain h ≡ v → v ⨾ test (eqb (end h) (length (take N (drop 4 s)))) 9 (end h) ≡ v
      by (Ok done) e =
          let front = field_verdict (take N (drop 4 s)) 0 1 4 ⨾ sizes h ⨾ field_verdict (take N (drop 4 s)) 7 2 (list_length h)
          ⨾ field_verdict (take N (drop 4 s)) (10 + list_length h) 3 16 in
          let last = field_verdict (take N (drop 4 s)) (10 + list_length h + 3 + 16) 4 (4 * blocks h) in
          let f = fielded (take N (drop 4 s)) (10 + list_length h + 3 + 16) 4 (4 * blocks h) (opened front last e).1 in
          let same : end h ≡ length (take N (drop 4 s)) = omega (arith, f.inside, part-short N (drop 4 s)) in
          test_yes (eqb (end h) (length (take N (drop 4 s)))) 9 (end h) (eq-eqb (end h) (length (take N (drop 4 s))) same)
      by (Err why) e = refl

  moved-field : (at tag len : ℕ) → at + 3 + len ≤ N → moved_on (field_verdict (take N (drop 4 s)) at tag len) ≡ field_verdict s (4 + at) tag len
  moved-field at tag len l = ap moved_on (field_cut N (drop 4 s) at tag len l) ∙ field-later at tag len

  -- so they are looked at from the fifth byte of the file on
  pub four_places : moved_on (fields (four_of s)) ≡ field_verdict s 4 1 4 ⨾ test (sized h) 4 4 ⨾ field_verdict s 11 2 (list_length h)
      ⨾ field_verdict s (14 + list_length h) 3 16 ⨾ field_verdict s (33 + list_length h) 4 (4 * blocks h)
  unfolding four_of chain
  four_places =
      let a = field_verdict (take N (drop 4 s)) 0 1 4 in
      let b = field_verdict (take N (drop 4 s)) 7 2 (list_length h) in
      let c = field_verdict (take N (drop 4 s)) (10 + list_length h) 3 16 in
      let d = field_verdict (take N (drop 4 s)) (10 + list_length h + 3 + 16) 4 (4 * blocks h) in
      let third : 4 + (10 + list_length h) ≡ 14 + list_length h = omega arith in
      let fourth : 4 + (10 + list_length h + 3 + 16) ≡ 33 + list_length h = omega arith in
      ap moved_on no_nine
      ∙ moved_chain (a ⨾ sizes h ⨾ b ⨾ c) d
      ∙ ap (λ (v : Verdict). v ⨾ moved_on d) (moved_chain (a ⨾ sizes h ⨾ b) c ∙ ap (λ (v : Verdict). v ⨾ moved_on c) (moved_chain (a ⨾ sizes h) b
      ∙ ap (λ (v : Verdict). v ⨾ moved_on b) (moved_chain a (sizes h))))
      ∙ (λ i. moved-field 0 1 4 (omega arith) i ⨾ moved-sizes (sized h) i ⨾ moved-field 7 2 (list_length h) (omega arith) i
      ⨾ (moved-field (10 + list_length h) 3 16 (omega arith) ∙ ap (λ (k : ℕ). field_verdict s k 3 16) third) i
      ⨾ (moved-field (10 + list_length h + 3 + 16) 4 (4 * blocks h) (omega arith) ∙ ap (λ (k : ℕ). field_verdict s k 4 (4 * blocks h)) fourth) i)
