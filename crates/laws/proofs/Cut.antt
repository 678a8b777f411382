-- Cutting a file at 8,192 bytes changes no answer.
--     longest_file   no accepted file is longer than 6,584 bytes
--     cut_text       the first 8,192 bytes have the text of the whole
--     bench_text_lem     so what the program prints is the text of what stands on its standard input
-- Of two files that have the same first 8,192 bytes and go on past them each test sees the same, up to a refusal by 9 at the latest. Assumes nothing.
use Rattle.std.proofs.Common.{Ok, Err}
use mathlib.Core.Path.{◌≡◌, refl, sym, ap, ◌∙◌}
use mathlib.Core.Bool.{Bool, true, false}
use mathlib.Core.List.{List}
use Prim.Native.Nat.{ℕ, zero, suc, ◌+◌, ◌*◌, ◌≤◌, ◌<◌}
use native.Mathlib.Nat.{mul-le-mul_left, mul-le-mul_right}
use native.Mathlib.Decide.{dec_le, ℕ_discrete}
use native.Mathlib.Omega.{arith}
use borrow.Author.Tests.{le-leb, ne_eqb}
use lib.Dec.{eqb}
use lib.ListN.{length, get_or, take}
use lib.Seq.{take_all, length-take-le, get_or-take}
use Rattle.records.specs.declared.Head.{Head}
use Rattle.meaning.specs.Design.{blocks, sized, list_length}
use Rattle.meaning.specs.Refusals.{Verdict, accepted, refused, test, ◌⨾◌, sizes}
use Rattle.meaning.specs.File.{big, field_verdict, head_of, fields, read_verdict}
use Rattle.meaning.specs.Text.{refused_line, text_of, bench_text}
use Rattle.laws.specs.Fits.{Fits}
use Rattle.laws.proofs.Chains.{fits}
use Rattle.laws.proofs.Files.{filed, file-job}

-- ---- the longest file

-- a block list of m blocks of 2p bytes: 2p is at most n + 1, and mn at most 1,300
list-most : (n p m : ℕ) → 2 * p ≤ n + 1 → m ≤ 64 → m * n ≤ 1300 → 2 * p * m ≤ 1352
list-most n p m side few small = go (dec_le n 20) (dec_le 25 n)
  where
    sides : 2 * p * m ≤ (n + 1) * m
    sides = mul-le-mul_right m side

    exactly : (k : ℕ) → n ≡ k → m * k ≤ 1300
    exactly k e = omega (arith, small, ap (λ (x : ℕ). m * x) e)

    wide : (k : ℕ) → n ≡ k → 2 * p * m ≤ (k + 1) * m
    wide k e = omega (arith, sides, ap (λ (x : ℕ). (x + 1) * m) e)

    between : Dec (n ≡ 21) → Dec (n ≡ 22) → Dec (n ≡ 23) → 20 < n → n < 25 → 2 * p * m ≤ 1352
    between (yes e) b c l u = omega (arith, wide 21 e, exactly 21 e)
    between (no a) (yes e) c l u = omega (arith, exactly 22 e, mul-le-mul_right m (side_of p 11 (omega arith)))
      where
        side_of : (p k : ℕ) → 2 * p ≤ 2 * k + 1 → 2 * p ≤ 2 * k
        side_of p k s = omega arith
    between (no a) (no b) (yes e) l u = omega (arith, wide 23 e, exactly 23 e)
    between (no a) (no b) (no c) l u = let e : n ≡ 24 = omega (arith, a, b, c) in omega (arith, wide 24 e, exactly 24 e)

    go : Dec (n ≤ 20) → Dec (25 ≤ n) → 2 * p * m ≤ 1352
    go (yes l) b = omega (arith, sides, mul-le-mul_right m l)
    go (no l) (yes u) = omega (arith, sides, mul-le-mul_left m u, small)
    go (no l) (no u) = between (ℕ_discrete n 21) (ℕ_discrete n 22) (ℕ_discrete n 23) (omega arith) (omega arith)

-- where the sizes fit, the fourth field ends at 6,584 or before
ends-early : (h : Head) → Fits h → 7 + 3 + list_length h + 3 + 16 + 3 + 4 * blocks h ≤ 6584
ends-early h f = omega (arith, list-most h.n h.p h.m (omega (arith, f.sides-fit, f.flag-most)) f.m_most f.blocks-most, f.blocks-most)

-- no accepted file is longer
pub longest_file : (s : List ℕ) → read_verdict s ≡ accepted → length s ≤ 6584
longest_file s e = let f = filed s (file-job s e).0 in omega (arith, f.ends, ends-early (head_of s) (fits (head_of s) f.size))

-- ---- two files with the same first n bytes, which both have them

record Alike (n : ℕ) (s t : List ℕ) : Type 0 where
  has : n ≤ length s
  has_too : n ≤ length t
  same : (i : ℕ) → i < n → get_or s i 0 ≡ get_or t i 0

module _ (n : ℕ) (s t : List ℕ) (a : Alike n s t) where
  -- a number that lies in them is the same
  big-same : (at c : ℕ) → at + c ≤ n → big s at c ≡ big t at c
  unfolding big
  big-same at zero l = refl
  big-same at (suc c) l = λ j. big-same at c (omega arith) j * 256 + a.same (at + c) (omega arith) j

  -- a field that lies in them has the same verdict
  field-same : (at tag len : ℕ) → at + 3 + len ≤ n → field_verdict s at tag len ≡ field_verdict t at tag len
  unfolding field_verdict
  field-same at tag len l =
      rw (
        le-leb (at + 3) (length s) (omega (arith, a.has)),
        le-leb (at + 3) (length t) (omega (arith, a.has_too)),
        le-leb (at + 3 + len) (length s) (omega (arith, a.has)),
        le-leb (at + 3 + len) (length t) (omega (arith, a.has_too)),
        a.same at (omega arith),
        big-same (at + 1) 2 (omega arith),
      ) refl

  -- the head is the same
  head-same : 7 ≤ n → head_of s ≡ head_of t
  head-same l = λ j. record { n = a.same 3 (omega arith) j; flag = a.same 4 (omega arith) j; p = a.same 5 (omega arith) j; m = a.same 6 (omega arith) j }

-- ---- the fields, by a head

-- the byte after the fourth field
abbrev end_by : Head → ℕ
end_by h = 7 + 3 + list_length h + 3 + 16 + 3 + 4 * blocks h

-- the chain of `fields` with the head taken out: what follows the sizes, and all of it
abbrev after_sizes : Head → List ℕ → Verdict → Verdict
after_sizes h s first =
    first ⨾ field_verdict s 7 2 (list_length h) ⨾ field_verdict s (7 + 3 + list_length h) 3 16 ⨾ field_verdict s (7 + 3 + list_length h + 3 + 16) 4 (4 * blocks h)
    ⨾ test (eqb (end_by h) (length s)) 9 (end_by h)

abbrev by_head : Head → List ℕ → Verdict
by_head h s = after_sizes h s (field_verdict s 0 1 4 ⨾ sizes h)

fields_by : (s : List ℕ) → fields s ≡ by_head (head_of s) s
unfolding fields
fields_by s = refl

-- a refusal by the sizes ends the chain
sizes-end : (h : Head) (s : List ℕ) (first : Verdict) → after_sizes h s (first ⨾ refused 4 0) ≡ first ⨾ refused 4 0
sizes-end h s (Ok done) = refl
sizes-end h s (Err why) = refl

module _ (s t : List ℕ) (a : Alike 8192 s t) where
  -- the chain gives the same
  by_same : (h : Head) → by_head h s ≡ by_head h t
  by_same h = go (sized h) refl
    where
      go : (b : Bool) → sized h ≡ b → by_head h s ≡ by_head h t
      go false e = rw (e, field-same 8192 s t a 0 1 4 (omega arith)) (sizes-end h s (field_verdict t 0 1 4) ∙ sym (sizes-end h t (field_verdict t 0 1 4)))
      go true e =
          let l = ends-early h (fits h e) in
          rw (
            field-same 8192 s t a 0 1 4 (omega arith),
            field-same 8192 s t a 7 2 (list_length h) (omega arith),
            field-same 8192 s t a (7 + 3 + list_length h) 3 16 (omega arith),
            field-same 8192 s t a (7 + 3 + list_length h + 3 + 16) 4 (4 * blocks h) (omega arith),
            ne_eqb (end_by h) (length s) (λ x. absurd (omega (arith, a.has))),
            ne_eqb (end_by h) (length t) (λ x. absurd (omega (arith, a.has_too))),
          ) refl

  fields-same : fields s ≡ fields t
  fields-same = fields_by s ∙ (λ j. by_head (head-same 8192 s t a (omega arith) j) s) ∙ by_same (head_of t) ∙ sym (fields_by t)

-- ---- the text

-- a refusal of the fields is the whole text
text-refused : (s : List ℕ) (k place : ℕ) → fields s ≡ refused k place → text_of s ≡ refused_line k place
unfolding text_of read_verdict
text-refused s k place e = rw e refl

-- the first 8,192 bytes have the text of the whole
pub cut_text : (s : List ℕ) → text_of (take 8192 s) ≡ text_of s
cut_text s = by (dec_le (length s) 8192)
  where
    long : 8192 < length s → (v : Verdict) → fields s ≡ v → text_of (take 8192 s) ≡ text_of s
    long l (Ok done) e = let f = filed s e in absurd (omega (arith, f.ends, ends-early (head_of s) (fits (head_of s) f.size)))
    long l (Err why) e =
        let n : length (take 8192 s) ≡ 8192 = length-take-le 8192 s (omega arith) in
        let a : Alike 8192 (take 8192 s) s = record { has = omega arith; has_too = omega arith; same = λ i m. get_or-take 8192 s i 0 m } in
        text-refused (take 8192 s) why.number why.place (fields-same (take 8192 s) s a ∙ e) ∙ sym (text-refused s why.number why.place e)

    by : Dec (length s ≤ 8192) → text_of (take 8192 s) ≡ text_of s
    by (yes l) = ap text_of (take_all 8192 s l)
    by (no l) = long (omega arith) (fields s) refl

-- so what the program prints is the text of what stands on its standard input
pub bench_text_lem : (input : List ℕ) → bench_text input ≡ text_of input
unfolding bench_text
bench_text_lem input = cut_text input
