-- A text read line after line: as many claims as were counted, no more than lines, and each put behind those before it. Assumes nothing.
use Prim.Native.Nat.{ℕ, zero, suc, ◌+◌, ◌≤◌, ◌<◌}
use mathlib.Core.Path.{◌≡◌, refl, sym, ap, ◌∙◌}
use mathlib.Core.List.{List, [], ◌∷◌, ◌++◌, append-nil}
use mathlib.Core.Bool.{Bool, true, false, cond, not, ◌&&◌}
use native.Mathlib.Numerals.{add-one}
use native.Mathlib.Omega.{arith}
use native.Mathlib.Decide.{dec_le}
use native.Mathlib.Nat.{lt_of_not-le}
use borrow.Author.Tests.{lt-ltb, le-ltb}
use lib.IntN.{ℤ, pos}
use lib.ListN.{length, get_or, set, length-append, length-set, get_or-append}
use lib.Seq.{set_out, get_or-append_seam}
use Rattle.std.specs.Prelude.{Option, Some, None, is_some, unwrap_or}
use Rattle.records.specs.declared.SheetSpread.{SheetSpread}
use Rattle.records.specs.declared.SheetRead.{SheetRead}
use Rattle.algebra.specs.Buffers.{over}
use Rattle.algebra.proofs.Filling.{over_ext, over_full, over-step, length_over}
use Rattle.meaning.specs.Text.{ascii}
use Rattle.meaning.specs.SheetText.{
  line_of,
  lines_of,
  claim_of,
  spread_of,
  same,
  word_of,
  unread,
  with_value,
  with_spread,
  with_line,
  added,
  nothing_read,
  read_to,
  claims_to,
  ended,
  sheet_of,
  claims_of,
  put,
  laid,
}

-- ---- how many claims

-- whatever the tests of a line say: what is counted with it is what it adds
by_tests : (on value claims spread new : Bool) (k : ℕ) (r : SheetRead) (q : Option SheetSpread) (x : ℤ) →
    (cond on
    (cond value
    (cond claims (record { line = None; count = r.count + 1; spread = r.spread }) (unread k r))
    (cond spread (cond new (record { line = None; count = r.count; spread = q }) (unread k r)) r))
    r).count
    ≡ r.count + length (cond (on && (value && claims)) (x ∷ []) [])
by_tests true true true spread new k r q x = omega arith
by_tests true true false spread new k r q x = omega arith
by_tests true false claims true true k r q x = omega arith
by_tests true false claims true false k r q x = omega arith
by_tests true false claims false new k r q x = omega arith
by_tests false value claims spread new k r q x = omega arith

with_count : (k : ℕ) (l : List ℕ) (r : SheetRead) → (with_line k l r).count ≡ r.count + length (added l r)
unfolding with_line with_value with_spread added
with_count k l r = by_tests (not (is_some r.line)) (same (word_of 0 l) (ascii "value")) (is_some (claim_of r.count l)) (same (word_of 0 l) (ascii "spread"))
    (not (is_some r.spread) && is_some (spread_of l)) k r (spread_of l) (unwrap_or (claim_of r.count l) (pos 0))

-- as many claims as were counted
pub counted : (k : ℕ) (s : List ℕ) → length (claims_to k s) ≡ (read_to k s).count
unfolding read_to claims_to
counted zero s = refl
counted (suc k) s =
    length-append (claims_to k s) (added (line_of k s) (read_to k s))
    ∙ ap (λ (n : ℕ). n + length (added (line_of k s) (read_to k s))) (counted k s)
    ∙ sym (with_count (suc k) (line_of k s) (read_to k s))

-- a line adds one at most
one-most : (l : List ℕ) (r : SheetRead) → length (added l r) ≤ 1
unfolding added
one-most l r = by (not (is_some r.line) && (same (word_of 0 l) (ascii "value") && (is_some (claim_of r.count l))))
  where
    by : (t : Bool) → length (cond t ((unwrap_or (claim_of r.count l) (pos 0)) ∷ []) []) ≤ 1
    by true = omega arith
    by false = omega arith

-- no more claims than lines
pub count_most : (k : ℕ) (s : List ℕ) → (read_to k s).count ≤ k
unfolding read_to
count_most zero s = omega arith
count_most (suc k) s =
    omega (arith, with_count (suc k) (line_of k s) (read_to k s), one-most (line_of k s) (read_to k s), count_most k s)

-- ---- claims in lent room

-- one claim more
module _ (cs out : List ℤ) (x : ℤ) where
  as_longer : laid cs out ≡ over (length cs) (λ i. get_or (cs ++ (x ∷ [])) i (pos 0)) out
  unfolding laid
  as_longer = over_ext (length cs) (λ i. get_or cs i (pos 0)) (λ i. get_or (cs ++ (x ∷ [])) i (pos 0)) out
      (λ i h. sym (get_or-append cs (x ∷ []) (pos 0) i h))

  one-longer : length (cs ++ (x ∷ [])) ≡ length cs + 1
  one-longer = length-append cs (x ∷ [])

  laid_on : {cur : List ℤ} → cur ≡ laid cs out → set cur (length cs) x ≡ laid (cs ++ (x ∷ [])) out
  unfolding laid
  laid_on {cur} e = by (dec_le (length out) (length cs))
    where
      by : Dec (length out ≤ length cs) → set cur (length cs) x ≡ laid (cs ++ (x ∷ [])) out
      by (yes full) =
          let long : length cur ≤ length cs = omega (arith, ap length e, length_over (length cs) (λ i. get_or cs i (pos 0)) out) in
          set_out cur (length cs) x long ∙ e ∙ as_longer
          ∙ over_full (length cs) (length cs + 1) (λ i. get_or (cs ++ (x ∷ [])) i (pos 0)) out full (omega arith)
          ∙ ap (λ (n : ℕ). over n (λ i. get_or (cs ++ (x ∷ [])) i (pos 0)) out) (sym one-longer)
      by (no f) =
          over-step (length cs) (λ i. get_or (cs ++ (x ∷ [])) i (pos 0)) out (e ∙ as_longer) (sym (get_or-append_seam cs x [] (pos 0))) (lt_of_not-le f)
          ∙ ap (λ (n : ℕ). over n (λ i. get_or (cs ++ (x ∷ [])) i (pos 0)) out) (sym one-longer)

-- none or one more, put behind those before it
put_behind : (a cs out : List ℤ) {cur : List ℤ} → length a ≤ 1 → cur ≡ laid cs out → put a (length cs) cur ≡ laid (cs ++ a) out
put_behind [] cs out h e = e ∙ ap (λ (t : List ℤ). laid t out) (sym (append-nil cs))
put_behind (x ∷ []) cs out h e = laid_on cs out x e
put_behind (x ∷ y ∷ more) cs out h e = absurd (omega arith)

-- a claim that is put leaves the room as long as it was
pub put-long : (a : List ℤ) (i : ℕ) (out : List ℤ) → length (put a i out) ≡ length out
put-long [] i out = refl
put-long (x ∷ more) i out = length-set out i x

-- ---- one line more

module _ (k : ℕ) (s : List ℕ) where
  -- what is read with line k
  pub read_more : with_line (k + 1) (line_of k s) (read_to k s) ≡ read_to (k + 1) s
  unfolding read_to
  read_more = rw add-one

  -- what is claimed with it
  pub claim-more : (out : List ℤ) {cur : List ℤ} → cur ≡ laid (claims_to k s) out →
      put (added (line_of k s) (read_to k s)) (read_to k s).count cur ≡ laid (claims_to (k + 1) s) out
  unfolding claims_to
  claim-more out {cur} e =
      ap (λ (n : ℕ). put (added (line_of k s) (read_to k s)) n cur) (sym (counted k s))
      ∙ put_behind (added (line_of k s) (read_to k s)) (claims_to k s) out (one-most (line_of k s) (read_to k s)) e
      ∙ ap (λ (n : ℕ). laid (claims_to n s) out) (sym (add-one k))

-- before the first line
pub nothing-laid : (s : List ℕ) (out : List ℤ) → out ≡ laid (claims_to 0 s) out
unfolding claims_to laid over
nothing-laid s out = refl

pub nothing_yet : (s : List ℕ) → nothing_read None ≡ read_to 0 s
unfolding read_to
nothing_yet s = refl

-- ---- a whole text

module _ (s : List ℕ) (long : 65536 < length s) where
  pub long-read : nothing_read (Some 1) ≡ sheet_of s
  unfolding sheet_of
  long-read = rw (lt-ltb 65536 (length s) long)

  pub long-laid : (out : List ℤ) → out ≡ laid (claims_of s) out
  unfolding claims_of laid over
  long-laid out = rw (lt-ltb 65536 (length s) long)

module _ (s : List ℕ) (short : length s ≤ 65536) where
  pub short-read : ended (lines_of s) (read_to (lines_of s) s) ≡ sheet_of s
  unfolding sheet_of
  short-read = rw (le-ltb 65536 (length s) short)

  pub short-claims : claims_to (lines_of s) s ≡ claims_of s
  unfolding claims_of
  short-claims = rw (le-ltb 65536 (length s) short)
