-- How long the card of an accepted job is at most. Assumes nothing.
use mathlib.Core.Bool.{Bool, true, false, cond}
use mathlib.Core.List.{List, [], ◌∷◌, ◌++◌}
use Prim.Native.Nat.{ℕ, suc, ◌+◌, ◌*◌, ◌%◌, ◌^◌, ◌≤◌, ◌<◌}
use native.Mathlib.Omega.{arith}
use lib.Dec.{eqb, ltb}
use lib.IntN.{ℤ, pos, negsuc, nat_abs}
use lib.ListN.{length, get_or, length-append}
use Rattle.records.specs.declared.Head.{Head}
use Rattle.meaning.specs.Design.{objects, blocks}
use Rattle.meaning.specs.Analysis.{member, reading}
use Rattle.meaning.specs.Writing.{Bytes}
use Rattle.meaning.specs.Text.{ascii, spaced, signed_text}
use Rattle.meaning.specs.CardText.{kind_line, fixed_line, object_text, block_line, member_text, restraint_line, reading_text, readings_lines, card_text}
use Rattle.laws.proofs.Chains.{Job}
use Rattle.laws.proofs.Bytes.{byte_below}
use Rattle.laws.proofs.Lengths.{spaced-length, spaced-most, signed-most, each-length}

-- a number with its sign has a byte more
signed-length : (k : ℕ) (z : ℤ) → nat_abs z < 10 ^ suc k → length (signed_text z) ≤ k + 3
signed-length k (pos n) l = omega (arith, spaced-length k n l)
signed-length k (negsuc n) l = omega (arith, spaced-length k (suc n) l)

object-length : (x : ℕ) → x < 256 → length (object_text x) ≤ 4
unfolding ascii
object-length x l = by (eqb x 255)
  where
    by : (b : Bool) → length (cond b (ascii " inf") (spaced x)) ≤ 4
    by true = omega arith
    by false = spaced-length 2 x (omega arith)

kind_length : (h : Head) → length (kind_line h) ≤ 30
unfolding ascii
kind_length h = by (ltb h.flag 2)
  where
    by : (b : Bool) → length (ascii (cond b "residues" "field") ++ spaced h.n ++ (10 ∷ [])) ≤ 30
    by true = rw length-append (omega (arith, spaced-most h.n))
    by false = rw length-append (omega (arith, spaced-most h.n))

fixed_length : (h : Head) → length (fixed_line h) ≤ 10
unfolding ascii
fixed_length h = by (eqb (h.flag % 2) 1)
  where
    by : (b : Bool) → length (ascii "fixed" ++ ascii (cond b " yes" " no") ++ (10 ∷ [])) ≤ 10
    by true = omega arith
    by false = omega arith

member-length : (w i : ℕ) → i < 1000 → length (member_text w i) ≤ 4
member-length w i l = by (eqb (member w i) 1)
  where
    by : (b : Bool) → length (cond b (spaced i) []) ≤ 4
    by true = spaced-length 2 i l
    by false = omega arith

reading-length : (h : Head) (y : List ℤ) (k : ℕ) → nat_abs (reading y k) < 10 ^ 9 → length (reading_text h y k) ≤ 12
reading-length h y k l = by (eqb (k % h.n) 0)
  where
    by : (b : Bool) → length (cond b (10 ∷ []) [] ++ signed_text (reading y k)) ≤ 12
    by true = omega (arith, signed-length 8 (reading y k) l)
    by false = omega (arith, signed-length 8 (reading y k) l)

module _ (h : Head) (d : List ℕ) (y : List ℤ) (w : ℕ) (M : ℤ) (j : Job h d y w M) (b : Bytes d) where
  block-length : (k : ℕ) → length (block_line h d k) ≤ 210
  unfolding ascii
  block-length k =
      let f = j.measures.design.sizes in
      let left = each-length h.p 4 (λ i. object_text (get_or d (2 * h.p * k + i) 0)) (λ i l. object-length _ (byte_below d b (2 * h.p * k + i))) in
      let right = each-length h.p 4 (λ i. object_text (get_or d (2 * h.p * k + h.p + i) 0))
      (λ i l. object-length _ (byte_below d b (2 * h.p * k + h.p + i))) in
      simp length-append (omega (arith, left, right, f.sides-fit, f.objects-most))

  restraint-length : length (restraint_line h w M) ≤ 234
  unfolding ascii
  restraint-length =
      let f = j.measures.design.sizes in
      let set = each-length (objects h) 4 (member_text w) (λ i l. member-length w i (omega (arith, f.objects-most))) in
      simp length-append (omega (arith, set, signed-most M, f.objects-most))

  readings-length : length (readings_lines h y) ≤ 15609
  unfolding ascii
  readings-length =
      let f = j.measures.design.sizes in
      let all = each-length (blocks h) 12 (reading_text h y) (λ k l. reading-length h y k (omega (arith, j.measures.readings.readings-most k l))) in
      simp length-append (omega (arith, all, f.blocks-most))

  -- the card of a job
  pub card-length : length (card_text h d y w M) ≤ 29323
  card-length =
      let f = j.measures.design.sizes in
      let lines = each-length h.m 210 (block_line h d) (λ k l. block-length k) in
      rw (length-append, length-append, length-append, length-append)
      (omega (arith, kind_length h, fixed_length h, lines, restraint-length, readings-length, f.m_most))
