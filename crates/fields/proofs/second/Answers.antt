-- The edition field, by what was found at its start; where the four fields end; and the optional fields, one after another. Assumes nothing.
use Rattle.std.proofs.Common.{Err}
use Prim.Native.Nat.{ℕ, zero, suc, ◌+◌, ◌-◌, ◌≤◌, ◌<◌, min}
use mathlib.Core.Path.{◌≡◌, refl, sym, ap, subst, ◌∙◌}
use mathlib.Core.Bool.{not, ◌||◌}
use mathlib.Core.List.{List}
use native.Mathlib.Omega.{arith}
use borrow.Author.Tests.{leb-true, lt-leb}
use lib.Dec.{eqb, leb}
use lib.ListN.{length, get_or, take, drop, length-take, length-drop}
use lib.Seq.{take_all, get_or-drop}
use mir.Syntax.{w8}
use mir.Val.{Fits}
use Rattle.records.specs.declared.Refusal.{Refusal}
use Rattle.meaning.specs.Refusals.{Verdict, accepted, test, ◌⨾◌}
use Rattle.meaning.specs.File.{big, field_at, field_says, end_at}
use Rattle.meaning.specs.Edition2.{edition, four_of, names_tag, optional_at, optional_verdict, optionals}
use Rattle.laws.proofs.Chains.{opened, held, goes_on}
use Rattle.laws.proofs.Edition2.{part-most, optionals-end}
use Rattle.fields.proofs.Bounds.{third_bound, blocks_bound}
use Rattle.fields.proofs.framing.Says.{answer-says}

-- ---- the edition field
-- its own tests, as the answer at its place tells them, then its body
pub edition_is : (s : List ℕ) → edition s ≡ field_says (field_at s 0 16 1) ⨾ test (eqb (get_or s 3 0) 2) 12 3
unfolding edition
edition_is s = rw (answer-says s 0 16 1) refl

-- ---- where the four fields end
module _ (s : List ℕ) where
  -- nothing follows the edition field
  pub end_none : length s < 4 → 4 ≡ optional_at s
  unfolding four_of
  end_none l = omega (arith, part-most (end_at (drop 4 s)) (drop 4 s), length-drop 4 s)

  -- what follows it, as the code takes it
  pub rest-is : take (length s - 4) (drop 4 s) ≡ drop 4 s
  rest-is = take_all (length s - 4) (drop 4 s) (omega (arith, length-drop 4 s))

  -- a size is a byte, so they end within these bytes
  pub end_bound : ((i : ℕ) → Fits w8 (get_or s i 0)) → end_at (drop 4 s) ≤ 400000
  end_bound known =
      let at : (i : ℕ) → Fits w8 (get_or (drop 4 s) i 0) = λ i. subst (Fits w8) (sym (get_or-drop 4 s i 0)) (known (4 + i)) in
      omega (arith, third_bound (drop 4 s) (at 5) (at 6), blocks_bound (drop 4 s) (at 3) (at 6))

  -- they end by their sizes, or where the bytes end before that
  pub end_where : 4 ≤ length s → min (length s) (4 + end_at (drop 4 s)) ≡ optional_at s
  unfolding four_of
  end_where l = omega (arith, length-take (end_at (drop 4 s)) (drop 4 s), length-drop 4 s)

-- ---- the optional fields, one after another; `left` are more than enough

-- the body of an accepted one lies within the file
pub optional-inside : (s : List ℕ) (names least at : ℕ) → optional_verdict s names least at ≡ accepted → at + 3 + big s (at + 1) 2 ≤ length s
unfolding optional_verdict
optional-inside s names least at e = leb-true _ _ (held (leb (at + 3 + big s (at + 1) 2) (length s)) 1 at
    (opened (test (leb (at + 3) (length s)) 1 at ⨾ test (leb least (get_or s at 0)) 2 at
    ⨾ test (not (eqb (get_or s at 0) names_tag) || eqb (big s (at + 1) 2) names) 3 at) _ e).1)

-- what is due at a place: the optional fields from there on come to the verdict on all
pub record Due (s : List ℕ) (names least at : ℕ) (all : Verdict) : Type 0 where
  pub left : ℕ
  pub enough : length s ≤ at + left
  pub due : optionals left s names least at ≡ all

module _ (s : List ℕ) (names least at : ℕ) (all : Verdict) where
  abbrev one : Verdict
  one = optional_verdict s names least at

  -- one field, and what follows it
  turn : (k : ℕ) → at < length s → length s ≤ at + k → optionals k s names least at ≡ all →
      (j : ℕ) × (length s ≤ at + 1 + j) × (one ⨾ optionals j s names (get_or s at 0 + 1) (at + 3 + big s (at + 1) 2) ≡ all)
  unfolding optionals
  turn zero l m e = absurd (omega arith)
  turn (suc k) l m e = (k, omega arith, rw (lt-leb (length s) at l) at e)

  module _ (d : Due s names least at all) where
    -- no byte is left
    pub due_end : length s ≤ at → accepted ≡ all
    due_end l = sym (optionals-end d.left s names least at l) ∙ d.due

    module _ (l : at < length s) where
      -- a field is refused, and so are all
      pub due_refused : (why : Refusal) → one ≡ Err why → Err why ≡ all
      due_refused why e = let t = turn d.left l d.enough d.due in
          sym (ap (λ (w : Verdict). w ⨾ optionals t.0 s names (get_or s at 0 + 1) (at + 3 + big s (at + 1) 2)) e) ∙ t.2

      -- a field is accepted, and the rest is due
      pub due_on : one ≡ accepted → Due s names (get_or s at 0 + 1) (at + 3 + big s (at + 1) 2) all
      due_on e = let t = turn d.left l d.enough d.due in
          record { left = t.0; enough = omega (arith, t.1); due = sym (goes_on _ e) ∙ t.2 }
