-- The fields as one reader takes them, from a tag and a place on, come to the verdict of the fields. Assumes nothing.
--     tests    one field where the reader stands: its refusal, and after the first the sizes'.        goes     where the reader stands after it
--     led      the verdict of k fields from there on, and of the end of the file
use Rattle.std.proofs.Common.{Ok, Err}
use Prim.Native.Nat.{ℕ, zero, suc, ◌+◌, ◌-◌, ◌≤◌}
use mathlib.Core.Path.{◌≡◌, refl, sym, ap, ◌∙◌}
use mathlib.Core.Bool.{Bool, false, cond}
use mathlib.Core.List.{List}
use lib.Dec.{eqb}
use lib.ListN.{length}
use native.Mathlib.Omega.{arith}
use Rattle.records.specs.declared.Refusal.{Refusal}
use Rattle.meaning.specs.Refusals.{Verdict, accepted, test, ◌⨾◌, sizes}
use Rattle.meaning.specs.File.{body_length, field_verdict, field_at, field_says, field_next, head_of, second_at, third_at, fourth_at, end_at, fields}
use Rattle.fields.proofs.framing.Says.{answer-says}

-- a chain of five, from its end on
from_the_end : (a b c d e : Verdict) → a ⨾ b ⨾ c ⨾ d ⨾ e ≡ a ⨾ (b ⨾ (c ⨾ (d ⨾ e)))
from_the_end (Err why) b c d e = refl
from_the_end (Ok done) (Err why) c d e = refl
from_the_end (Ok done) (Ok done_2) (Err why) d e = refl
from_the_end (Ok done) (Ok done_2) (Ok done_3) d e = refl

module _ (s : List ℕ) where
  abbrev pub tests : ℕ → ℕ → Verdict
  tests tag at = field_says (field_at s at tag (body_length (head_of s) tag)) ⨾ cond (eqb tag 1) (sizes (head_of s)) accepted

  abbrev pub goes : ℕ → ℕ → ℕ
  goes tag at = field_next (field_at s at tag (body_length (head_of s) tag)) at

  unfoldable pub led : ℕ → ℕ → ℕ → Verdict
  led zero tag at = test (eqb at (length s)) 9 at
  led (suc k) tag at = tests tag at ⨾ led k (tag + 1) (goes tag at)

  -- no field is left
  pub ends : (k tag at : ℕ) → k ≡ 0 → led k tag at ≡ test (eqb at (length s)) 9 at
  unfolding led
  ends zero tag at e = refl
  ends (suc k) tag at e = absurd (omega (arith, e))

  -- one is
  turn : (k tag at : ℕ) → 1 ≤ k → led k tag at ≡ tests tag at ⨾ led (k - 1) (tag + 1) (goes tag at)
  unfolding led
  turn zero tag at h = absurd (omega (arith, h))
  turn (suc k) tag at h = let e : suc k - 1 ≡ k = omega arith in rw e refl

  module _ (k tag at : ℕ) (low : 1 ≤ k) (due : led k tag at ≡ fields s) where
    -- it is refused, and so are the fields
    pub refuses : (why : Refusal) → tests tag at ≡ Err why → Err why ≡ fields s
    refuses why e = sym (ap (λ (w : Verdict). w ⨾ led (k - 1) (tag + 1) (goes tag at)) e) ∙ sym (turn k tag at low) ∙ due

    -- it is accepted, and the rest is due
    pub goes_on : (done : Unit {0}) → tests tag at ≡ Ok done → led (k - 1) (tag + 1) (goes tag at) ≡ fields s
    goes_on done e = sym (ap (λ (w : Verdict). w ⨾ led (k - 1) (tag + 1) (goes tag at)) e) ∙ sym (turn k tag at low) ∙ due

  -- a field that is accepted is passed
  passes : (tag at : ℕ) → field_verdict s at tag (body_length (head_of s) tag) ≡ accepted → goes tag at ≡ at + 3 + body_length (head_of s) tag
  unfolding field_at
  passes tag at e = rw e

  -- a field that is not the first, and what follows it
  on : (k tag at : ℕ) (rest : Verdict) → eqb tag 1 ≡ false → led k (tag + 1) (at + 3 + body_length (head_of s) tag) ≡ rest →
      led (suc k) tag at ≡ field_verdict s at tag (body_length (head_of s) tag) ⨾ rest
  unfolding led
  on k tag at rest late e = by_verdict (field_verdict s at tag (body_length (head_of s) tag)) refl
    where
      by_verdict : (v : Verdict) → field_verdict s at tag (body_length (head_of s) tag) ≡ v → led (suc k) tag at ≡ v ⨾ rest
      by_verdict (Ok done) f =
          ap (λ (w : Verdict). w ⨾ cond (eqb tag 1) (sizes (head_of s)) accepted ⨾ led k (tag + 1) (goes tag at)) (answer-says s at tag _ ∙ f)
          ∙ ap (λ (b : Bool). cond b (sizes (head_of s)) accepted ⨾ led k (tag + 1) (goes tag at)) late
          ∙ ap (λ (p : ℕ). led k (tag + 1) p) (passes tag at f) ∙ e
      by_verdict (Err why) f = ap (λ (w : Verdict). w ⨾ cond (eqb tag 1) (sizes (head_of s)) accepted ⨾ led k (tag + 1) (goes tag at))
          (answer-says s at tag _ ∙ f)

  -- the four
  pub starts : led 4 1 0 ≡ fields s
  unfolding led fields
  starts = by_verdict (field_verdict s 0 1 4) refl ∙ sym (from_the_end (field_verdict s 0 1 4 ⨾ sizes (head_of s)) _ _ _ _)
    where
      chain : Verdict
      chain = field_verdict s second_at 2 (body_length (head_of s) 2)
          ⨾ (field_verdict s (third_at s) 3 (body_length (head_of s) 3)
          ⨾ (field_verdict s (fourth_at s) 4 (body_length (head_of s) 4) ⨾ test (eqb (end_at s) (length s)) 9 (end_at s)))

      by_verdict : (v : Verdict) → field_verdict s 0 1 4 ≡ v → led 4 1 0 ≡ v ⨾ sizes (head_of s) ⨾ chain
      by_verdict (Ok done) f =
          ap (λ (w : Verdict). w ⨾ sizes (head_of s) ⨾ led 3 2 (goes 1 0)) (answer-says s 0 1 4 ∙ f)
          ∙ ap (λ (p : ℕ). sizes (head_of s) ⨾ led 3 2 p) (passes 1 0 f)
          ∙ ap (λ (w : Verdict). sizes (head_of s) ⨾ w) (on 2 2 second_at _ refl (on 1 3 (third_at s) _ refl (on 0 4 (fourth_at s) _ refl refl)))
      by_verdict (Err why) f = ap (λ (w : Verdict). w ⨾ sizes (head_of s) ⨾ led 3 2 (goes 1 0)) (answer-says s 0 1 4 ∙ f)
