-- What an answer tells: the verdict of the field's tests. Assumes nothing.
use Rattle.std.proofs.Common.{Ok, Err}
use Prim.Native.Nat.{ℕ}
use mathlib.Core.Path.{◌≡◌, refl}
use mathlib.Core.List.{List}
use Rattle.meaning.specs.Refusals.{Verdict}
use Rattle.meaning.specs.File.{field_verdict, field_under, field_at, field_says}

-- the verdict of an answer that a verdict gives is that verdict
says : (verdict : Verdict) (at len : ℕ) → field_says (field_under verdict at len) ≡ verdict
says (Ok done) at len = refl
says (Err why) at len = refl

module _ (s : List ℕ) (at tag len : ℕ) where
  -- an answer has the verdict of the field's tests
  pub answer-says : field_says (field_at s at tag len) ≡ field_verdict s at tag len
  unfolding field_at
  answer-says = says (field_verdict s at tag len) at len
