-- A sheet against a file: a refusal of reading stays, and past it the tests of the job decide no more than the number of the claims. Assumes nothing.
use Rattle.std.proofs.Common.{Option, Err}
use mathlib.Core.Path.{◌≡◌, refl, sym, ap, ◌∙◌}
use mathlib.Core.List.{List}
use Prim.Native.Nat.{ℕ}
use lib.IntN.{ℤ}
use Rattle.records.specs.declared.Refusal.{Refusal}
use Rattle.records.specs.declared.Spread.{Spread}
use Rattle.meaning.specs.Refusals.{Verdict, ◌⨾◌, accepted}
use Rattle.meaning.specs.File.{head_of, read_verdict}
use Rattle.meaning.specs.Edition2.{four_of, read_verdict2}
use Rattle.meaning.specs.Sheet.{claims_fit, checked_under, file_comparison, file_answer, second_answer}
use Rattle.laws.proofs.Files.{file-job}
use Rattle.laws.proofs.Edition2.{file_job2}
use Rattle.job.specs.Direct.{direct_checked}

module _ (s : List ℕ) (claims : List ℤ) (claimed : Option Spread) where
  -- the first edition
  pub file-refused : (why : Refusal) → read_verdict s ≡ Err why → file_answer s claims claimed ≡ Err why
  file-refused why e = rw e refl

  pub file-held : read_verdict s ≡ accepted → direct_checked s claims claimed ≡ file_answer s claims claimed
  file-held e =
      ap (λ (v : Verdict). checked_under (v ⨾ claims_fit (head_of s) claims) (file_comparison s claims claimed)) ((file-job s e).1 ∙ sym e)

  -- the second
  pub second-refused : (why : Refusal) → read_verdict2 s ≡ Err why → second_answer s claims claimed ≡ Err why
  second-refused why e = rw e refl

  pub second-held : read_verdict2 s ≡ accepted → direct_checked (four_of s) claims claimed ≡ second_answer s claims claimed
  second-held e =
      ap (λ (v : Verdict). checked_under (v ⨾ claims_fit (head_of (four_of s)) claims) (file_comparison (four_of s) claims claimed))
      ((file-job (four_of s) (file_job2 s e).1).1 ∙ sym e)
