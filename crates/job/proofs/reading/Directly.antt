-- The verdict of a direct call on what a file holds, moved, is that of reading; and refused fields refuse the file. Assumes nothing.
use Rattle.std.proofs.Common.{Err}
use Prim.Native.Nat.{ℕ, ◌≤◌}
use mathlib.Core.Path.{◌≡◌, refl, sym}
use mathlib.Core.List.{List}
use native.Mathlib.Omega.{arith}
use lib.IntN.{ℤ}
use Rattle.records.specs.declared.Held.{Held}
use Rattle.records.specs.declared.Refusal.{Refusal}
use Rattle.meaning.specs.Refusals.{accepted, place}
use Rattle.meaning.specs.Calls.{job_verdict}
use Rattle.meaning.specs.File.{head_of, blocks_of, set_of, sum_of, readings_of, fields, placed, read_verdict}
use Rattle.laws.proofs.Files.{read-moved}
use Rattle.fields.specs.Contents.{held_in}
use Rattle.job.specs.Direct.{direct_verdict, place_limit}
use Rattle.job.proofs.places.Places.{job-place, file-most}

-- a direct call that is handed what the file holds
pub job-held : (s : List ℕ) (k : Held) (d : List ℕ) (y : List ℤ) (M : ℤ) → k ≡ held_in s → d ≡ blocks_of s → y ≡ readings_of s → M ≡ sum_of s
    → job_verdict k.head d y k.set M ≡ direct_verdict s
job-held s k d y M held listed readings sum = rw (held, listed, readings, sum)

-- refused fields refuse the file
pub read_unfit : (s : List ℕ) (why : Refusal) → fields s ≡ Err why → read_verdict s ≡ Err why
unfolding read_verdict
read_unfit s why e = rw e refl

-- its verdict has a place within the limit, and, moved, is that of reading
module _ (s : List ℕ) (there : fields s ≡ accepted) where
  pub direct-near : place (direct_verdict s) ≤ place_limit
  direct-near = omega (arith, job-place (head_of s) (blocks_of s) (readings_of s) (set_of s) (sum_of s), file-most s there)

  pub read-direct : placed s (direct_verdict s) ≡ read_verdict s
  read-direct = sym (read-moved s there)
