-- The job file as it is written, field after field, by the lengths that reading goes by, and what the call that writes it answers. Assumes nothing.
use Rattle.std.specs.Prelude.{ℕ, zero, suc, ◌+◌, ◌-◌, ◌*◌, ◌/◌, ◌%◌, ◌^◌, ◌<◌, ◌≡◌, List, [], ◌∷◌, ◌++◌, get_or, drop, length, ℤ, pos, negsuc}
use Rattle.records.specs.declared.Head.{Head}
use Rattle.records.specs.declared.JobWritten.{JobWritten}
use Rattle.meaning.specs.Design.{blocks, list_length}
use Rattle.meaning.specs.Refusals.{Verdict, accepted, ◌⨾◌, room}
use Rattle.meaning.specs.Calls.{given, job_verdict}
use Rattle.meaning.specs.File.{body_length, head_of, blocks_of, readings_of, set_of, sum_of, read_verdict}

-- every entry of a list is a byte
abbrev pub Bytes : List ℕ → Type 0
Bytes s = (i : ℕ) → i < length s → get_or s i 0 < 256

-- x in c bytes, the highest first
unfoldable pub bytes_of : ℕ → ℕ → List ℕ
bytes_of zero x = []
bytes_of (suc c) x = bytes_of c (x / 256) ++ (x % 256 ∷ [])

-- a signed number as w bits
abbrev pub wrapped : ℕ → ℤ → ℕ
wrapped w (pos x) = x
wrapped w (negsuc x) = 2 ^ w - suc x

-- ---- the bodies of the fields: the sizes, the restraint set with its accepted sum M, the readings; that of the second field is the block list itself

abbrev pub sizes_body : Head → List ℕ
sizes_body h = h.n ∷ h.flag ∷ h.p ∷ h.m ∷ []

abbrev pub restraint_body : ℕ → ℤ → List ℕ
restraint_body w M = bytes_of 8 w ++ bytes_of 8 (wrapped 64 M)

unfoldable pub readings_body : List ℤ → List ℕ
readings_body [] = []
readings_body (y ∷ ys) = bytes_of 4 (wrapped 32 y) ++ readings_body ys

-- ---- the file

-- a field: its tag, its length in two bytes, its body
abbrev pub field_bytes : Head → ℕ → List ℕ → List ℕ
field_bytes h tag body = tag ∷ bytes_of 2 (body_length h tag) ++ body

-- the file of a job: the four fields, one after another
unfoldable pub file_of : Head → List ℕ → List ℤ → ℕ → ℤ → List ℕ
file_of h d y w M = field_bytes h 1 (sizes_body h) ++ field_bytes h 2 d ++ field_bytes h 3 (restraint_body w M) ++ field_bytes h 4 (readings_body y)

-- how many bytes it has: 32 + 2pm + 4b
abbrev pub file_length : Head → ℕ
file_length h = 32 + list_length h + 4 * blocks h

-- a file reads as a job: it is accepted, and this is what it holds
pub record ReadsAs (s : List ℕ) (h : Head) (d : List ℕ) (y : List ℤ) (w : ℕ) (M : ℤ) : Type 0 where
  pub accepts : read_verdict s ≡ accepted
  pub head : head_of s ≡ h
  pub blocks : blocks_of s ≡ d
  pub readings : readings_of s ≡ y
  pub set : set_of s ≡ w
  pub sum : sum_of s ≡ M

-- ---- the call

-- the verdict of writing into room for len bytes: the tests of a whole job, as a direct call makes them, and the room last
unfoldable pub write_verdict : Head → List ℕ → List ℤ → ℕ → ℤ → ℕ → Verdict
write_verdict h d y w M len = job_verdict h d y w M ⨾ room len (file_length h)

-- the answer: how many bytes were written
abbrev pub written_answer : Head → List ℕ → List ℤ → ℕ → ℤ → ℕ → JobWritten
written_answer h d y w M len = let verdict = write_verdict h d y w M len in record { verdict = verdict; length = given verdict (file_length h) 0 }

-- the room after: the file at its front, and later bytes stay
abbrev pub written_after : Head → List ℕ → List ℤ → ℕ → ℤ → List ℕ → List ℕ
written_after h d y w M out = given (write_verdict h d y w M (length out)) (file_of h d y w M ++ drop (file_length h) out) out
