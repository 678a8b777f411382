-- What is told says all that a verdict says: its number, and its place below 2^48; and it is 0 exactly where the verdict accepts. Assumes nothing.
use Rattle.std.proofs.Common.{Ok, Err}
use Prim.Native.Nat.{ℕ, suc, ◌/◌, ◌%◌, ◌<◌}
use mathlib.Core.Path.{◌≡◌, refl}
use mathlib.Core.Bool.{Bool, true, false}
use native.Mathlib.Omega.{arith}
use Rattle.meaning.specs.Refusals.{Verdict, accepted, number, place, test, ◌⨾◌}
use Rattle.slots.specs.Told.{told}

-- the number is in the lowest eight bits
pub told-number : (v : Verdict) → number v < 256 → told v % 256 ≡ number v
told-number v l = omega arith

-- the place stands from the seventeenth bit on
pub told-place : (v : Verdict) → number v < 256 → place v < 281474976710656 → told v / 65536 ≡ place v
told-place v l m = omega arith

-- a verdict whose refusals have numbers from 1 on
pub record Numbered (v : Verdict) : Type 0 where
  pub unless : number v ≡ 0 → v ≡ accepted

-- it accepts where what is told is 0; what is told of an accepting one is 0
pub told-zero : (v : Verdict) → Numbered v → told v ≡ 0 → v ≡ accepted
told-zero v n e = n.unless (omega arith)

pub told-accepted : told accepted ≡ 0
told-accepted = refl

-- a test is such
pub numbered_test : (t : Bool) (k at : ℕ) → Numbered (test t (suc k) at)
numbered_test true k at = record { unless = λ e. refl }
numbered_test false k at = record { unless = λ e. absurd (omega arith) }

-- and so is one such after another
pub numbered_then : {a b : Verdict} → Numbered a → Numbered b → Numbered (a ⨾ b)
numbered_then {a = Ok done} m n = n
numbered_then {a = Err why} m n = m
