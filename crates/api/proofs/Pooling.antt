-- The call on several jobs returns 0 exactly where it accepts, as every other one (Zero): each of its tests has a number from 1 on. Assumes nothing.
use mathlib.Core.Bool.{◌&&◌}
use mathlib.Core.Path.{◌≡◌, refl}
use mathlib.Core.List.{List, [], ◌∷◌}
use Prim.Native.Nat.{ℕ}
use lib.Dec.{eqb, ltb, leb}
use lib.Ieee.{Float}
use lib.ListN.{length}
use Rattle.meaning.specs.Refusals.{accepted}
use Rattle.meaning.specs.Pooled.{pool_limit, lengths_sum, jobs_in, first_bad, odd_job, one_kind, jobs_verdict, pooled_verdict, pooled_answer}
use Rattle.slots.specs.Pools.{pooled_call, pooled_told}
use Rattle.slots.proofs.Numbered.{Numbered, numbered_test, numbered_then}
use Rattle.slots.proofs.Indexed.{indexed_zero}
use Rattle.api.proofs.Zero.{room_numbered, file_numbered}

-- of some jobs
bad_numbered : (js : List (List ℕ)) → Numbered (first_bad js)
unfolding first_bad
bad_numbered [] = record { unless = λ e. refl }
bad_numbered (s ∷ js) = numbered_then (file_numbered s) (bad_numbered js)

module _ (bytes lengths answer : List ℕ) (real : List Float) where
  pub pool_numbered : Numbered (pooled_call (pooled_answer bytes lengths) answer real)
  unfolding pooled_call pooled_verdict jobs_verdict one_kind
  pool_numbered =
      let js = jobs_in bytes lengths in
      let cut = numbered_test (ltb 0 (length lengths) && leb (length lengths) pool_limit && eqb (lengths_sum lengths) (length bytes)) 17 0 in
      let jobs = numbered_then (bad_numbered js) (numbered_test (eqb (odd_job js) (length js)) 16 0) in
      numbered_then (numbered_then (numbered_then cut jobs) (room_numbered (length answer) 6)) (room_numbered (length real) 1)

  -- the call accepts where it returns 0
  pub pool-zero : pooled_told (pooled_answer bytes lengths) answer real ≡ 0 → pooled_call (pooled_answer bytes lengths) answer real ≡ accepted
  pool-zero e = indexed_zero _ _ pool_numbered e
