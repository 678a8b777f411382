-- Jobs pooled: what one accepted file adds is small, so the sums over 64 of them keep their range, and nothing that is above two words is ever missed.
--     file-beta, file_q, file-freedom, file-vbeta    of one accepted file
--     pooled_q, pooled_freedom                        of several
-- Assumes nothing.
use Prim.Native.Nat.{ℕ, ◌-◌, ◌*◌, ◌≤◌, ◌<◌}
use mathlib.Core.Path.{◌≡◌}
use mathlib.Core.List.{List, [], ◌∷◌}
use native.Mathlib.Decide.{dec_le}
use native.Mathlib.Omega.{arith}
use lib.ListN.{length}
use Rattle.meaning.specs.Design.{company, opposition, beta}
use Rattle.meaning.specs.Refusals.{accepted}
use Rattle.meaning.specs.File.{head_of, blocks_of, readings_of, set_of, sum_of, read_verdict}
use Rattle.meaning.specs.Pooled.{vbeta_in, qIn, freedom_in, first_bad, pooled_sum}
use Rattle.laws.specs.Limits.{qLimit}
use Rattle.laws.proofs.Chains.{Measured, job, opened}
use Rattle.laws.proofs.Files.{file-job}
use Rattle.laws.proofs.Analysis.{vbeta-some}
use Rattle.laws.proofs.SizesMost.{q_most, vbeta-most}

-- ---- one accepted file

module _ (s : List ℕ) (e : read_verdict s ≡ accepted) where
  -- its design and its readings
  pub file-measures : Measured (head_of s) (blocks_of s) (readings_of s)
  file-measures = (job (head_of s) (blocks_of s) (readings_of s) (set_of s) (sum_of s) (file-job s e).1).measures

  -- v·beta
  pub file-vbeta : (0 < vbeta_in s) × (vbeta_in s ≤ 2600)
  file-vbeta =
      let m = file-measures in
      (vbeta-some (head_of s) (blocks_of s) m.design m.even, vbeta-most (head_of s) (blocks_of s) m.design m.even)

  -- two objects oppose at least as often as they share a side
  pub file-beta : company (head_of s) (blocks_of s) 1 0 ≤ opposition (head_of s) (blocks_of s) 1 0
  unfolding beta
  file-beta = more (company (head_of s) (blocks_of s) 1 0) (opposition (head_of s) (blocks_of s) 1 0) _ file-vbeta.0
    where
      more : (a b v : ℕ) → 0 < v * (b - a) → a ≤ b
      more a b v l = choose (dec_le a b)
        where
          choose : Dec (a ≤ b) → a ≤ b
          choose (yes m) = m
          choose (no m) =
              let none : b - a ≡ 0 = omega arith in
              absurd (omega (arith, rw none at l))

  -- Q
  pub file_q : qIn s ≤ qLimit
  file_q = let m = file-measures in q_most (head_of s) (blocks_of s) m.design (readings_of s) m.readings m.even

  -- f
  pub file-freedom : freedom_in s ≤ 1300
  file-freedom = let z = file-measures.design.sizes in omega (arith, z.blocks-most, z.n_least)

-- ---- several

-- the sum of Q, where no job is bad
pub pooled_q : (js : List (List ℕ)) → first_bad js ≡ accepted → pooled_sum qIn js ≤ qLimit * length js
unfolding first_bad pooled_sum
pooled_q [] e = omega arith
pooled_q (s ∷ js) e =
    let o = opened (read_verdict s) (first_bad js) e in
    omega (arith, file_q s o.0, pooled_q js o.1)

-- the sum of f
pub pooled_freedom : (js : List (List ℕ)) → first_bad js ≡ accepted → pooled_sum freedom_in js ≤ 1300 * length js
unfolding first_bad pooled_sum
pooled_freedom [] e = omega arith
pooled_freedom (s ∷ js) e =
    let o = opened (read_verdict s) (first_bad js) e in
    let one = file-freedom s o.0 in
    let rest = pooled_freedom js o.1 in
    omega arith
