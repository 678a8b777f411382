-- How many ones a word has: at most 64, and one at least where it holds an object.
use Rattle.std.proofs.Common.{◌≡◌, ℕ, ◌^◌, ◌≤◌, ◌<◌, arith}
use Rattle.algebra.specs.Ranges.{sum_ℕ}
use Rattle.algebra.proofs.Sums.{sumℕ-others}
use Rattle.meaning.specs.Analysis.{member, members}
use Rattle.laws.proofs.Solution.{members-most}
use Rattle.words.proofs.Bits.{one_below}

-- a word has at most 64 ones
pub few : (w : ℕ) → sum_ℕ 64 (member w) ≤ 64
unfolding members
few w = members-most 64 w

-- an object that a set holds is one of its ones
pub some : (w i : ℕ) → w < 2 ^ 64 → member w i ≡ 1 → 0 < sum_ℕ 64 (member w)
some w i f h = omega (arith, h, sumℕ-others 64 i (member w) (one_below 64 w i f h))
