-- `rank_of`: a turn counts at most one. Assumes nothing.
use Rattle.std.proofs.Common.{◌≡◌, ℕ, ◌+◌, ◌*◌, ◌≤◌, Bool, true, false, cond, ◌&&◌, eqb, ltb, List, sym, ap, ap₂, ◌∙◌, mul-le-mul, arith}
use mathlib.Core.Bool.{◌||◌}
use Rattle.algebra.specs.Ranges.{sum_ℕ}
use Rattle.algebra.proofs.Sums.{sumℕ-none, sumℕ-more}
use Rattle.meaning.specs.Analysis.{member}
use Rattle.meaning.specs.Publishing.{before, rank}
use Rattle.words.proofs.Bits.{bit-most}
use Rattle.analysis.specs.Column.{part_at}
use Rattle.analysis.proofs.publishing.rank_of.Goals as goal

one : (t : Bool) → cond t 1 0 ≤ 1
one true = omega arith
one false = omega arith

-- what a turn counts
module _ (parts : List ℕ) (set object i held goes : ℕ) (e : held ≡ member set i) (f : goes ≡ before (part_at parts) i object) where
  counted-most : held * goes ≤ 1
  counted-most =
      let a : held ≤ 1 = omega (arith, e, bit-most set i) in
      let b : goes ≤ 1 = omega (
        arith,
        f,
        one (ltb (part_at parts object) (part_at parts i) || eqb (part_at parts i) (part_at parts object) && ltb i object),
      ) in
      omega (arith, mul-le-mul a b)

  counted : (count : ℕ) → count ≡ sum_ℕ i (λ j. member set j * before (part_at parts) j object) →
      count + held * goes ≡ sum_ℕ (i + 1) (λ j. member set j * before (part_at parts) j object)
  counted count s = ap₂ (λ (a b : ℕ). a + b) s (ap₂ (λ (a b : ℕ). a * b) e f) ∙ sym (sumℕ-more i _)

pub loop-i-init : goal.loop-i-init
loop-i-init c = (sumℕ-none _, omega arith)

pub loop-i-preserved : goal.loop-i-preserved
loop-i-preserved c =
    let a = c.args in
    let goes : c.goes_before.result ≡ before (part_at a.parts.now) c.loop-i.i a.object = search c.goes_before.ensures in
    let most = counted-most a.parts.now a.set a.object c.loop-i.i _ _ c.holds.ensures goes in
    (counted a.parts.now a.set a.object c.loop-i.i _ _ c.holds.ensures goes _ c.loop-i.invariant.0, omega (arith, most))

pub returns : goal.returns
unfolding rank
returns c =
    let a = c.args in
    let e : c.loop-i.i ≡ 50 = omega arith in
    c.loop-i.invariant.0 ∙ ap (λ (n : ℕ). sum_ℕ n (λ j. member a.set j * before (part_at a.parts.now) j a.object)) e
