use Rattle.std.proofs.Common.{◌≡◌, ℕ, ◌≤◌, subst, arith, rules}
use Rattle.algebra.specs.Ranges.{sum_ℕ}
use Rattle.algebra.proofs.Sums.{sumℕ-more}
use Rattle.laws.proofs.Chains.{sound}
use Rattle.design.specs.Differences.{More, within_of, across_of, no_row}
use Rattle.design.proofs.differences.Counting.{none-counted, more-twice, blocks-row, within-most, across-most, company-row, opposition-row}
use Rattle.design.proofs.differences.count_blocks.Goals as goal

pub loop-j-init : goal.loop-j-init
loop-j-init c = record { within = none-counted _ _ c.requires.1; across = none-counted _ _ c.requires.2 }

pub count_block-requires : goal.count_block-requires
count_block-requires c =
    let h = c.args.addition.head in
    let d = c.args.blocks.now in
    let l = c.loop-j in
    let design = sound h d c.requires.0 in
    let few : l.j ≤ 64 = omega (arith, design.sizes.m_most) in (
      c.requires.0,
      search rules,
      blocks-row (within_of h d) l.j l.within few l.invariant.within (λ e q m. within-most h d design e q (omega arith)),
      blocks-row (across_of h d) l.j l.across few l.invariant.across (λ e q m. across-most h d design e q (omega arith)),
    )

pub loop-j-preserved : goal.loop-j-preserved
loop-j-preserved c =
    let h = c.args.addition.head in
    let d = c.args.blocks.now in
    let l = c.loop-j in
    let one = c.count_block.ensures in record {
      within = more-twice _ _ _ no_row l.within _ l.invariant.within one.more (λ e. sumℕ-more l.j (within_of h d e));
      across = more-twice _ _ _ no_row l.across _ l.invariant.across one.more_2 (λ e. sumℕ-more l.j (across_of h d e));
    }

pub returns-clause-within_after : goal.returns-clause-within_after
returns-clause-within_after c =
    let h = c.args.addition.head in
    let d = c.args.blocks.now in
    let l = c.loop-j in
    let all : l.j ≡ h.m = omega arith in
    company-row h d (sound h d c.requires.0) l.within (subst (λ (k : ℕ). More (λ e. sum_ℕ k (within_of h d e)) no_row l.within) all l.invariant.within)

pub returns-clause-across_after : goal.returns-clause-across_after
returns-clause-across_after c =
    let h = c.args.addition.head in
    let d = c.args.blocks.now in
    let l = c.loop-j in
    let all : l.j ≡ h.m = omega arith in
    opposition-row h d (sound h d c.requires.0) l.across (subst (λ (k : ℕ). More (λ e. sum_ℕ k (across_of h d e)) no_row l.across) all l.invariant.across)
