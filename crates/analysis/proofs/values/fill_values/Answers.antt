-- `fill_values`: a turn lays the numerator of its object, and all that it is made from fits. Assumes nothing.
use Rattle.std.proofs.Common.{◌≡◌, ℕ, ◌*◌, ◌^◌, ◌<◌, ◌≤◌, List, ℤ, pos, nat_abs, ap, ◌∙◌, mul-le-mul, arith, lit<, w64, Fits}
use mir.Facts.{to_z_pos}
use Rattle.algebra.specs.Ranges.{sum_ℕ}
use Rattle.algebra.proofs.Filling.{over_none, over-step}
use Rattle.algebra.proofs.Numbers.{Num, called, number, param, unsigned, minus, minus_fits, times, times_fits, plus, plus_fits}
use Rattle.meaning.specs.Analysis.{member, members, denominator}
use Rattle.meaning.specs.Refusals.{sum_limit}
use Rattle.laws.specs.Limits.{total_limit}
use Rattle.laws.proofs.Solution.{members-most}
use Rattle.words.proofs.Members.{ones_members}
use Rattle.analysis.specs.Worked.{total_at, Totalled, over_set}
use Rattle.analysis.proofs.Working.{set-small, held_by}
use Rattle.analysis.proofs.values.fill_values.Goals as goal

module _ (totals : List ℤ) (v set vbeta : ℕ) (M : ℤ) (totalled : Totalled totals v) (inside : set < 2 ^ v) (scaled : vbeta ≤ 2600)
    (most : nat_abs M ≤ sum_limit) (t : ℕ) (ones : t ≡ sum_ℕ 64 (member set)) where
  counted : t ≡ members v set
  counted = ones ∙ ones_members _ _ (omega (arith, totalled.few)) inside

  few : t ≤ 50
  few = omega (arith, counted, members-most v set, totalled.few)

  abbrev in_set : Num
  in_set = record {
    bits = t;
    num = pos (members v set);
    size = 50;
    reads = to_z_pos w64 (omega (arith, few)) ∙ ap pos counted;
    small = omega (arith, counted, few);
  }

  fits : Fits w64 (t * vbeta)
  fits = record { fits = omega (arith, mul-le-mul few scaled) }

  module _ (sum : ℤ) (summed : sum ≡ over_set set (total_at totals)) (i : ℕ) (more : i < v) where
    abbrev product : Num
    product = times in_set (number (total_at totals i) total_limit (totalled.most i more) (lit< tt)) (lit< tt)

    abbrev over-set : Num
    over-set = called sum (64 * total_limit) summed (set-small _ _ (held_by _ _ _ totalled inside)) (lit< tt)

    abbrev less : Num
    less = minus product over-set (lit< tt)

    abbrev lifted : Num
    lifted = times (unsigned vbeta 2600 scaled (lit< tt)) (param M sum_limit most (lit< tt)) (lit< tt)

    abbrev all : Num
    all = plus less lifted (lit< tt)

pub overflow_cast-members : goal.overflow_cast-members
overflow_cast-members c =
    let a = c.args in
    let q = c.requires in
    let small = few a.totals.now a.v a.set a.vbeta a.sum q.totalled q.v_in_bounds.1 q.v_in_bounds.2 q.v_in_bounds.3 _ c.ones-t.ensures in
    omega (arith, small)

pub set_sum-over_set-requires : goal.set_sum-over_set-requires
set_sum-over_set-requires c = held_by _ _ _ c.requires.totalled c.requires.v_in_bounds.1

pub loop-i-init : goal.loop-i-init
loop-i-init c = over_none _ _

pub overflow_mul-values : goal.overflow_mul-values
overflow_mul-values c =
    let a = c.args in
    let q = c.requires in
    times_fits (in_set a.totals.now a.v a.set a.vbeta a.sum q.totalled q.v_in_bounds.1 q.v_in_bounds.2 q.v_in_bounds.3 _ c.ones-t.ensures)
    (number (total_at a.totals.now c.loop-i.i) total_limit (q.totalled.most c.loop-i.i (omega arith)) (lit< tt)) (lit< tt)

pub overflow_sub-values : goal.overflow_sub-values
overflow_sub-values c =
    let a = c.args in
    let q = c.requires in
    minus_fits
    (product a.totals.now a.v a.set a.vbeta a.sum q.totalled q.v_in_bounds.1 q.v_in_bounds.2 q.v_in_bounds.3 _ c.ones-t.ensures _ c.set_sum-over_set.ensures
    c.loop-i.i (omega arith))
    (over-set a.totals.now a.v a.set a.vbeta a.sum q.totalled q.v_in_bounds.1 q.v_in_bounds.2 q.v_in_bounds.3 _ c.ones-t.ensures _ c.set_sum-over_set.ensures
    c.loop-i.i (omega arith)) (lit< tt)

pub overflow_add-values : goal.overflow_add-values
overflow_add-values c =
    let a = c.args in
    let q = c.requires in
    plus_fits
    (less a.totals.now a.v a.set a.vbeta a.sum q.totalled q.v_in_bounds.1 q.v_in_bounds.2 q.v_in_bounds.3 _ c.ones-t.ensures _ c.set_sum-over_set.ensures
    c.loop-i.i (omega arith))
    (lifted a.totals.now a.v a.set a.vbeta a.sum q.totalled q.v_in_bounds.1 q.v_in_bounds.2 q.v_in_bounds.3 _ c.ones-t.ensures _ c.set_sum-over_set.ensures
    c.loop-i.i (omega arith)) (lit< tt)

pub loop-i-preserved : goal.loop-i-preserved
loop-i-preserved c =
    let a = c.args in
    let q = c.requires in
    let laid = all a.totals.now a.v a.set a.vbeta a.sum q.totalled q.v_in_bounds.1 q.v_in_bounds.2 q.v_in_bounds.3 _ c.ones-t.ensures _
    c.set_sum-over_set.ensures c.loop-i.i (omega arith) in
    over-step c.loop-i.i _ _ c.loop-i.invariant laid.reads (omega arith)

pub overflow_mul-result : goal.overflow_mul-result
overflow_mul-result c =
    let a = c.args in
    let q = c.requires in
    fits a.totals.now a.v a.set a.vbeta a.sum q.totalled q.v_in_bounds.1 q.v_in_bounds.2 q.v_in_bounds.3 _ c.ones-t.ensures

pub returns-clause-value : goal.returns-clause-value
returns-clause-value c =
    let a = c.args in
    let q = c.requires in
    ap (λ (t : ℕ). denominator t a.vbeta)
    (counted a.totals.now a.v a.set a.vbeta a.sum q.totalled q.v_in_bounds.1 q.v_in_bounds.2 q.v_in_bounds.3 _ c.ones-t.ensures)
