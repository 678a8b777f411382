-- `fill_deviations`: a turn adds the square of a reading, and lays the deviation numerator of its block. Assumes nothing.
use Rattle.std.proofs.Common.{◌≡◌, ℕ, ◌+◌, ◌*◌, ◌<◌, ◌≤◌, List, get_or, ℤ, ap, ◌∙◌, nat_abs, arith, lit<, rules}
use Rattle.algebra.proofs.Filling.{over_none, over-step}
use Rattle.algebra.proofs.Numbers.{Num, called, unsigned, minus, minus_fits, times}
use Rattle.meaning.specs.Analysis.{reading}
use Rattle.meaning.specs.Refusals.{reading_limit}
use Rattle.laws.specs.Limits.{total_limit}
use Rattle.weighing.specs.Developed.{Weighed}
use Rattle.weighing.proofs.SquareSums.{squares-none, squares-more}
use Rattle.analysis.specs.Worked.{total_at, Held, fitted_in}
use Rattle.analysis.proofs.Working.{fitted_small}
use Rattle.analysis.proofs.deviations.fill_deviations.Goals as goal

module _ (words : List ℕ) (readings totals : List ℤ) (b vbeta k : ℕ) (y fitted : ℤ) (weighed : Weighed words readings b)
    (held : (c : ℕ) → c < 2 * b → Held totals (get_or words c 0)) (scaled : vbeta ≤ 2600) (more : k < b) (read : y ≡ reading readings k)
    (fits : fitted ≡ fitted_in words (total_at totals) k) where
  abbrev product : Num
  product = times (unsigned vbeta 2600 scaled (lit< tt)) (called y reading_limit read (weighed.readings-most k more) (lit< tt)) (lit< tt)

  abbrev fit : Num
  fit = called fitted (128 * total_limit) fits (fitted_small words totals k (held (2 * k) (omega arith)) (held (2 * k + 1) (omega arith))) (lit< tt)

  abbrev deviation : Num
  deviation = minus product fit (lit< tt)

pub loop-k-init : goal.loop-k-init
loop-k-init c = (squares-none c.args.readings.now, over_none _ _)

pub overflow_sub-deviations : goal.overflow_sub-deviations
overflow_sub-deviations c =
    let a = c.args in
    let q = c.requires in
    let read : c.from-y.result ≡ reading a.readings.now c.loop-k.k = search (rules, c.from-y.ensures) in
    minus_fits (product a.words.now a.readings.now a.totals.now a.b a.vbeta c.loop-k.k _ _ q.weighed q.by_index q.b_in_bounds.1 (omega arith) read
    c.fitted.ensures)
    (fit a.words.now a.readings.now a.totals.now a.b a.vbeta c.loop-k.k _ _ q.weighed q.by_index q.b_in_bounds.1 (omega arith) read c.fitted.ensures) (lit< tt)

pub loop-k-preserved : goal.loop-k-preserved
loop-k-preserved c =
    let a = c.args in
    let q = c.requires in
    let k = c.loop-k.k in
    let read : c.from-y.result ≡ reading a.readings.now k = search (rules, c.from-y.ensures) in
    let sized : c.unsigned_abs.result ≡ nat_abs c.from-y.result = search (rules, c.unsigned_abs.ensures.value) in
    let laid = deviation a.words.now a.readings.now a.totals.now a.b a.vbeta k _ _ q.weighed q.by_index q.b_in_bounds.1 (omega arith) read c.fitted.ensures in (
      squares-more a.readings.now k c.loop-k.invariant.0 (sized ∙ ap nat_abs read) c.add_square-squares.ensures,
      over-step k _ _ c.loop-k.invariant.1 laid.reads (omega arith),
    )
