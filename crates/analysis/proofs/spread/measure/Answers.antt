-- `measure`: no product leaves its words, so the difference of the two sums of squares is Q, which is not below 0.
use Rattle.std.proofs.Common.{ℕ, ◌+◌, ◌-◌, ◌*◌, ap, ◌∙◌, mul_comm, mul-le-mul, arith}
use Rattle.records.specs.declared.Wide.{Wide}
use Rattle.meaning.specs.Design.{objects, blocks}
use Rattle.meaning.specs.Wide.{value, wide}
use Rattle.design.proofs.Within.{within-sizes}
use Rattle.arithmetic.specs.Hundredths.{spreading_from}
use Rattle.arithmetic.proofs.Words.{exact}
use Rattle.analysis.proofs.spread.measure.Goals as goal

pub returns : goal.returns
returns c =
    let a = c.args in
    let r = c.requires in
    let product = exact (value a.readings * a.vbeta) (omega (arith, mul-le-mul r.readings-most r.vbeta-most)) c.times-scaled.ensures in
    let q = c.subtract-q.ensures ∙ ap (λ (n : ℕ). wide (n - value a.totals)) (product ∙ mul_comm (value a.readings) a.vbeta) in
    c.spread_from.ensures
    ∙ ap (λ (w : Wide). spreading_from w a.vbeta (blocks a.head + 1 - c.objects.result)) q
    ∙ ap (λ (v : ℕ). spreading_from (wide (a.vbeta * value a.readings - value a.totals)) a.vbeta (blocks a.head + 1 - v))
    (c.objects.ensures ∙ within-sizes _ _ r.sizes)
