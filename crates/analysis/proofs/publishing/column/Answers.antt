-- `column`: each turn lays the hundredths of its object. Assumes nothing.
use Rattle.std.proofs.Common.{◌≡◌, ℕ, ◌/◌, pos, ap, ap₂, ◌∙◌, arith, rules}
use mathlib.Core.List.{replicate}
use Rattle.algebra.proofs.Signs.{read_back}
use Rattle.algebra.proofs.Filling.{over_none, over-step}
use Rattle.analysis.specs.Column.{numerator_at, part_at, parts_of, parts_in, hundredths_by, hundredths_from}
use Rattle.meaning.specs.Analysis.{member}
use Rattle.meaning.specs.Publishing.{rank}
use Rattle.analysis.proofs.Column.{parts-small, rank-laid, parts-laid}
use Rattle.analysis.proofs.publishing.column.Goals as goal

pub shared_out-shared-requires : goal.shared_out-shared-requires
shared_out-shared-requires c = parts-small c.args.numerators.now c.args.denominator c.parts_of-parts.result (search c.parts_of-parts.ensures)

pub loop-i-init : goal.loop-i-init
loop-i-init c = over_none _ _

pub loop-i-preserved : goal.loop-i-preserved
loop-i-preserved c =
    let i = c.loop-i.i in
    let numerators = c.args.numerators.now in
    let a = numerator_at numerators i in
    let d = c.args.denominator in
    let w = c.args.set in
    let parts = c.parts_of-parts.result in
    let laid : parts ≡ parts_of numerators d = search c.parts_of-parts.ensures in
    let ranked : c.rank_of-own.result ≡ rank 50 w (part_at parts) i = search c.rank_of-own.ensures in
    let shared : c.shared_out-shared.result ≡ parts_in (part_at parts) w / d = search c.shared_out-shared.ensures in
    let by : c.hundredths_at.result ≡ hundredths_by a d (member w i) c.rank_of-own.result c.shared_out-shared.result =
    search (c.hundredths_at.ensures, rules) in
    let is_this = by ∙ ap₂ (λ (own out : ℕ). hundredths_by a d (member w i) own out) (ranked ∙ rank-laid numerators d parts laid w i (omega arith))
    (shared ∙ ap (λ (n : ℕ). n / d) (parts-laid numerators d parts laid w)) in
    over-step i (hundredths_from numerators d w) (replicate 50 (pos 0)) c.loop-i.invariant
    (read_back c.hundredths_at.result c.hundredths_at.type_inv ∙ is_this) (omega arith)
