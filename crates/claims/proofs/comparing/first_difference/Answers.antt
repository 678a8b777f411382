-- The first of all the claims that differs is the first of those that are left.
use lib.Signed.{mag}
use Rattle.std.proofs.Common.{◌<◌, ◌^◌, arith, ap, sym, ◌∙◌, rules, ◌≡◌, length}
use mir.Syntax.{w64}
use mir.Val.{to_z, of_z}
use lib.IntN.{pos}
use Rattle.std.specs.Option.{unwrap_or}
use Rattle.algebra.proofs.Signs.{read_back}
use Rattle.algebra.proofs.Tests.{first-here, first_on, first-end}
use Rattle.meaning.specs.Sheet.{claim, differs_at}
use Rattle.claims.proofs.Sheets.{off-right, off-differs}
use Rattle.claims.proofs.comparing.first_difference.Goals as goal

pub loop-i-init : goal.loop-i-init
unfolding differs_at
loop-i-init c = search rules

pub returns-then-claim-unwrap_or : goal.returns-then-claim-unwrap_or
returns-then-claim-unwrap_or c =
    let right = c.unwrap_or.ensures ∙ ap (λ o. unwrap_or o (pos 0)) c.copied.ensures ∙ c.get.ensures.lookup.4 (omega arith) (pos 0) in
    let differs =
    off-differs (length c.args.claims.now) (claim c.args.hundredths.now) c.args.claims.now c.loop-i.i
    (λ e. c.if-claim-unwrap_or.true (ap (of_z w64) (e ∙ sym right))) in
    sym (c.loop-i.invariant ∙ first-here _ _ c.loop-i.i c.loop-i-test.true differs)

pub loop-i-preserved : goal.loop-i-preserved
loop-i-preserved c =
    let right = c.unwrap_or.ensures ∙ ap (λ o. unwrap_or o (pos 0)) c.copied.ensures ∙ c.get.ensures.lookup.4 (omega arith) (pos 0) in
    let z = claim c.args.claims.now c.loop-i.i in
    let fits : mag z < 2 ^ 63 = search rules in
    let same : z ≡ c.unwrap_or.result = sym (read_back z fits) ∙ ap (to_z w64) c.if-claim-unwrap_or.false ∙ read_back c.unwrap_or.result (search rules) in
    let agrees = off-right (length c.args.claims.now) (claim c.args.hundredths.now) c.args.claims.now c.loop-i.i (same ∙ right) in
    c.loop-i.invariant ∙ first_on _ _ c.loop-i.i c.loop-i-test.true agrees

pub returns : goal.returns
returns c =
    let l = c.loop-i in
    let end : l.i ≡ length c.args.claims.now = omega arith in
    sym (l.invariant ∙ first-end _ _ l.i end)
