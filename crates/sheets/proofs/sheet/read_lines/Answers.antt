-- `sheets::sheet::read_lines`: before the first line, with one line more, and after the last one.
use Rattle.std.proofs.Common.{◌≡◌, ℕ, ◌+◌, eqb, List, length, ap, sym, ◌∙◌, arith, rules, tests, [], ◌∷◌, ◌++◌}
use mathlib.Core.Path.{ap₂}
use Rattle.records.specs.declared.SheetRead.{SheetRead}
use Rattle.std.proofs.lemmas.Iterator.Consumers.{YieldsList-from_enumerate, YieldsList-at, YieldsList-turn, YieldsList-end}
use Rattle.std.proofs.lemmas.Iterator.Splits.{YieldsList-from_slice_split}
use Rattle.std.proofs.lemmas.List.{length_push}
use Rattle.meaning.specs.SheetText.{with_line, added, put, read_to, claims_to, laid}
use Rattle.sheets.proofs.pieces.Cuts.{lines_are, line_here, occ_most}
use Rattle.sheets.proofs.sheet.Lines.{count_most, read_more, claim-more, nothing-laid, nothing_yet}
use Rattle.sheets.proofs.sheet.read_lines.Goals as goal

pub loop-k-init : goal.loop-k-init
loop-k-init c =
    let a = c.args in
    record { read = c.nothing_read-read.ensures ∙ nothing_yet a.bytes.now; claimed = nothing-laid a.bytes.now a.claims.now }

pub read_line-read-requires : goal.read_line-read-requires
read_line-read-requires c =
    let s = c.args.bytes.now in
    let l = c.loop-k in
    let turn = YieldsList-turn (YieldsList-at c.into_iter-k-iterator.ensures.into_iter_gives (YieldsList-from_enumerate
    (YieldsList-at c.enumerate-k-items.ensures.source (YieldsList-from_slice_split _ (λ b. eqb b 10) s c.split.ensures.rest c.split.ensures.done
    c.split.ensures.closure (λ x b q k. search (rules, tests)))) c.enumerate-k-items.ensures.count))
    l.yielded _ l.yielded_by _ _ _ c.in-Some.is c.next.ensures.steps in
    omega (arith, turn.0, lines_are s, occ_most 10 s, count_most (length l.yielded) s, ap (λ (r : SheetRead). r.count) l.invariant.read)

pub loop-k-preserved : goal.loop-k-preserved
loop-k-preserved c =
    let s = c.args.bytes.now in
    let l = c.loop-k in
    let n = length l.yielded in
    let turn = YieldsList-turn (YieldsList-at c.into_iter-k-iterator.ensures.into_iter_gives (YieldsList-from_enumerate
    (YieldsList-at c.enumerate-k-items.ensures.source (YieldsList-from_slice_split _ (λ b. eqb b 10) s c.split.ensures.rest c.split.ensures.done
    c.split.ensures.closure (λ x b q k. search (rules, tests)))) c.enumerate-k-items.ensures.count))
    l.yielded _ l.yielded_by _ _ _ c.in-Some.is c.next.ensures.steps in
    let here = line_here s n (c.in-Some.k, c.in-Some.line.now) turn.0 turn.1 in
    let more : length (l.yielded ++ (c.in-Some.k, c.in-Some.line) ∷ []) ≡ n + 1 = length_push l.yielded (c.in-Some.k, c.in-Some.line) in
    let one = c.read_line-read in
    record {
      read = one.ensures.value
          ∙ ap (λ (k : ℕ). with_line (k + 1) c.in-Some.line.now l.read) here.0
          ∙ ap₂ (with_line (n + 1)) here.1 l.invariant.read
          ∙ read_more n s
          ∙ ap (λ (k : ℕ). read_to k s) (sym more);
      claimed = one.ensures.claims_after
          ∙ ap₂ (λ (x : List ℕ) (r : SheetRead). put (added x r) r.count l.claims) here.1 l.invariant.read
          ∙ claim-more n s c.args.claims.now l.invariant.claimed
          ∙ ap (λ (k : ℕ). laid (claims_to k s) c.args.claims.now) (sym more);
    }

pub returns-clause-value : goal.returns-clause-value
returns-clause-value c =
    let s = c.args.bytes.now in
    let l = c.loop-k in
    let end = YieldsList-end (YieldsList-at c.into_iter-k-iterator.ensures.into_iter_gives (YieldsList-from_enumerate
    (YieldsList-at c.enumerate-k-items.ensures.source (YieldsList-from_slice_split _ (λ b. eqb b 10) s c.split.ensures.rest c.split.ensures.done
    c.split.ensures.closure (λ x b q k. search (rules, tests)))) c.enumerate-k-items.ensures.count))
    l.yielded _ l.yielded_by _ _ c.in-None.is c.next.ensures.steps in
    l.invariant.read ∙ ap (λ (k : ℕ). read_to k s) (end.1 ∙ lines_are s)

pub returns-clause-claims_after : goal.returns-clause-claims_after
returns-clause-claims_after c =
    let s = c.args.bytes.now in
    let l = c.loop-k in
    let end = YieldsList-end (YieldsList-at c.into_iter-k-iterator.ensures.into_iter_gives (YieldsList-from_enumerate
    (YieldsList-at c.enumerate-k-items.ensures.source (YieldsList-from_slice_split _ (λ b. eqb b 10) s c.split.ensures.rest c.split.ensures.done
    c.split.ensures.closure (λ x b q k. search (rules, tests)))) c.enumerate-k-items.ensures.count))
    l.yielded _ l.yielded_by _ _ c.in-None.is c.next.ensures.steps in
    l.invariant.claimed ∙ ap (λ (k : ℕ). laid (claims_to k s) c.args.claims.now) (end.1 ∙ lines_are s)
