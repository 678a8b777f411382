-- `sheets::pieces::piece`: the library's part k is piece k, and past the last part nothing stands.
use Rattle.std.proofs.Common.{ap, ◌∙◌, eqb, ℕ, List, [], Option, Bor, rules, tests}
use Rattle.std.specs.List.{slice_split}
use Rattle.std.specs.Option.{unwrap_or}
use Rattle.std.proofs.lemmas.Iterator.Consumers.{nth_from_yields_List}
use Rattle.std.proofs.lemmas.Iterator.Splits.{YieldsList-from_slice_split}
use Rattle.std.proofs.lemmas.Option.{unwrap_or-slice_get}
use Rattle.sheets.proofs.pieces.Cuts.{part_is_piece, unwrapped}
use Rattle.sheets.proofs.pieces.piece.Goals as goal

pub returns : goal.returns
returns c =
    let a = c.args in
    let s = a.bytes.now in
    let part = nth_from_yields_List _ _ a.k c.nth.ensures.ran
    (YieldsList-from_slice_split _ (λ b. eqb b a.byte) s c.split.ensures.rest c.split.ensures.done c.split.ensures.closure (λ x b q k. search (rules, tests))) in
    ap (λ (x : Bor (List ℕ)). x.now) c.unwrap_or.ensures
    ∙ unwrapped c.nth.result _
    ∙ ap (λ (o : Option (List ℕ)). unwrap_or o []) part
    ∙ unwrap_or-slice_get (slice_split (λ b. eqb b a.byte) s) a.k []
    ∙ part_is_piece a.byte s a.k
