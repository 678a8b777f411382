-- `sheets::numerals::is_decimal`: the digits of a word are behind its minus, where it has one.
use Rattle.std.proofs.Common.{ap, ◌∙◌, ℕ, List, [], ◌∷◌, Bor}
use Rattle.std.proofs.lemmas.Slice.Eq.{strip_prefix_is}
use Rattle.std.proofs.lemmas.Bool.Decides.{Decides-eqb}
use Rattle.sheets.specs.Arguments.{in_digits}
use Rattle.sheets.proofs.numerals.Digits.{behind_minus}
use Rattle.sheets.proofs.numerals.is_decimal.Goals as goal

pub returns : goal.returns
returns c =
    let w = c.args.word in
    let o = c.strip_prefix.result in
    c.is_digits.ensures
    ∙ ap (λ (x : Bor (List ℕ)). in_digits x.now) c.unwrap_or.ensures
    ∙ behind_minus w o (strip_prefix_is Decides-eqb w.now (45 ∷ []) o c.strip_prefix.ensures.cases)
