-- `cards::hexadecimal::all_hex`: each byte is tested, by the library's test of a digit.
use Rattle.std.proofs.Common.{rules, ◌∙◌}
use Rattle.std.specs.Char.{is_ascii_hexdigit}
use Rattle.std.proofs.lemmas.Iterator.{YieldsList-from_slice}
use Rattle.std.proofs.lemmas.Iterator.Search.{all_from_yields_List}
use Rattle.cards.proofs.hexadecimal.Digits.{every_hex}
use Rattle.cards.proofs.hexadecimal.all_hex.Goals as goal

pub returns : goal.returns
returns c =
    let w = c.args.word.now in
    all_from_yields_List is_ascii_hexdigit _ _ _ c.all.ensures.ran (YieldsList-from_slice w cc) (λ x b q k. search rules) ∙ every_hex w
