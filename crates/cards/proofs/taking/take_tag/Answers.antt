-- `cards::taking::take_tag`: a tag is two digits.
use Rattle.std.proofs.Common.{◌≡◌, true, arith, rules}
use Rattle.meaning.specs.Card.{is_tag}
use Rattle.cards.proofs.hexadecimal.Digits.{tag_long, tag_first, tag_second}
use Rattle.cards.proofs.taking.take_tag.Goals as goal

pub hex_byte-requires : goal.hex_byte-requires
hex_byte-requires c =
    let w = c.args.word.now in
    let tag : is_tag c.args.card.count w ≡ true = search rules in
    (omega (arith, tag_long c.args.card.count w tag), tag_first c.args.card.count w tag, tag_second c.args.card.count w tag)
