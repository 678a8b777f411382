-- `cards::hexadecimal::body_length`: by whether there are bytes.
use mathlib.Core.Path.{sym, ◌∙◌}
use lib.ListN.{length}
use Prim.Native.Nat.{◌/◌}
use Rattle.meaning.specs.Text.{ascii}
use Rattle.meaning.specs.Card.{body_of}
use Rattle.cards.proofs.hexadecimal.Digits.{hex_long}
use borrow.Author.Rules.{rules}
use Rattle.cards.proofs.hexadecimal.body_length.Goals as goal

pub returns : goal.returns
unfolding body_of ascii
returns c = rw (sym c.same.ensures ∙ c.if-same.false, hex_long (length c.args.word.now / 2) c.args.word.now) (search rules)
