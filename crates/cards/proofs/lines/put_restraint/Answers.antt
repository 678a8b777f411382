-- `cards::lines::put_restraint`: its word, the members, the sum after its sign, a newline.
use borrow.Author.Rules.{rules}
use mir.Facts.{to_z-of_z}
use Rattle.algebra.proofs.Writing.{◌then◌, named}
use Rattle.meaning.specs.Text.{ascii}
use Rattle.cards.proofs.lines.put_restraint.Goals as goal

pub returns : goal.returns
unfolding ascii
returns c =
    named (c.put_text-word_end.ensures then (c.put_members-members_end.ensures then c.put_text-sign_end.ensures then c.put_signed-sum_end.ensures) then c.put_byte.ensures)
    (rw (to_z-of_z c.ranges.sum) (search rules))
