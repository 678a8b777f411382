-- `lines::put_design`: its word, six numbers, a newline. Assumes nothing.
use Rattle.algebra.proofs.Writing.{◌then◌, named}
use Rattle.meaning.specs.Text.{ascii}
use borrow.Author.Rules.{rules}
use Rattle.listing.proofs.lines.put_design.Goals as goal

pub returns : goal.returns
unfolding ascii
returns c =
    named (c.put_text-word_end.ensures then
    (c.put_number-v_end.ensures then c.put_number-b_end.ensures then c.put_number-r_end.ensures then c.put_number-p_end.ensures then c.put_number-l1_end.ensures
    then c.put_number-l2_end.ensures) then c.put_byte.ensures) (search rules)
