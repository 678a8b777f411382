-- `certifying::put_design`: its words and numbers in turn, a newline. Assumes nothing.
use borrow.Author.Rules.{rules}
use Rattle.algebra.proofs.Writing.{◌then◌, named}
use Rattle.meaning.specs.Text.{ascii}
use Rattle.listing.proofs.certifying.put_design.Goals as goal

pub returns : goal.returns
unfolding ascii
returns c =
    named (c.put_text-v_name.ensures then
    (c.put_number-v_end.ensures then c.put_text-b_name.ensures then c.put_number-b_end.ensures then c.put_text-r_name.ensures then c.put_number-r_end.ensures then c.put_text-p_name.ensures then c.put_number-p_end.ensures then c.put_text-l1_name.ensures then c.put_number-l1_end.ensures then c.put_text-l2_name.ensures then c.put_number-l2_end.ensures)
    then c.put_byte.ensures) (search rules)
