-- `cards::optional::put_other`: the bytes up to the end of the file are what stands there.
use Rattle.std.proofs.Common.{rules, ◌+◌, refl}
use Rattle.algebra.proofs.Writing.{named, ◌then◌}
use Rattle.meaning.specs.Text.{ascii}
use Rattle.cards.proofs.optional.Parts.{part-found}
use Rattle.cards.proofs.optional.put_other.Goals as goal

pub returns : goal.returns
unfolding ascii
returns c =
    named
    (c.put_text-word_end.ensures then c.put_hex-tag_end.ensures then c.put_byte-space_end.ensures then c.put_body-body_end.ensures then c.put_byte.ensures)
    (rw (
      c.byte.ensures,
      part-found c.args.file.now (c.args.place + 3) c.from-told.result _ _ _ c.min-start.ensures c.min-end.ensures refl,
      c.from-told.ensures,
      c.two_bytes.ensures,
    ) (search rules))
