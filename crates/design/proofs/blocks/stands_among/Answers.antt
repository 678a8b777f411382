use Rattle.std.proofs.Common.{◌∙◌}
use Rattle.design.proofs.blocks.Searches.{any-occurs}
use Rattle.design.proofs.blocks.stands_among.Goals as goal

pub returns : goal.returns
returns c = c.contains.ensures.value ∙ any-occurs c.args.byte c.args.bytes.now
