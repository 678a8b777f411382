-- Too few bytes hold no field.
use Rattle.std.proofs.Common.{sym, arith}
use Rattle.laws.proofs.Edition2.{four-inside}
use Rattle.job.proofs.second.Fields.{part-is, nothing_there}
use Rattle.job.proofs.second.four_fields.Goals as goal

pub returns-then-bytes-lt-START_AT : goal.returns-then-bytes-lt-START_AT
returns-then-bytes-lt-START_AT c = sym (nothing_there c.args.bytes.now c.if-bytes-lt-START_AT.true)

pub slice_bounds-result-end-2 : goal.slice_bounds-result-end-2
slice_bounds-result-end-2 c = omega (arith, c.four_end.ensures, four-inside c.args.bytes.now (omega arith))

pub returns : goal.returns
returns c = part-is c.args.bytes.now c.four_end.result c.four_end.ensures
