-- The rooms are enough for every file.
use Rattle.std.proofs.Common.{◌∙◌, arith}
use Rattle.job.proofs.pooling.Steps.{enough}
use Rattle.job.proofs.pooling.work_out.Goals as goal

pub returns : goal.returns
returns c = c.solve.ensures.value ∙ enough c.args.bytes.now _ _ _ (omega arith) (omega arith) (omega arith)
