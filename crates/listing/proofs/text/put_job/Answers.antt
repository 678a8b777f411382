-- `text::put_job`: the lines one after the other. Assumes nothing.
use Rattle.algebra.proofs.Writing.{◌then◌}
use Rattle.listing.specs.Sheet.{job_lines}
use Rattle.listing.proofs.text.put_job.Goals as goal

pub returns : goal.returns
unfolding job_lines
returns c =
    c.put_design-after_design.ensures then c.put_values-after_values.ensures then c.put_deviations-after_deviations.ensures then c.put_spread.ensures
