-- `trials::print_listing` is safe: as many bytes as are answered stand in the room. Assumes nothing.
use Rattle.laws.proofs.Enough.{counts}
use Rattle.trials.proofs.print_listing.Goals as goal

pub slice_bounds-write_output-end : goal.slice_bounds-write_output-end
slice_bounds-write_output-end c = (counts c.args.bytes.now c.args.text.now c.listing-listed.ensures.value c.listing-listed.ensures.out_after).0
