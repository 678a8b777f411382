-- `bench::put_text` meets its contract: there is room for every text. Assumes nothing.
use Rattle.laws.proofs.Enough.{enough, counts}
use Rattle.bench.proofs.put_text.Goals as goal

pub returns : goal.returns
returns c =
    let counted = counts c.args.bytes.now c.args.text.now c.listing-listed.ensures.value c.listing-listed.ensures.out_after in
    record {
      text_after = enough c.args.bytes.now c.args.text.now c.listing-listed.ensures.value c.listing-listed.ensures.out_after c.requires;
      upper_bound = counted.0;
      value = counted.1;
    }
