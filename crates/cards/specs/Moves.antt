-- A card with another restraint. Assumes nothing.
use Rattle.std.specs.Prelude.{ℕ, false}
use Rattle.records.specs.declared.Card.{Card}

-- the next word is to be another object of it, or =
abbrev pub with_set : ℕ → Card → Card
with_set set c = record {
  wants = 13;
  bad = false;
  head = c.head;
  count = c.count;
  set = set;
  sum = c.sum;
  readings = c.readings;
  length = c.length;
}
