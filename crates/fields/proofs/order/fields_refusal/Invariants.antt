-- While fields are left, what is left of the verdict from the reader's place on is the verdict of the fields.
use Rattle.std.proofs.Common.{◌≡◌, ◌-◌}
use Rattle.meaning.specs.File.{fields}
use Rattle.fields.proofs.order.Order.{led}
use Rattle.fields.proofs.order.fields_refusal.Given as goal

abbrev pub invariant-loop-tag : goal.invariant-loop-tag
invariant-loop-tag l = record {
  same_bytes : l.reader.bytes.now ≡ l.bytes;
  due : led l.bytes (5 - l.tag) l.tag l.reader.place ≡ fields l.bytes;
}
