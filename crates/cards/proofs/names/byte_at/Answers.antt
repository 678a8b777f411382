-- `cards::names::byte_at`: behind a backslash stand two digits.
use native.Mathlib.Omega.{arith}
use Prim.Native.Nat.{◌<◌}
use lib.ListN.{length}
use Rattle.cards.proofs.names.Escapes.{escape_here, escape_first, escape_second, escape_inside}
use Rattle.cards.proofs.names.byte_at.Goals as goal

pub hex_byte-requires : goal.hex_byte-requires
hex_byte-requires c =
    let w = c.args.word.now in
    let at = c.args.at in
    let more : at < length w = omega arith in
    let e = escape_here w at more c.if-word-at-eq-BACKSLASH.true (c.requires.1 more) in
    (escape_inside w at e, escape_first w at e, escape_second w at e)
