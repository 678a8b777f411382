-- The loop of `cards::hexadecimal::put_hex`: what is left of the digits writes what is left of the bytes.
use Rattle.std.proofs.Common.{◌≡◌, ◌/◌, ◌%◌, length, true}
use Rattle.std.specs.Slice.Iter.{chunks_exact_rest, chunks_exact_size}
use Rattle.algebra.specs.Buffers.{write}
use Rattle.meaning.specs.Card.{all_hex, hex_bytes}
use Rattle.cards.proofs.hexadecimal.put_hex.Given as goal

abbrev pub invariant-loop-digits : goal.invariant-loop-digits
invariant-loop-digits l =
    let rest = chunks_exact_rest l.digits-iterator in
    (chunks_exact_size l.digits-iterator ≡ 2)
    × (length rest % 2 ≡ 0)
    × (all_hex rest ≡ true)
    × (write l.out l.place (hex_bytes (length rest / 2) rest) ≡ write l.initial.out l.at (hex_bytes (length l.word / 2) l.word))
