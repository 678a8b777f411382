-- `making::make_file`: the file stands in front of its room; refused, nothing is written, and accepted, it is written out. Assumes nothing.
use Rattle.std.proofs.Common.{◌≡◌, ℕ, ◌≤◌, List, length, take, sym, ◌∙◌, arith}
use lib.Seq.{length-take-le}
use Rattle.algebra.specs.Buffers.{Wrote}
use Rattle.algebra.proofs.Writing.{named}
use Rattle.records.specs.declared.Card.{Card}
use Rattle.meaning.specs.Refusals.{accepted}
use Rattle.meaning.specs.Card.{card_of, bytes_in, file_from, card_file}
use Rattle.verdicts.proofs.Told.{accepting}
use Rattle.cards.specs.Filing.{Readable}
use Rattle.cards.proofs.filing.Parts.{file-most, stands}
use Rattle.cards.proofs.making.Answers.{filed}
use Rattle.cards.proofs.making.make_file.Goals as goal

-- the file in its room
stood : {card body before after : List ℕ} {seen : Card} {n : ℕ} → Readable card seen body → Wrote before 0 (file_from seen body) after n →
    length after ≡ 16384 → (take n after ≡ card_file card) × (n ≤ 16384)
unfolding card_file
stood {card} r wrote long =
    stands wrote (λ j. file_from (r.is j) (r.bytes j)) long (omega (arith, file-most (card_of card) (bytes_in card), r.few))

pub slice_bounds-file-end : goal.slice_bounds-file-end
slice_bounds-file-end c = omega (arith, (stood c.requires c.put_file-length.ensures (omega arith)).1)

pub slice_bounds-file_refusal-end : goal.slice_bounds-file_refusal-end
slice_bounds-file_refusal-end c = sym (length-take-le _ _ (omega (arith, (stood c.requires c.put_file-length.ensures (omega arith)).1)))

pub file_refusal-verdict-requires : goal.file_refusal-verdict-requires
file_refusal-verdict-requires c =
    let r = c.requires in
    record { short = r.short; is = r.is; whole = (stood r c.put_file-length.ensures (omega arith)).0 }

pub slice_bounds-file-end-2 : goal.slice_bounds-file-end-2
slice_bounds-file-end-2 c = omega (arith, (stood c.requires c.put_file-length.ensures (omega arith)).1)

pub slice_bounds-put_text-end : goal.slice_bounds-put_text-end
slice_bounds-put_text-end c = sym (length-take-le _ _ (omega (arith, (stood c.requires c.put_file-length.ensures (omega arith)).1)))

pub returns-clause-value : goal.returns-clause-value
returns-clause-value c =
    let says : c.file_refusal-verdict.result ≡ accepted = accepting _ (sym c.is_refused.ensures ∙ c.if-is_refused.false) in
    let there = (stood c.requires c.put_file-length.ensures (omega arith)).0 in
    (filed c.args.card.now c.args.out.now (sym c.file_refusal-verdict.ensures ∙ says) _ says (named c.put_text-end.ensures there) (omega arith)).0

pub returns-clause-out_after : goal.returns-clause-out_after
returns-clause-out_after c =
    let says : c.file_refusal-verdict.result ≡ accepted = accepting _ (sym c.is_refused.ensures ∙ c.if-is_refused.false) in
    let there = (stood c.requires c.put_file-length.ensures (omega arith)).0 in
    (filed c.args.card.now c.args.out.now (sym c.file_refusal-verdict.ensures ∙ says) _ says (named c.put_text-end.ensures there) (omega arith)).1
