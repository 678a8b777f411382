-- Cards: what the direct call answers, and the room after the call from C, which asks for its slot last. Assumes nothing.
use Rattle.std.specs.Prelude.{ℕ, List, length}
use Rattle.records.specs.declared.Listed.{Listed}
use Rattle.meaning.specs.Calls.{given}
use Rattle.meaning.specs.CardText.{card_text_of, card_text_of2, text_answer, text_after}
use Rattle.slots.specs.Answers.{listed_call}

module _ (s out : List ℕ) where
  abbrev pub file_card : Listed
  file_card = text_answer (card_text_of s) (length out)

  abbrev pub card_put : List ℕ → List ℕ
  card_put answer = given (listed_call file_card answer) (text_after (card_text_of s) out) out

  -- of a file of the second edition
  abbrev pub second_card : Listed
  second_card = text_answer (card_text_of2 s) (length out)

  abbrev pub second_card_put : List ℕ → List ℕ
  second_card_put answer = given (listed_call second_card answer) (text_after (card_text_of2 s) out) out
