-- The card of a file whose parts are in hand: its verdict, its four fields, where its names and its other fields stand. Assumes nothing.
use Rattle.std.specs.Prelude.{Ok, Err, ℕ, ◌≤◌, cond, List, [], ◌∷◌, ◌++◌, ◌≡◌, eqb, length}
use Rattle.meaning.specs.Design.{objects}
use Rattle.meaning.specs.Refusals.{Verdict, accepted}
use Rattle.meaning.specs.File.{head_of, fields}
use Rattle.meaning.specs.Text.{each, line, name_text, refused_line}
use Rattle.meaning.specs.CardText.{name_at, other_lines, four_text}

-- the names of v objects that start at a place of a file, none where that is 0
abbrev pub names_from : List ℕ → ℕ → ℕ → List ℕ
names_from s at v = cond (eqb at 0) [] (line "names" (each v (λ i. 32 ∷ name_text (name_at s at i))))

-- what is asked of the parts of an accepted file: its fields are there, and no place is so high that it wraps
abbrev pub Printable : Verdict → List ℕ → List ℕ → ℕ → Type 0
Printable verdict four s names = verdict ≡ accepted → (fields four ≡ accepted) × (length s ≤ 16384) × (names ≤ 16387)

-- the card, or the refusal alone
unfoldable pub printed_text : Verdict → List ℕ → List ℕ → ℕ → ℕ → List ℕ
printed_text (Ok done) four s names others = four_text four ++ names_from s names (objects (head_of four)) ++ other_lines (length s) s others
printed_text (Err why) four s names others = refused_line why.number why.place
