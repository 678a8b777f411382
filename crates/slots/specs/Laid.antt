-- Lent slots after a call. An accepting call has its slots at the front of what is lent, and later ones stay; a refusal leaves all as it was. Assumes nothing.
use Rattle.std.specs.Prelude.{ℕ, ◌/◌, ◌%◌, List, [], ◌∷◌}
use Rattle.algebra.specs.Tables.{entry}
use Rattle.meaning.specs.Calls.{given, written}
use Rattle.meaning.specs.Refusals.{Verdict}

-- slots over the front of what is lent, as far as it goes
unfoldable pub onto : {A : Type 0} → List A → List A → List A
onto [] lent = lent
onto (x ∷ slots) [] = []
onto (x ∷ slots) (y ∷ lent) = x ∷ onto slots lent

-- what is lent after slots are laid under a verdict
abbrev pub laid : {A : Type 0} → Verdict → List A → List A → List A
laid verdict slots lent = given verdict (onto slots lent) lent

-- the same of a 50 by 50 table, row after row
abbrev pub laid_table : Verdict → List (List ℕ) → List ℕ → List ℕ
laid_table verdict table lent = written verdict 2500 (λ k. entry table (k / 50) (k % 50)) lent
