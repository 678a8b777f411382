-- The first lines of a card: the kind of design, its size, and whether ∞ takes part. Assumes nothing.
use mathlib.Core.Path.{◌≡◌, refl, ap}
use mathlib.Core.Bool.{Bool, true, false, cond}
use mathlib.Core.List.{[], ◌++◌}
use Prim.Native.Nat.{ℕ, zero, suc, ◌+◌, ◌%◌, ◌≤◌}
use native.Mathlib.Omega.{arith}
use lib.Dec.{eqb, ltb}
use lib.IntN.{pos}
use Rattle.records.specs.declared.Head.{Head}
use Rattle.records.specs.declared.Card.{Card}
use Rattle.meaning.specs.Text.{ascii, digits, spaced, line}
use Rattle.meaning.specs.SheetText.{same}
use Rattle.meaning.specs.Card.{no_card, take_kind, take_size, take_fixed, taken, given_bytes}
use Rattle.meaning.specs.CardText.{kind_line, fixed_line}
use Rattle.laws.proofs.CardsWords.{wordly, Apart}
use Rattle.laws.proofs.CardsNumbers.{digits_long, digits-word, digits-read}
use Rattle.laws.proofs.CardsSteps.{Says, Any, then, says_as, quiet_word, quiet_line, state}

-- before any block
abbrev pub start : ℕ → Head → Card
start k h = state k h 0 0 (pos 0) 0 0

-- no block yet, no side
abbrev pub sizes_of : ℕ → ℕ → Head
sizes_of n flag = record { n = n; flag = flag; p = 0; m = 0 }

-- the size
size-says : (n flag : ℕ) → n ≤ 255 → Says Apart (start 2 (sizes_of 0 flag)) (spaced n) (start 3 (sizes_of n flag)) []
unfolding taken take_size given_bytes
size-says n flag l =
    let c = start 2 (sizes_of 0 flag) in
    quiet_word c refl (digits 20 n) (digits_long n) (digits-word n) (rw (digits-read n 255 l (omega arith))) refl

-- residues or field
kind_says : (b : Bool) (n : ℕ) → n ≤ 255 → Says Any no_card (line (cond b "residues" "field") (spaced n)) (start 3 (sizes_of n (cond b 0 2))) []
unfolding ascii wordly same taken take_kind given_bytes
kind_says true n l = quiet_line no_card refl (ascii "residues") (omega arith) refl refl refl (spaced n) (size-says n 0 l)
kind_says false n l = quiet_line no_card refl (ascii "field") (omega arith) refl refl refl (spaced n) (size-says n 2 l)

-- fixed yes or no
fixed_says : (b : Bool) (n flag : ℕ) →
    Says Any (start 3 (sizes_of n flag)) (line "fixed" (ascii (cond b " yes" " no"))) (start 5 (sizes_of n (cond b (flag + 1) flag))) []
unfolding ascii wordly same taken take_fixed given_bytes
fixed_says true n flag =
    quiet_line (start 3 (sizes_of n flag)) refl (ascii "fixed") (omega arith) refl refl refl (ascii " yes")
    (quiet_word (start 4 (sizes_of n flag)) refl (ascii "yes") (omega arith) refl refl refl)
fixed_says false n flag =
    quiet_line (start 3 (sizes_of n flag)) refl (ascii "fixed") (omega arith) refl refl refl (ascii " no")
    (quiet_word (start 4 (sizes_of n flag)) refl (ascii "no") (omega arith) refl refl refl)

-- the flag that both make
flag-made : (flag : ℕ) → flag ≤ 3 → cond (eqb (flag % 2) 1) (cond (ltb flag 2) 0 2 + 1) (cond (ltb flag 2) 0 2) ≡ flag
flag-made zero l = refl
flag-made (suc zero) l = refl
flag-made (suc (suc zero)) l = refl
flag-made (suc (suc (suc zero))) l = refl
flag-made (suc (suc (suc (suc flag)))) l = absurd (omega arith)

-- the two lines
pub head-says : (h : Head) → h.n ≤ 255 → h.flag ≤ 3 → Says Any no_card (kind_line h ++ fixed_line h) (start 5 (sizes_of h.n h.flag)) []
head-says h l m =
    says_as (ap (λ (f : ℕ). start 5 (sizes_of h.n f)) (flag-made h.flag m)) refl
    (then (kind_says (ltb h.flag 2) h.n l) (fixed_says (eqb (h.flag % 2) 1) h.n (cond (ltb h.flag 2) 0 2)))
