-- What stands before a place of a card: its newlines counted, and the column one byte on. Assumes nothing.
use Rattle.std.proofs.Common.{◌≡◌, ℕ, ◌+◌, ◌<◌, ◌≤◌, List, length, drop, get_or, cond, eqb, refl, sym, ◌∙◌, arith}
use borrow.Author.Tests.{eq-eqb, ne_eqb}
use Rattle.std.specs.List.{count_by}
use Rattle.std.proofs.lemmas.List.{at_drop_more, at_drop_all}
use Rattle.std.proofs.lemmas.List.Recursion.{is_count_by}
use Rattle.std.proofs.lemmas.Bool.Decides.{nat_tests}
use Rattle.meaning.specs.Design.{occ}
use Rattle.meaning.specs.Card.{column_from}

pub newlines : (s : List ℕ) → occ 10 s ≡ count_by (λ x. eqb x 10) s
unfolding occ
newlines s = is_count_by (occ 10) (λ x. eqb x 10) refl (λ x xs. grind (arith, nat_tests)) s

module _ (s : List ℕ) (i n : ℕ) (h : i < length s) where
  one_on : column_from n (drop i s) ≡ column_from (cond (eqb (get_or s i 0) 10) 1 (n + 1)) (drop (i + 1) s)
  unfolding column_from
  one_on = at_drop_more (column_from n) s i 0 h

  pub at_newline : get_or s i 0 ≡ 10 → column_from 1 (drop (i + 1) s) ≡ column_from n (drop i s)
  at_newline e = sym (one_on ∙ rw (eq-eqb (get_or s i 0) 10 e))

  pub at_other : (get_or s i 0 ≡ 10 → ⊥) → column_from (n + 1) (drop (i + 1) s) ≡ column_from n (drop i s)
  at_other f = sym (one_on ∙ rw (ne_eqb (get_or s i 0) 10 f))

pub no_more : (s : List ℕ) (i n : ℕ) → length s ≤ i → column_from n (drop i s) ≡ n
unfolding column_from
no_more s i n h = at_drop_all (column_from n) s i h
