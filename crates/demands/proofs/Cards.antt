-- Cards: the words that a text lays out, and what the laws say of two texts of the same words and of the cards that are printed. Assumes nothing.
use mathlib.Core.Path.{◌≡◌, refl, sym, ap, ◌∙◌, subst}
use mathlib.Core.Bool.{Bool, true, false, cond, not, ◌||◌}
use mathlib.Core.List.{List, [], ◌∷◌, ◌++◌, append_assoc, append-nil}
use Prim.Native.Nat.{ℕ, zero, suc, ◌≤◌, ◌<◌}
use native.Mathlib.Omega.{arith}
use lib.Dec.{eqb, ltb}
use borrow.Author.Tests.{lt-ltb, le-ltb, ne_eqb, ltb-true, ltb-false, eqb-true, eqb-false}
use Rattle.meaning.specs.CardText.{card_under, card_text_of, card_under2, card_text_of2}
use Rattle.laws.proofs.CardsWords.{
  plain,
  texts,
  words-plain,
  closing,
  wordly,
  apart,
  Apart,
  word_first,
  blank-first,
  one_line,
  comment-first,
  comment-last,
  same-file,
  same_number,
  same_wants,
}
use Rattle.laws.proofs.CardsFirst.{first_short, first-again, first-accepted}
use Rattle.laws.proofs.CardsSecond.{second-again, second-four, second-accepted, second_short}
use Rattle.demands.specs.Job.{job_in}
use Rattle.demands.specs.Cards.{
  words_of,
  Every,
  InWord,
  InComment,
  Behind,
  nothing,
  a_blank,
  a_comment,
  LaidOut,
  end,
  blank,
  comment,
  last-comment,
  word,
  WordsOfCards,
  CommentsAndSpacing,
  CardsOfFiles,
  CardsOfSecondFiles,
}
use Rattle.meaning.specs.Refusals.{Verdict}

-- ---- the tests of the laws

later : (P : ℕ → Type 0) (x : ℕ) (s : List ℕ) → Every P (x ∷ s) → Every P s
later P x s e i l = e (suc i) (omega arith)

is_word : (w : List ℕ) → Every InWord w → wordly w ≡ true
unfolding wordly
is_word [] e = refl
is_word (x ∷ w) e =
    let f = e 0 (omega arith) in
    rw (le-ltb x 33 (omega (arith, f.0)), ne_eqb x 35 f.1) (is_word w (later InWord x w e))

is-line : (w : List ℕ) → Every InComment w → one_line w ≡ true
unfolding one_line
is-line [] e = refl
is-line (x ∷ w) e = rw (ne_eqb x 10 (e 0 (omega arith))) (is-line w (later InComment x w e))

is-apart : {s : List ℕ} → Behind s → Apart s
unfolding apart
is-apart nothing = refl
is-apart (a_blank {x = x} l) = rw (lt-ltb x 33 (omega arith)) refl
is-apart a_comment = refl

-- the words that are laid out are read
laid-read : {ws : List (List ℕ)} {s : List ℕ} → LaidOut ws s → texts s ≡ ws
unfolding plain
laid-read end = refl
laid-read (blank {s = s} x l more) = blank-first x s l ∙ laid-read more
laid-read (comment {s = s} text e more) = comment-first text s (is-line text e) ∙ laid-read more
laid-read (last-comment text e) = comment-last text (is-line text e)
laid-read (word {s = s} w some e b more) = word_first w s some (is_word w e) (is-apart b) ∙ ap (λ (ws : List (List ℕ)). w ∷ ws) (laid-read more)

-- ---- every text lays out its words

every-none : (P : ℕ → Type 0) → Every P []
every-none P i l = absurd (no i l)
  where
    no : (i : ℕ) → i < 0 → ⊥
    no i l = omega arith

every_more : (P : ℕ → Type 0) (s : List ℕ) (x : ℕ) → Every P s → P x → Every P (s ++ (x ∷ []))
every_more P [] x e p zero l = p
every_more P [] x e p (suc i) l = absurd (omega arith)
every_more P (y ∷ s) x e p zero l = e 0 (omega arith)
every_more P (y ∷ s) x e p (suc i) l = every_more P s x (later P y s e) p i (omega arith)

-- a word that has begun, and what stands behind it
begun : (w : List ℕ) {ws : List (List ℕ)} {s : List ℕ} → Every InWord w → Behind s → LaidOut ws s → LaidOut (closing w ws) (w ++ s)
begun [] e b more = more
begun (x ∷ w) e b more = word (x ∷ w) (omega arith) e b more

-- behind a word that has begun, and in a comment
laid_out_lem : (s : List ℕ) → ((w : List ℕ) → Every InWord w → LaidOut (plain false w s) (w ++ s))
    × ((text : List ℕ) → Every InComment text → LaidOut (plain true [] s) (35 ∷ text ++ s))
unfolding plain
laid_out_lem [] = (λ w e. begun w e nothing end, λ text e. subst (λ (u : List ℕ). LaidOut [] (35 ∷ u)) (sym (append-nil text)) (last-comment text e))
laid_out_lem (x ∷ s) = let more = laid_out_lem s in
    (λ w e. in_word more.0 more.1 w e (ltb x 33) (eqb x 35) refl refl, λ text e. in_comment more.0 more.1 text e (eqb x 10) refl)
  where
    Words : Type 0
    Words = (w : List ℕ) → Every InWord w → LaidOut (plain false w s) (w ++ s)

    Comments : Type 0
    Comments = (text : List ℕ) → Every InComment text → LaidOut (plain true [] s) (35 ∷ text ++ s)

    in_word : Words → Comments → (w : List ℕ) → Every InWord w → (a c : Bool) → ltb x 33 ≡ a → eqb x 35 ≡ c →
        LaidOut (cond (a || c) (closing w (plain c [] s)) (plain false (w ++ (x ∷ [])) s)) (w ++ x ∷ s)
    in_word p q w e true true f g = absurd (omega (arith, ltb-true x 33 f, eqb-true x 35 g))
    in_word p q w e true false f g = let l : x ≤ 32 = omega (arith, ltb-true x 33 f) in begun w e (a_blank l) (blank x l (p [] (every-none InWord)))
    in_word p q w e false true f g =
        subst (λ (y : ℕ). LaidOut (closing w (plain true [] s)) (w ++ y ∷ s)) (sym (eqb-true x 35 g)) (begun w e a_comment (q [] (every-none InComment)))
    in_word p q w e false false f g =
        subst (λ (u : List ℕ). LaidOut (plain false (w ++ (x ∷ [])) s) u) (append_assoc w (x ∷ []) s)
        (p (w ++ (x ∷ [])) (every_more InWord w x e (ltb-false x 33 f, eqb-false x 35 g)))

    in_comment : Words → Comments → (text : List ℕ) → Every InComment text → (b : Bool) → eqb x 10 ≡ b →
        LaidOut (plain (not b) [] s) (35 ∷ text ++ x ∷ s)
    in_comment p q text e true f =
        subst (λ (y : ℕ). LaidOut (plain false [] s) (35 ∷ text ++ y ∷ s)) (sym (eqb-true x 10 f)) (comment text e (p [] (every-none InWord)))
    in_comment p q text e false f =
        subst (λ (u : List ℕ). LaidOut (plain true [] s) (35 ∷ u)) (append_assoc text (x ∷ []) s)
        (q (text ++ (x ∷ [])) (every_more InComment text x e (eqb-false x 10 f)))

-- ---- what is signed

pub card-words : (s : List ℕ) → WordsOfCards s
card-words s =
    let read : words_of s ≡ texts s = words-plain false 0 [] s in
    record {
      are_laid_out = subst (λ (ws : List (List ℕ)). LaidOut ws s) (sym read) ((laid_out_lem s).0 [] (every-none InWord));
      no_others = λ ws l. read ∙ laid-read l;
    }

pub card_spacing : (s t : List ℕ) → CommentsAndSpacing s t
card_spacing s t = record {
  same-file = same-file s t;
  same_number = λ e l m. same_number s t e (omega arith) (omega arith);
  same_wanted = λ e l m. same_wants s t e (omega arith) (omega arith);
  laid_out_twice = λ ws l m short short-too. let e = (card-words s).no_others ws l ∙ sym ((card-words t).no_others ws m) in
      (same-file s t e, same_number s t e short short-too, same_wants s t e short short-too);
}

pub card_of_file : (s : List ℕ) → CardsOfFiles s
unfolding card_text_of
card_of_file s = record {
  card_is_read = first-accepted s;
  same_bytes = λ b e. rw (first-again s b e);
  same-job = λ b e. ap job_in (first-again s b e);
  refusal-printed = λ k place e. ap (λ (v : Verdict). card_under v s) e;
  card_is_short = first_short s;
}

pub card_of_second : (s : List ℕ) → CardsOfSecondFiles s
unfolding card_text_of2
card_of_second s = record {
  card_is_read = second-accepted s;
  same_bytes = λ b e l. second-again s b e (omega arith);
  same-four = λ b e l. second-four s b e (omega arith);
  refusal-printed = λ k place e. ap (λ (v : Verdict). card_under2 v s) e;
  card_is_short = second_short s;
}
