-- A walk of the objects of a word that changes the entry of each: what is still to change, changed now, is what was to change at first.
--     each_cong, each_same, each_twice    a change at every place
--     each_set                            a store, and the change after it
--     each_keeps                          what a change keeps of an entry
--     each_over, each_long                a change of what was written over, and that the length stays
--     walk_step, walk_end                 one turn of a walk, and its end
--     walk-long, walk-near                within a walk the length stays, and an entry is as near to what it was as a change leaves it
-- Assumes nothing.
use Prim.Native.Nat.{ℕ, zero, suc, ◌^◌, ◌≤◌, ◌<◌}
use mathlib.Core.Path.{◌≡◌, refl, sym, ap, ap₂, ◌∙◌}
use mathlib.Core.List.{List, [], ◌∷◌}
use native.Mathlib.Omega.{arith}
use lib.ListN.{get_or, length, set}
use Rattle.algebra.specs.Buffers.{over}
use Rattle.meaning.specs.Analysis.{member}
use Rattle.words.specs.Bits.{lowest_of, without_lowest}
use Rattle.words.specs.Changing.{each_at}
use Rattle.words.proofs.Bits.{bit-none}
use Rattle.words.proofs.Walk.{lowest_one, rest-here, rest-other}

-- ---- a change at every place

module _ {A : Type 0} where
  -- equal changes
  pub each_cong : (f g : ℕ → A → A) (l : List A) → ((k : ℕ) (x : A) → f k x ≡ g k x) → each_at f l ≡ each_at g l
  unfolding each_at
  each_cong f g [] h = refl
  each_cong f g (x ∷ l) h = ap₂ ◌∷◌ (h 0 x) (each_cong (λ k. f (suc k)) (λ k. g (suc k)) l (λ k. h (suc k)))

  -- no change
  pub each_same : (f : ℕ → A → A) (l : List A) → ((k : ℕ) (x : A) → f k x ≡ x) → each_at f l ≡ l
  unfolding each_at
  each_same f [] h = refl
  each_same f (x ∷ l) h = ap₂ ◌∷◌ (h 0 x) (each_same (λ k. f (suc k)) l (λ k. h (suc k)))

  -- one change after another
  pub each_twice : (f g : ℕ → A → A) (l : List A) → each_at g (each_at f l) ≡ each_at (λ k x. g k (f k x)) l
  unfolding each_at
  each_twice f g [] = refl
  each_twice f g (x ∷ l) = ap (λ (t : List A). g 0 (f 0 x) ∷ t) (each_twice (λ k. f (suc k)) (λ k. g (suc k)) l)

  -- a store at i, and then a change that differs only there
  each_set : (f g : ℕ → A → A) (l : List A) (i : ℕ) (d y : A) → ((k : ℕ) (x : A) → (k ≡ i → ⊥) → f k x ≡ g k x) → f i y ≡ g i (get_or l i d) →
      each_at f (set l i y) ≡ each_at g l
  unfolding each_at
  each_set f g [] i d y h e = refl
  each_set f g (x ∷ l) zero d y h e = ap₂ ◌∷◌ e (each_cong (λ k. f (suc k)) (λ k. g (suc k)) l (λ k x. h (suc k) x (λ q. omega arith)))
  each_set f g (x ∷ l) (suc i) d y h e =
      ap₂ ◌∷◌ (h 0 x (λ q. omega arith)) (each_set (λ k. f (suc k)) (λ k. g (suc k)) l i d y (λ k x n. h (suc k) x (λ q. n (omega arith))) e)

  -- what holds between an entry and its change holds at every place; beyond the end d stands for both
  pub each_keeps : (R : ℕ → A → A → Type 0) (d : A) → ((k : ℕ) → R k d d) → (f : ℕ → A → A) → ((k : ℕ) (x : A) → R k x (f k x)) →
      (l : List A) (i : ℕ) → R i (get_or l i d) (get_or (each_at f l) i d)
  unfolding each_at
  each_keeps R d z f h [] i = z i
  each_keeps R d z f h (x ∷ l) zero = h 0 x
  each_keeps R d z f h (x ∷ l) (suc i) = each_keeps (λ k. R (suc k)) d (λ k. z (suc k)) (λ k. f (suc k)) (λ k. h (suc k)) l i

  -- a change of what was written over; from v on it changes nothing
  pub each_over : (f : ℕ → A → A) (v : ℕ) (g : ℕ → A) (l : List A) → ((k : ℕ) (x : A) → v ≤ k → f k x ≡ x) → each_at f (over v g l) ≡ over v (λ k. f k (g k)) l
  unfolding each_at over
  each_over f zero g l h = each_same f l (λ k x. h k x (omega arith))
  each_over f (suc v) g [] h = refl
  each_over f (suc v) g (x ∷ l) h = ap (λ (t : List A). f 0 (g 0) ∷ t) (each_over (λ k. f (suc k)) v (λ k. g (suc k)) l (λ k x a. h (suc k) x (omega arith)))

  -- the length stays
  pub each_long : (f : ℕ → A → A) (l : List A) → length (each_at f l) ≡ length l
  unfolding each_at
  each_long f [] = refl
  each_long f (x ∷ l) = ap suc (each_long (λ k. f (suc k)) l)

  -- ---- a change at the places of a word

  -- y where b is 1, and x where it is 0
  abbrev pick : ℕ → A → A → A
  pick zero y x = x
  pick (suc b) y x = y

  -- f at each place of the word w
  abbrev pub walked : ℕ → (ℕ → A → A) → List A → List A
  walked w f l = each_at (λ k x. pick (member w k) (f k x) x) l

  -- one turn: at the lowest place the change is made, and the rest is still to change
  pub walk_step : (f : ℕ → A → A) (rest : ℕ) (l : List A) (d : A) {i rest' : ℕ} {y : A} {m : List A} → 0 < rest → rest < 2 ^ 64
      → i ≡ lowest_of rest → rest' ≡ without_lowest rest → y ≡ f i (get_or l i d) → walked rest f l ≡ m → walked rest' f (set l i y) ≡ m
  walk_step f rest l d {i} {rest'} {y} p h ei er ey e = each_set _ _ l i d y other here ∙ e
    where
      other : (k : ℕ) (x : A) → (k ≡ i → ⊥) → pick (member rest' k) (f k x) x ≡ pick (member rest k) (f k x) x
      other k x n = rw (er, rest-other rest p h k (λ q. n (q ∙ sym ei)))

      here : pick (member rest' i) (f i y) y ≡ pick (member rest i) (f i (get_or l i d)) (get_or l i d)
      here =
          let gone : member rest' i ≡ 0 = ap₂ member er ei ∙ rest-here rest p h in
          let was : member rest i ≡ 1 = ap (member rest) ei ∙ lowest_one rest p h in
          rw (gone, was) ey

  -- the end: nothing is left to change, and a place that is not in the word has no change
  pub walk_end : (f : ℕ → A → A) (w : ℕ) (l m : List A) → ((k : ℕ) (x : A) → member w k ≡ 0 → f k x ≡ x) → walked 0 f l ≡ walked w f m → l ≡ each_at f m
  walk_end f w l m h e = sym (each_same _ l (λ k x. rw (bit-none k))) ∙ e ∙ each_cong _ _ m all
    where
      all : (k : ℕ) (x : A) → pick (member w k) (f k x) x ≡ f k x
      all k x = go (member w k) refl
        where
          go : (b : ℕ) → member w k ≡ b → pick b (f k x) x ≡ f k x
          go zero q = sym (h k x q)
          go (suc b) q = refl

  -- within the walk the length stays
  pub walk-long : (f : ℕ → A → A) (rest w : ℕ) (l m : List A) → walked rest f l ≡ walked w f m → length l ≡ length m
  walk-long f rest w l m e = sym (each_long _ l) ∙ ap length e ∙ each_long _ m

  -- and what holds between an entry and itself, and between it and its change, holds between each entry and that of the end
  pub walk-near : (R : A → A → Type 0) → ((x : A) → R x x) → (f : ℕ → A → A) → ((k : ℕ) (x : A) → R x (f k x)) → (rest w : ℕ) (l m : List A) (d : A) (i : ℕ)
      → walked rest f l ≡ walked w f m → R (get_or l i d) (get_or (walked w f m) i d) × R (get_or m i d) (get_or (walked w f m) i d)
  walk-near R s f h rest w l m d i e = (rw e at (near rest l), near w m)
    where
      near : (w : ℕ) (l : List A) → R (get_or l i d) (get_or (walked w f l) i d)
      near w l = each_keeps (λ k. R) d (λ k. s d) _ (λ k x. go k x (member w k)) l i
        where
          go : (k : ℕ) (x : A) (b : ℕ) → R x (pick b (f k x) x)
          go k x zero = s x
          go k x (suc b) = h k x
