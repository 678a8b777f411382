-- What a walk that adds to the entries of a row or a table makes of them.
--     row-most, rows-most, entry-most     an entry grows by at most what is added
--     more-twice, more_cong               one addition after another, and equal ones
--     fresh_table, zero-entry             a table of zeros with f added, and without
-- Assumes nothing.
use Prim.Native.Nat.{ℕ, zero, suc, ◌+◌, ◌≤◌}
use mathlib.Core.Path.{◌≡◌, refl, ap, ◌∙◌}
use mathlib.Core.List.{List, [], ◌∷◌}
use native.Mathlib.Omega.{arith}
use lib.ListN.{get_or, replicate}
use Rattle.algebra.specs.Buffers.{over}
use Rattle.algebra.specs.Tables.{entry}
use Rattle.algebra.proofs.Filling.{over_ext}
use Rattle.meaning.specs.Calls.{no_table, table_of}
use Rattle.words.proofs.Changing.{each_cong, each_same, each_twice, each_keeps, each_over, walked, walk-near}
use Rattle.balance.specs.Meetings.{row_more, table_more}

-- ---- an entry grows by at most what is added

-- y is x, or one more
abbrev Next : ℕ → ℕ → Type 0
Next x y = (x ≤ y) × (y ≤ x + 1)

-- within a walk that adds at most one to each entry of a row
pub row-most : (f : ℕ → ℕ) → ((k : ℕ) → f k ≤ 1) → (rest w : ℕ) (row row₀ : List ℕ) →
    walked rest (λ k x. x + f k) row ≡ walked w (λ k x. x + f k) row₀ → (j : ℕ) → get_or row j 0 ≤ get_or row₀ j 0 + 1
row-most f h rest w row row₀ e j =
    let (now, first) = walk-near Next (λ x. (omega arith, omega arith)) (λ k x. x + f k) (λ k x. (omega arith, omega (arith, h k))) rest w row row₀ 0 j e in
    omega (arith, now.0, first.1)

-- within a walk that adds to rows
pub rows-most : (f : ℕ → ℕ → ℕ) → ((i j : ℕ) → f i j ≤ 1) → (rest w : ℕ) (t t₀ : List (List ℕ)) →
    walked rest (λ k. row_more (f k)) t ≡ walked w (λ k. row_more (f k)) t₀ → (i j : ℕ) → entry t i j ≤ entry t₀ i j + 1
rows-most f h rest w t t₀ e i j =
    let (now, first) = walk-near (λ r s. Next (get_or r j 0) (get_or s j 0)) (λ r. (omega arith, omega arith)) (λ k. row_more (f k)) next rest w t t₀ [] i e in
    omega (arith, now.0, first.1)
  where
    next : (k : ℕ) (r : List ℕ) → Next (get_or r j 0) (get_or (row_more (f k) r) j 0)
    next k r = each_keeps (λ c. Next) 0 (λ c. (omega arith, omega arith)) (λ c x. x + f k c) (λ c x. (omega arith, omega (arith, h k c))) r j

-- after all is added
pub entry-most : (f : ℕ → ℕ → ℕ) (t : List (List ℕ)) (i j : ℕ) → entry (table_more f t) i j ≤ entry t i j + f i j
entry-most f t i j =
    each_keeps (λ k r s. get_or s j 0 ≤ get_or r j 0 + f k j) [] (λ k. omega arith) (λ k. row_more (f k))
    (λ k r. each_keeps (λ c x y. y ≤ x + f k c) 0 (λ c. omega arith) (λ c x. x + f k c) (λ c x. omega arith) r j) t i

-- ---- tables

-- one addition after another
pub more-twice : (f g : ℕ → ℕ → ℕ) (t : List (List ℕ)) → table_more g (table_more f t) ≡ table_more (λ i j. f i j + g i j) t
more-twice f g t = each_twice _ _ t ∙ each_cong _ _ t (λ i r. each_twice _ _ r ∙ each_cong _ _ r (λ j x. omega arith))

-- what is added is told by its numbers
pub more_cong : (f g : ℕ → ℕ → ℕ) (t : List (List ℕ)) → ((i j : ℕ) → f i j ≡ g i j) → table_more f t ≡ table_more g t
more_cong f g t h = each_cong _ _ t (λ i r. each_cong _ _ r (λ j x. ap (λ (y : ℕ). x + y) (h i j)))

-- a list of one entry, written over with it
fresh : {A : Type 0} (n v : ℕ) (d : A) → replicate n d ≡ over v (λ i. d) (replicate n d)
unfolding over
fresh n zero d = refl
fresh zero (suc v) d = refl
fresh {A = A} (suc n) (suc v) d = ap (λ (t : List A). d ∷ t) (fresh n v d)

-- a row of zeros with f added
fresh_row : (n v : ℕ) (f : ℕ → ℕ) → ((j : ℕ) → v ≤ j → f j ≡ 0) → row_more f (replicate n 0) ≡ over v f (replicate n 0)
fresh_row n v f h = ap (row_more f) (fresh n v 0) ∙ each_over _ v _ _ (λ j x l. omega (arith, h j l)) ∙ over_ext v _ _ _ (λ j l. omega arith)

-- rows of zeros with f added
fresh_rows : (n v u : ℕ) (f : ℕ → ℕ → ℕ) → ((i j : ℕ) → v ≤ i → f i j ≡ 0) → ((i j : ℕ) → u ≤ j → f i j ≡ 0)
    → table_more f (replicate n (replicate 50 0)) ≡ over v (λ i. over u (f i) (replicate 50 0)) (replicate n (replicate 50 0))
fresh_rows n v u f h g =
    ap (table_more f) (fresh n v (replicate 50 0)) ∙ each_over _ v _ _ (λ i r l. each_same _ r (λ j x. omega (arith, h i j l)))
    ∙ over_ext v _ _ _ (λ i l. fresh_row 50 u (f i) (g i))

-- a table of zeros with f added, which is 0 beyond v objects
pub fresh_table : (v : ℕ) (f : ℕ → ℕ → ℕ) → ((i j : ℕ) → v ≤ i → f i j ≡ 0) → ((i j : ℕ) → v ≤ j → f i j ≡ 0) → table_more f no_table ≡ table_of v f
unfolding table_of
fresh_table v f h g = fresh_rows 50 v v f h g

-- an entry of a table of zeros
pub zero-entry : (i j : ℕ) → entry no_table i j ≡ 0
zero-entry i j = rows 50 i
  where
    row : (n j : ℕ) → get_or (replicate {A = ℕ} n 0) j 0 ≡ 0
    row zero j = refl
    row (suc n) zero = refl
    row (suc n) (suc j) = row n j

    rows : (n i : ℕ) → entry (replicate n (replicate 50 0)) i j ≡ 0
    rows zero i = refl
    rows (suc n) zero = row 50 j
    rows (suc n) (suc i) = rows n i
