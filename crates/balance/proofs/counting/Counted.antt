-- The meetings that are counted in the words of some blocks are their company and their opposition.
--     tally-none, tally-more, tally-most            one turn of the count
--     filled_none, filled_more, filled_most         one turn of the tables
--     words-below, word-parts                       every object has a row
--     company-counted, opposition-counted           the tables counted in the words of some blocks are theirs
--     design-blocks                                 the words of a sound design
-- Assumes nothing.
use Prim.Native.Nat.{ℕ, ◌+◌, ◌*◌, ◌/◌, ◌%◌, ◌^◌, ◌≤◌, ◌<◌}
use mathlib.Core.Path.{◌≡◌, sym, ap, ap₂, ◌∙◌}
use mathlib.Core.Bool.{Bool, true, false, cond}
use mathlib.Core.List.{List}
use native.Mathlib.Omega.{arith}
use native.Mathlib.Nat.{add-le-add, lt_of_lt_of_le}
use lib.ListN.{get_or, length}
use lib.Pow.{pow_mono}
use native.Mathlib.Decide.{dec_lt}
use Rattle.algebra.proofs.Sums.{sumℕ-none, sumℕ-more, sumℕ_cong, sumℕ_le_const, sumℕ-zero}
use Rattle.records.specs.declared.Head.{Head}
use Rattle.meaning.specs.Design.{objects, blocks, occ, left, right, company_in, opposition_in}
use Rattle.meaning.specs.Calls.{word, word_at, no_table, table_of}
use Rattle.laws.proofs.Chains.{Sound}
use Rattle.laws.proofs.Occurrences.{Each, occ_absent}
use Rattle.laws.proofs.Clean.{block-once, left-objects, right-objects}
use Rattle.laws.proofs.Counting.{company_in_symmetric, opposition_in_symmetric}
use Rattle.words.proofs.Bits.{product-most}
use Rattle.words.proofs.Changing.{each_same}
use Rattle.words.proofs.Members.{word_below, company-word, opposition-word}
use Rattle.algebra.specs.Tables.{entry}
use Rattle.balance.specs.Meetings.{table_more, meetings, tally, countable, counted}
use Rattle.balance.proofs.counting.Countable.{is-countable}
use Rattle.balance.proofs.counting.Adding.{more-twice, more_cong, entry-most, zero-entry, fresh_table}

-- two objects meet at most twice in a block, whatever its words
pub meetings-most : (opposite : Bool) (l r i j : ℕ) → meetings opposite l r i j ≤ 2
meetings-most true l r i j = add-le-add (product-most l r i j) (product-most r l i j)
meetings-most false l r i j = add-le-add (product-most l l i j) (product-most r r i j)

module _ (opposite : Bool) (ws : List ℕ) (i j : ℕ) where
  -- no block
  pub tally-none : 0 ≡ tally opposite ws 0 i j
  unfolding tally
  tally-none = sumℕ-none _

  -- one block more
  pub tally-more : (b : ℕ) → tally opposite ws (b + 1) i j ≡ tally opposite ws b i j + meetings opposite (get_or ws (2 * b) 0) (get_or ws (2 * b + 1) 0) i j
  unfolding tally
  tally-more b = sumℕ-more b _

  -- at most two meetings a block
  pub tally-most : (b : ℕ) → tally opposite ws b i j ≤ b * 2
  unfolding tally
  tally-most b = sumℕ_le_const b 2 _ (λ k l. meetings-most opposite (get_or ws (2 * k) 0) (get_or ws (2 * k + 1) 0) i j)

-- ---- the tables of the blocks so far

module _ (opposite : Bool) (ws : List ℕ) where
  -- no block
  pub filled_none : {t : List (List ℕ)} → t ≡ no_table → t ≡ table_more (tally opposite ws 0) no_table
  filled_none e = e ∙ sym (each_same _ no_table (λ i r. each_same _ r (λ j x. omega (arith, tally-none opposite ws i j))))

  -- one block more: each of its sides adds its part
  pub filled_more : (b : ℕ) (f g : ℕ → ℕ → ℕ) → ((i j : ℕ) → f i j + g i j ≡ meetings opposite (get_or ws (2 * b) 0) (get_or ws (2 * b + 1) 0) i j) →
      {t u w : List (List ℕ)}
      → t ≡ table_more (tally opposite ws b) no_table → u ≡ table_more f t → w ≡ table_more g u → w ≡ table_more (tally opposite ws (b + 1)) no_table
  filled_more b f g h et eu ew =
      ew ∙ ap (table_more g) (eu ∙ ap (table_more f) et) ∙ more-twice f g _ ∙ more-twice (tally opposite ws b) _ no_table
      ∙ more_cong _ _ no_table (λ i j. omega (arith, h i j, tally-more opposite ws i j b))

  -- an entry is small
  pub filled_most : (b : ℕ) {t : List (List ℕ)} → t ≡ table_more (tally opposite ws b) no_table → (i j : ℕ) → entry t i j ≤ b * 2
  filled_most b e i j =
      omega (arith, ap (λ (t : List (List ℕ)). entry t i j) e, entry-most (tally opposite ws b) no_table i j, zero-entry i j, tally-most opposite ws i j b)

-- what holds of both words of every block holds of every word
pub word-parts : (ws : List ℕ) (b : ℕ) → ((k : ℕ) → k < b → (get_or ws (2 * k) 0 < 2 ^ 50) × (get_or ws (2 * k + 1) 0 < 2 ^ 50)) → (c : ℕ) → c < 2 * b →
    get_or ws c 0 < 2 ^ 50
word-parts ws b both c l = by (dec_lt (c % 2) 1)
  where
    by : Dec (c % 2 < 1) → get_or ws c 0 < 2 ^ 50
    by (yes even) = let e : c ≡ 2 * (c / 2) = omega arith in rw e (both (c / 2) (omega arith)).0
    by (no odd) = let e : c ≡ 2 * (c / 2) + 1 = omega arith in rw e (both (c / 2) (omega arith)).1

-- ---- the words of b blocks

-- ws has the words of b blocks of such left and such right objects, which are below v; none stands twice in a block
pub record Blocks (b v : ℕ) (lefts rights : ℕ → List ℕ) (ws : List ℕ) : Type 0 where
  pub v_most : v ≤ 50
  pub once : (k : ℕ) → k < b → (x : ℕ) → occ x (lefts k) + occ x (rights k) ≤ 1
  pub left_in : (k : ℕ) → k < b → Each (λ x. x < v) (lefts k)
  pub right_in : (k : ℕ) → k < b → Each (λ x. x < v) (rights k)
  pub left_word : (k : ℕ) → k < b → get_or ws (2 * k) 0 ≡ word (lefts k)
  pub right-word : (k : ℕ) → k < b → get_or ws (2 * k + 1) 0 ≡ word (rights k)

module _ (b v : ℕ) (lefts rights : ℕ → List ℕ) (ws : List ℕ) (w : Blocks b v lefts rights ws) where
  -- no object stands twice on the left
  left-once : (k : ℕ) → k < b → (x : ℕ) → occ x (lefts k) ≤ 1
  left-once k l x = omega (arith, w.once k l x)

  -- nor on the right
  right-once : (k : ℕ) → k < b → (x : ℕ) → occ x (rights k) ≤ 1
  right-once k l x = omega (arith, w.once k l x)

  -- no left word has a bit beyond the objects
  left_below : (k : ℕ) → k < b → get_or ws (2 * k) 0 < 2 ^ v
  left_below k l = rw (w.left_word k l) (word_below v (lefts k) (left-once k l) (w.left_in k l))

  -- nor has a right one
  right-below : (k : ℕ) → k < b → get_or ws (2 * k + 1) 0 < 2 ^ v
  right-below k l = rw (w.right-word k l) (word_below v (rights k) (right-once k l) (w.right_in k l))

  -- so every object has a row
  pub words-below : (k : ℕ) → k < b → (get_or ws (2 * k) 0 < 2 ^ 50) × (get_or ws (2 * k + 1) 0 < 2 ^ 50)
  words-below k l =
      let most : 2 ^ v ≤ 2 ^ 50 = pow_mono {j = 50} w.v_most in
      (lt_of_lt_of_le (left_below k l) most, lt_of_lt_of_le (right-below k l) most)

  -- what is counted on one side, for two objects
  tally-company : (i j : ℕ) → tally false ws b i j ≡ company_in b lefts rights i j
  unfolding tally
  tally-company i j = sumℕ_cong b _ _ (λ k l. rw (w.left_word k l, w.right-word k l)
      (ap₂ ◌+◌ (company-word (lefts k) (left-once k l) i j) (company-word (rights k) (right-once k l) i j)))

  -- what is counted on opposite sides, for two objects
  tally-opposition : (i j : ℕ) → tally true ws b i j ≡ opposition_in b lefts rights i j
  unfolding tally
  tally-opposition i j = sumℕ_cong b _ _ (λ k l. rw (w.left_word k l, w.right-word k l)
      (ap₂ ◌+◌ (opposition-word (lefts k) (rights k) (left-once k l) (right-once k l) i j)
      (opposition-word (rights k) (lefts k) (right-once k l) (left-once k l) i j)))

  -- no number beyond the objects stands in a block
  absent : (i : ℕ) → v ≤ i → (k : ℕ) → k < b → (occ i (lefts k) ≡ 0) × (occ i (rights k) ≡ 0)
  absent i m k l = (
    occ_absent i (lefts k) (λ c n e. omega (arith, w.left_in k l c n)),
    occ_absent i (rights k) (λ c n e. omega (arith, w.right_in k l c n)),
  )

  -- so none has company
  company_beyond : (i j : ℕ) → v ≤ i → company_in b lefts rights i j ≡ 0
  company_beyond i j m = sumℕ-zero b _ (λ k l. rw ((absent i m k l).0, (absent i m k l).1) (omega arith))

  -- nor opposition
  opposition_beyond : (i j : ℕ) → v ≤ i → opposition_in b lefts rights i j ≡ 0
  opposition_beyond i j m = sumℕ-zero b _ (λ k l. rw ((absent i m k l).0, (absent i m k l).1) (omega arith))

  -- a table of zeros with all meetings added is the table of company
  company_filled : table_more (tally false ws b) no_table ≡ table_of v (company_in b lefts rights)
  company_filled = more_cong _ (company_in b lefts rights) no_table tally-company
      ∙ fresh_table v (company_in b lefts rights) company_beyond (λ i j m. company_in_symmetric b lefts rights i j ∙ company_beyond j i m)

  -- or of opposition
  opposition_filled : table_more (tally true ws b) no_table ≡ table_of v (opposition_in b lefts rights)
  opposition_filled = more_cong _ (opposition_in b lefts rights) no_table tally-opposition
      ∙ fresh_table v (opposition_in b lefts rights) opposition_beyond (λ i j m. opposition_in_symmetric b lefts rights i j ∙ opposition_beyond j i m)

  module _ (few : b ≤ 1300) (long : 2 * b ≤ length ws) where
    -- the words can be counted
    can : countable ws b ≡ true
    can = is-countable ws b (record { blocks-most = few; words_long = long; below = word-parts ws b words-below })

    -- and the tables counted in them are those of the blocks
    pub company-counted : counted false ws b ≡ table_of v (company_in b lefts rights)
    unfolding counted
    company-counted = ap (λ (t : Bool). cond t (table_more (tally false ws b) no_table) no_table) can ∙ company_filled

    pub opposition-counted : counted true ws b ≡ table_of v (opposition_in b lefts rights)
    unfolding counted
    opposition-counted = ap (λ (t : Bool). cond t (table_more (tally true ws b) no_table) no_table) can ∙ opposition_filled

-- ---- the words of a sound design
module _ (h : Head) (d : List ℕ) (s : Sound h d) (ws : List ℕ) (at : (c : ℕ) → c < 2 * blocks h → get_or ws c 0 ≡ word_at h d c) where
  -- word 2k is the left of block k
  left_of_block : (k : ℕ) → k < blocks h → get_or ws (2 * k) 0 ≡ word (left h d k)
  unfolding word_at
  left_of_block k l =
      let q : 2 * k / 2 ≡ k = omega arith in
      let r : 2 * k % 2 ≡ 0 = omega arith in
      at (2 * k) (omega arith) ∙ rw (q, r)

  -- word 2k + 1 is its right
  right_of_block : (k : ℕ) → k < blocks h → get_or ws (2 * k + 1) 0 ≡ word (right h d k)
  unfolding word_at
  right_of_block k l =
      let q : (2 * k + 1) / 2 ≡ k = omega arith in
      let r : (2 * k + 1) % 2 ≡ 1 = omega arith in
      at (2 * k + 1) (omega arith) ∙ rw (q, r)

  pub design-blocks : Blocks (blocks h) (objects h) (left h d) (right h d) ws
  design-blocks = record {
    v_most = s.sizes.objects-most;
    once = block-once h d s;
    left_in = left-objects h d s;
    right_in = right-objects h d s;
    left_word = left_of_block;
    right-word = right_of_block;
  }
