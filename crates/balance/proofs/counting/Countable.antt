-- The test of words that are to be counted, as a record of what it says.
--     countable_is, is-countable     the test decides the record
--     counted_yes, counted_no        the table that is handed back, by the test
-- Assumes nothing.
use Prim.Native.Nat.{ℕ, ◌*◌, ◌^◌, ◌≤◌, ◌<◌}
use mathlib.Core.Path.{◌≡◌, refl}
use mathlib.Core.Bool.{Bool, true, false, ◌&&◌}
use mathlib.Core.List.{List}
use borrow.Author.Tests.{le-leb, lt-ltb, leb-true, ltb-true}
use lib.Dec.{leb, ltb}
use lib.ListN.{get_or, length}
use Rattle.algebra.specs.Ranges.{all}
use Rattle.algebra.proofs.Tests.{and_left, and_right, all-at, all-each}
use Rattle.meaning.specs.Calls.{no_table}
use Rattle.balance.specs.Meetings.{table_more, tally, countable, counted}

-- what the test says
pub record Countable (ws : List ℕ) (b : ℕ) : Type 0 where
  pub blocks-most : b ≤ 1300
  pub words_long : 2 * b ≤ length ws
  pub below : (c : ℕ) → c < 2 * b → get_or ws c 0 < 2 ^ 50

module _ (ws : List ℕ) (b : ℕ) where
  abbrev long : Bool
  long = leb (2 * b) (length ws)

  abbrev low : ℕ → Bool
  low c = ltb (get_or ws c 0) (2 ^ 50)

  pub countable_is : countable ws b ≡ true → Countable ws b
  unfolding countable
  countable_is e =
      let few = and_left (leb b 1300 && long) (all (2 * b) low) e in
      record {
        blocks-most = leb-true _ _ (and_left (leb b 1300) long few);
        words_long = leb-true _ _ (and_right (leb b 1300) long few);
        below = λ c l. ltb-true _ _ (all-at (2 * b) low (and_right (leb b 1300 && long) (all (2 * b) low) e) c l);
      }

  pub is-countable : Countable ws b → countable ws b ≡ true
  unfolding countable
  is-countable k = rw (le-leb _ _ k.blocks-most, le-leb _ _ k.words_long) (all-each (2 * b) low (λ c l. lt-ltb _ _ (k.below c l)))

  -- words that cannot be
  pub not-countable : (Countable ws b → ⊥) → countable ws b ≡ false
  not-countable n = by (countable ws b) refl
    where
      by : (t : Bool) → countable ws b ≡ t → t ≡ false
      by true e = absurd (n (countable_is e))
      by false e = refl

  module _ (opposite : Bool) where
    -- the meetings of all blocks
    pub counted_yes : {t : List (List ℕ)} → countable ws b ≡ true → t ≡ table_more (tally opposite ws b) no_table → t ≡ counted opposite ws b
    unfolding counted
    counted_yes e is = rw e is

    -- zeros
    pub counted_no : {t : List (List ℕ)} → countable ws b ≡ false → t ≡ no_table → t ≡ counted opposite ws b
    unfolding counted
    counted_no e is = rw e is
