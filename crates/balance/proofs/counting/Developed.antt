-- What a development into a room of 2,600 words leaves: its verdict is that of the block list, its words can be counted, and the tables counted in
-- them are those of the design. Assumes nothing.
use Rattle.std.proofs.Common.{Ok, Err}
use Prim.Native.Nat.{ℕ, ◌*◌, ◌≤◌, ◌<◌}
use mathlib.Core.Path.{◌≡◌, refl, sym, ap, ◌∙◌}
use mathlib.Core.Bool.{Bool, true, false}
use mathlib.Core.List.{List}
use native.Mathlib.Omega.{arith}
use borrow.Author.Tests.{le-leb}
use lib.ListN.{get_or, length}
use Rattle.algebra.specs.Buffers.{over}
use Rattle.algebra.proofs.Filling.{length_over, get_d_over}
use Rattle.records.specs.declared.Head.{Head}
use Rattle.meaning.specs.Design.{objects, blocks, left, right, company, opposition}
use Rattle.meaning.specs.Refusals.{Verdict, accepted, test, ◌⨾◌, room}
use Rattle.meaning.specs.Calls.{word_at, design_verdict, develop_verdict, words_under, company_table, opposition_table}
use Rattle.laws.proofs.Chains.{sound, given_yes}
use Rattle.balance.specs.Meetings.{counted}
use Rattle.balance.proofs.counting.Counted.{company-counted, opposition-counted, design-blocks}

module _ (h : Head) (d : List ℕ) where
  -- room for 2,600 words is always enough
  pub room_enough : develop_verdict h d 2600 ≡ design_verdict h d
  unfolding develop_verdict
  room_enough = by (design_verdict h d) refl
    where
      by : (a : Verdict) → design_verdict h d ≡ a → a ⨾ room 2600 (2 * blocks h) ≡ a
      by (Ok done) e = ap (λ (t : Bool). test t 10 0) (le-leb (2 * blocks h) 2600 (let f = (sound h d e).sizes in omega arith))
      by (Err why) e = refl

  -- the words that a development leaves in such a room where its block list is accepted
  module _ (l : List ℕ) {ws : List ℕ} (whole : length l ≡ 2600) (w : ws ≡ words_under (develop_verdict h d 2600) h d l) (e : design_verdict h d ≡ accepted) where
    pub words_left : ws ≡ over (2 * blocks h) (word_at h d) l
    words_left = w ∙ given_yes (develop_verdict h d 2600) _ _ (room_enough ∙ e)

    at : (c : ℕ) → c < 2 * blocks h → get_or ws c 0 ≡ word_at h d c
    at c m = let f = (sound h d e).sizes in
        ap (λ (t : List ℕ). get_or t c 0) words_left ∙ get_d_over (2 * blocks h) (word_at h d) l 0 c m (omega arith)

    words_long : 2 * blocks h ≤ length ws
    words_long = let f = (sound h d e).sizes in omega (arith, ap length words_left, length_over (2 * blocks h) (word_at h d) l)

    -- the tables counted in them are those of the design
    pub company-table : counted false ws (blocks h) ≡ company_table h d
    unfolding company
    company-table = let s = sound h d e in
        company-counted (blocks h) (objects h) (left h d) (right h d) ws (design-blocks h d s ws at) s.sizes.blocks-most words_long
        ∙ sym (given_yes (design_verdict h d) _ _ e)

    pub opposition-table : counted true ws (blocks h) ≡ opposition_table h d
    unfolding opposition
    opposition-table = let s = sound h d e in
        opposition-counted (blocks h) (objects h) (left h d) (right h d) ws (design-blocks h d s ws at) s.sizes.blocks-most words_long
        ∙ sym (given_yes (design_verdict h d) _ _ e)
