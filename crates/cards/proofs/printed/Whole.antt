-- What the parts of a file that are handed on come to: the four fields as a job, and the card of a file of either edition. Assumes nothing.
use Rattle.std.proofs.Common.{Ok, Err}
use mathlib.Core.Bool.{Bool, true, false, cond}
use mathlib.Core.List.{List, [], ◌++◌, append-nil}
use mathlib.Core.Path.{◌≡◌, refl, ◌∙◌}
use Prim.Native.Nat.{ℕ, ◌+◌, ◌*◌, ◌≤◌}
use native.Mathlib.Omega.{arith}
use lib.Dec.{eqb}
use lib.IntN.{ℤ}
use lib.ListN.{length, get_or}
use Rattle.records.specs.declared.Head.{Head}
use Rattle.records.specs.declared.Held.{Held}
use Rattle.meaning.specs.Design.{objects, blocks, sized, list_length}
use Rattle.meaning.specs.Refusals.{Verdict, accepted}
use Rattle.meaning.specs.Calls.{given}
use Rattle.meaning.specs.File.{head_of, readings_at, blocks_of, sum_of, readings_of, fields, read_verdict, no_head}
use Rattle.meaning.specs.Edition2.{four_of, names_tag, optional_at, names_at, read_verdict2}
use Rattle.meaning.specs.CardText.{card_text, four_text, other_lines, card_under, card_text_of, card_under2, card_text_of2}
use Rattle.laws.specs.Fits.{Fits}
use Rattle.laws.proofs.Chains.{fits}
use Rattle.laws.proofs.Files.{filed, blocks-long, numbers-long}
use Rattle.laws.proofs.Edition2.{four-inside, whole, file_job2}
use Rattle.design.specs.Within.{within}
use Rattle.design.proofs.Within.{within-sizes}
use Rattle.fields.specs.Contents.{held_in}
use Rattle.cards.specs.Printed.{printed_text}

-- ---- how many objects a head tells

pub within-most : (h : Head) → within h (objects h) ≤ 50
within-most h = by (sized h) refl
  where
    by : (b : Bool) → sized h ≡ b → cond b (objects h) 0 ≤ 50
    by true e = (fits h e).objects-most
    by false e = omega arith

-- ---- four fields, and what `held` told of them

module _ (s : List ℕ) (k : Held) (e : k ≡ held_in s) where
  -- the number of objects
  pub counted : fields s ≡ accepted → within k.head (objects k.head) ≡ objects (head_of s)
  counted f = rw e (within-sizes (head_of s) (objects (head_of s)) (fits (head_of s) (filed s f).size))

  module _ (list : List ℕ) (y : List ℤ) (l : list ≡ blocks_of s) (r : y ≡ readings_of s) where
    -- the parts of a job keep to its sizes
    pub four-parts : fields s ≡ accepted → Fits k.head × (length list ≡ list_length k.head) × (length y ≡ blocks k.head)
    four-parts f = rw (e, l, r) (fits (head_of s) (filed s f).size, blocks-long s (filed s f), numbers-long s (readings_at s) (blocks (head_of s)))

    -- and give its text
    pub four-text : (M : ℤ) → M ≡ sum_of s → card_text k.head list y k.set M ≡ four_text s
    four-text M m = rw (m, e, l, r)

-- ---- a file of the first edition: no names, no other fields

pub first-printed : (s : List ℕ) → printed_text (read_verdict s) s [] 0 0 ≡ card_text_of s
unfolding printed_text card_text_of other_lines
first-printed s = by (read_verdict s)
  where
    by : (v : Verdict) → printed_text v s [] 0 0 ≡ card_under v s
    by (Ok done) = append-nil (four_text s ++ []) ∙ append-nil (four_text s)
    by (Err why) = refl

-- ---- a file of the second edition, by what reading it told

module _ (s : List ℕ) where
  -- no place of its names is so high that it wraps
  pub names-most : given (read_verdict2 s) (names_at s) 0 ≤ 16387
  names-most = by (read_verdict2 s) refl
    where
      at : optional_at s ≤ 16384 → (b : Bool) → cond b (optional_at s + 3) 0 ≤ 16387
      at h true = omega arith
      at h false = omega arith

      by : (v : Verdict) → read_verdict2 s ≡ v → given v (names_at s) 0 ≤ 16387
      by (Ok done) e =
          let w = whole s (file_job2 s e).0 in
          at (omega (arith, four-inside s w.edition_there.long, w.short)) (eqb (get_or s (optional_at s) 0) names_tag)
      by (Err why) e = omega arith

  -- where the names start by its answer, and where the fields after them do by its head
  abbrev pub names_by : Verdict → ℕ
  names_by v = given v (names_at s) 0

  abbrev pub others_by : Verdict → ℕ
  others_by v = let head = given v (head_of (four_of s)) no_head in cond (eqb (names_by v) 0) (optional_at s) (names_by v + 8 * within head (objects head))

  second-printed : printed_text (read_verdict2 s) (four_of s) s (names_by (read_verdict2 s)) (others_by (read_verdict2 s)) ≡ card_text_of2 s
  unfolding printed_text card_text_of2
  second-printed = by (read_verdict2 s) refl
    where
      by : (v : Verdict) → read_verdict2 s ≡ v → printed_text v (four_of s) s (names_by v) (others_by v) ≡ card_under2 v s
      by (Ok done) e =
          let h = head_of (four_of s) in
          let f = fits h (filed (four_of s) (whole s (file_job2 s e).0).four).size in
          rw (within-sizes h (objects h) f)
      by (Err why) e = refl

  -- the text that is printed of what reading told
  pub second_told : {v : Verdict} {four : List ℕ} {names others : ℕ} → v ≡ read_verdict2 s → four ≡ four_of s →
      names ≡ names_by (read_verdict2 s) → others ≡ others_by (read_verdict2 s) → printed_text v four s names others ≡ card_text_of2 s
  second_told p q n o = (λ j. printed_text (p j) (q j) s (n j) (o j)) ∙ second-printed
