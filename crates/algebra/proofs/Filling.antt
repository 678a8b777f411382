-- Laws of `over`: a loop that writes a list from the front, one store a turn. For a list of anything: of numbers, of rows.
--     over_none    with none written it is the list
--     over-step    a store of f i at i makes it the same at i + 1
--     over-end     where i has come to v
--     over-over    what was written over again
--     lent_back    a part that was lent as `&mut xs[m..]` and written over, put back
--     over-lent    the same behind a part that was written before
--     over_full    a room that is full stays as it is
--     over-long    and it keeps its length
--     over_join    a part from m on that was lent and written over, put back behind the first m
-- Assumes nothing.
use mathlib.Core.Path.{◌≡◌, refl, sym, ap, ap₂, ◌∙◌}
use mathlib.Core.List.{List, [], ◌∷◌, ◌++◌, append-nil}
use Prim.Native.Nat.{ℕ, zero, suc, ◌+◌, ◌-◌, ◌≤◌, ◌<◌}
use native.Mathlib.Nat.{le_of_eq, le_of_suc-le-suc, not-suc-le-zero, zero-add, suc-add}
use native.Mathlib.Numerals.{add-one}
use native.Mathlib.Omega.{arith}
use lib.ListN.{length, get_or, set, take, drop, length-drop, drop_of_length-le}
use lib.Seq.{take_all}
use borrow.Rule.Slice.PartMut.{mid_of, put_mid}
use Rattle.algebra.specs.Buffers.{over}

module _ {A : Type 0} where
  -- with none written it is the list
  pub over_none : (f : ℕ → A) (l : List A) → l ≡ over 0 f l
  unfolding over
  over_none f l = refl

  set-over : (i : ℕ) (f : ℕ → A) (l : List A) → i < length l → set (over i f l) i (f i) ≡ over (suc i) f l
  unfolding over
  set-over i f [] h = absurd (not-suc-le-zero h)
  set-over zero f (x ∷ l) h = refl
  set-over (suc i) f (x ∷ l) h = ap (λ (t : List A). f 0 ∷ t) (set-over i (λ (k : ℕ). f (suc k)) l (le_of_suc-le-suc h))

  -- the length stays
  pub length_over : (v : ℕ) (f : ℕ → A) (l : List A) → length (over v f l) ≡ length l
  unfolding over
  length_over zero f l = refl
  length_over (suc v) f [] = refl
  length_over (suc v) f (x ∷ l) = ap suc (length_over v (λ (k : ℕ). f (suc k)) l)

  -- a turn of the loop: m is what the list is now, and x what is stored
  pub over-step : (i : ℕ) (f : ℕ → A) (l : List A) {x : A} {m : List A} → m ≡ over i f l → x ≡ f i → i < length l → set m i x ≡ over (i + 1) f l
  over-step i f l p q h = rw (p, q, add-one) (set-over i f l h)

  -- where i has come to v
  pub over-end : (f : ℕ → A) (l : List A) {i v : ℕ} {m : List A} → m ≡ over i f l → i ≡ v → m ≡ over v f l
  over-end f l p e = rw (← e) p

  -- equal entries below v
  pub over_ext : (v : ℕ) (f g : ℕ → A) (l : List A) → ((k : ℕ) → k < v → f k ≡ g k) → over v f l ≡ over v g l
  unfolding over
  over_ext zero f g l h = refl
  over_ext (suc v) f g [] h = refl
  over_ext (suc v) f g (x ∷ l) h = rw (h 0 (omega arith), over_ext v (λ (k : ℕ). f (suc k)) (λ (k : ℕ). g (suc k)) l (λ k hk. h (suc k) (omega arith)))

  -- what stands at a place that was written
  pub get_d_over : (v : ℕ) (f : ℕ → A) (l : List A) (d : A) (i : ℕ) → i < v → v ≤ length l → get_or (over v f l) i d ≡ f i
  unfolding over
  get_d_over zero f l d i h e = absurd (not-suc-le-zero h)
  get_d_over (suc v) f [] d i h e = absurd (not-suc-le-zero e)
  get_d_over (suc v) f (x ∷ l) d zero h e = refl
  get_d_over (suc v) f (x ∷ l) d (suc i) h e = get_d_over v (λ (k : ℕ). f (suc k)) l d i (le_of_suc-le-suc h) (le_of_suc-le-suc e)

  -- what stands at a place that was not written
  pub get_d_past : (v : ℕ) (f : ℕ → A) (l : List A) (d : A) (i : ℕ) → v ≤ i → get_or (over v f l) i d ≡ get_or l i d
  unfolding over
  get_d_past zero f l d i h = refl
  get_d_past (suc v) f [] d i h = refl
  get_d_past (suc v) f (x ∷ l) d zero h = absurd (not-suc-le-zero h)
  get_d_past (suc v) f (x ∷ l) d (suc i) h = get_d_past v (λ (k : ℕ). f (suc k)) l d i (le_of_suc-le-suc h)

  -- the first m, and then a part from m on that was written over
  pub over_join : (m k : ℕ) (f g : ℕ → A) (l : List A) → ((i : ℕ) → i < k → f i ≡ g (m + i)) →
      take m (over m g l) ++ over k f (drop m (over m g l)) ≡ over (m + k) g l
  unfolding over
  over_join zero k f g l h = over_ext k f g l (λ i hi. h i hi ∙ ap g (zero-add i)) ∙ ap (λ (n : ℕ). over n g l) (sym (zero-add k))
  over_join (suc m) zero f g [] h = ap (λ (n : ℕ). over n g []) (sym (suc-add m 0))
  over_join (suc m) (suc k) f g [] h = ap (λ (n : ℕ). over n g []) (sym (suc-add m (suc k)))
  over_join (suc m) k f g (x ∷ l) h =
      ap (λ (t : List A). g 0 ∷ t) (over_join m k f (λ (i : ℕ). g (suc i)) l (λ i hi. h i hi ∙ ap g (suc-add m i)))
      ∙ ap (λ (n : ℕ). over n g (x ∷ l)) (sym (suc-add m k))

  -- a part from m on that was lent as `&mut xs[m..]` and written over, put back behind what stands before it
  pub lent_back : (m k : ℕ) (f : ℕ → A) (xs : List A) {ys : List A} → ys ≡ over k f (mid_of m (length xs - m) xs)
      → put_mid m (length xs - m) xs ys ≡ take m xs ++ over k f (drop m xs)
  lent_back m k f xs {ys} q =
      ap₂ (λ (u v : List A). take m xs ++ (u ++ v)) (q ∙ ap (over k f) mid) post ∙ ap (λ (u : List A). take m xs ++ u) (append-nil (over k f (drop m xs)))
    where
      rest : length (drop m xs) ≤ length xs - m
      rest = le_of_eq (length-drop m xs)

      mid : take (length xs - m) (drop m xs) ≡ drop m xs
      mid = take_all (length xs - m) (drop m xs) rest

      post : drop (length xs - m) (drop m xs) ≡ []
      post = drop_of_length-le (drop m xs) rest

  -- the same behind a part that was written before
  pub over-lent : (m k : ℕ) (f g : ℕ → A) (l : List A) {xs ys : List A} → xs ≡ over m g l → ys ≡ over k f (mid_of m (length xs - m) xs)
      → ((i : ℕ) → i < k → f i ≡ g (m + i)) → put_mid m (length xs - m) xs ys ≡ over (m + k) g l
  over-lent m k f g l {xs} p q h = lent_back m k f xs q ∙ rw p (over_join m k f g l h)

  -- what was written is written over again
  pub over-over : (v : ℕ) (f g : ℕ → A) (l : List A) → over v g (over v f l) ≡ over v g l
  unfolding over
  over-over zero f g l = refl
  over-over (suc v) f g [] = refl
  over-over (suc v) f g (x ∷ l) = ap (λ (t : List A). g 0 ∷ t) (over-over v (λ (k : ℕ). f (suc k)) (λ (k : ℕ). g (suc k)) l)

-- a room that is full at i stays as it is
pub over_full : {A : Type 0} (i v : ℕ) (f : ℕ → A) (l : List A) → length l ≤ i → i ≤ v → over i f l ≡ over v f l
unfolding over
over_full zero zero f l h e = refl
over_full zero (suc v) f [] h e = refl
over_full zero (suc v) f (x ∷ l) h e = absurd (not-suc-le-zero h)
over_full (suc i) zero f l h e = absurd (not-suc-le-zero e)
over_full (suc i) (suc v) f [] h e = refl
over_full {A = A} (suc i) (suc v) f (x ∷ l) h e =
    ap (λ (t : List A). f 0 ∷ t) (over_full i v (λ (k : ℕ). f (suc k)) l (le_of_suc-le-suc h) (le_of_suc-le-suc e))

-- a room is as long after it was written
pub over-long : {A : Type 0} (k : ℕ) (f : ℕ → A) (room after : List A) → after ≡ over k f room → length after ≡ length room
over-long k f room after e = ap length e ∙ length_over k f room
