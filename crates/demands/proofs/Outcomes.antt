-- A room that was written from its front, or in a part of its own, by what stands at each place. Assumes nothing.
use mathlib.Core.Path.{◌≡◌, ap, ◌∙◌}
use mathlib.Core.List.{List, ◌++◌}
use Prim.Native.Nat.{ℕ, ◌+◌, ◌-◌, ◌≤◌, ◌<◌}
use native.Mathlib.Omega.{arith}
use lib.ListN.{length, get_or, take, drop, length-append, length-drop, get_or-append}
use lib.Seq.{get_or-take, get_or-drop, get_or-append-add, length-take-le}
use Rattle.algebra.specs.Buffers.{over}
use Rattle.algebra.proofs.Filling.{length_over, get_d_over, get_d_past}
use Rattle.demands.specs.Outcomes.{WritesOnly}

-- the first c entries
pub writes_front : {A : Type 0} (c : ℕ) (f : ℕ → A) (room : List A) → c ≤ length room → WritesOnly room (over c f room) 0 c f
writes_front c f room l = record {
  as_long = length_over c f room;
  own = λ i z a b. get_d_over c f room z i (omega arith) l;
  earlier = λ i z a. absurd (none i a);
  later = λ i z a. get_d_past c f room z i (omega arith);
}
  where
    none : (i : ℕ) → i < 0 → ⊥
    none i a = omega arith

-- c entries from m on
pub writes_part : {A : Type 0} (m c : ℕ) (f : ℕ → A) (room : List A) → m + c ≤ length room →
    WritesOnly room (take m room ++ over c (λ i. f (m + i)) (drop m room)) m c f
writes_part {A} m c f room l = record {
  as_long = length-append (take m room) part ∙ omega (arith, front, length-drop m room, length_over c (λ i. f (m + i)) (drop m room));
  own = λ i z a b. behind i z a ∙ get_d_over c (λ i. f (m + i)) (drop m room) z (i - m) (omega arith) (omega (arith, length-drop m room)) ∙ ap f (from i a);
  earlier = λ i z a. get_or-append (take m room) part z i (omega (arith, front)) ∙ get_or-take m room i z a;
  later = λ i z a. behind i z (omega arith) ∙ get_d_past c (λ i. f (m + i)) (drop m room) z (i - m) (omega arith) ∙ get_or-drop m room (i - m) z
      ∙ ap (λ (n : ℕ). get_or room n z) (from i (omega arith));
}
  where
    part : List A
    part = over c (λ i. f (m + i)) (drop m room)

    front : length (take m room) ≡ m
    front = length-take-le m room (omega arith)

    from : (i : ℕ) → m ≤ i → m + (i - m) ≡ i
    from i a = omega arith

    -- from m on the part is read
    behind : (i : ℕ) (z : A) → m ≤ i → get_or (take m room ++ part) i z ≡ get_or part (i - m) z
    behind i z a = ap (λ (n : ℕ). get_or (take m room ++ part) n z) (omega (arith, front)) ∙ get_or-append-add (take m room) part (i - m) z
