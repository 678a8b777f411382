-- What a lent buffer holds after a call. Assumes nothing.
use Rattle.std.specs.Prelude.{ℕ, zero, suc, ◌+◌, cond, List, [], ◌∷◌, ◌≡◌, ltb, set}

-- l, with f 0 .. f (k - 1) in the place of its first k entries; later entries stay
unfoldable pub over : {A : Type 0} → ℕ → (ℕ → A) → List A → List A
over zero f l = l
over (suc k) f [] = []
over (suc k) f (x ∷ l) = f 0 ∷ over k (λ (i : ℕ). f (suc i)) l

-- the place after `at`; the last number of a usize stays
abbrev pub bump : ℕ → ℕ
bump at = cond (ltb at 18446744073709551615) (at + 1) at

-- the buffer and the place after the bytes of s, one by one from `at` on; a byte past the end is dropped, and the place counts on
unfoldable pub write : List ℕ → ℕ → List ℕ → List ℕ × ℕ
write out at [] = (out, at)
write out at (b ∷ s) = write (set out at b) (bump at) s

-- s was written into out from `at` on, and left the buffer and the place
pub record Wrote (out : List ℕ) (at : ℕ) (s : List ℕ) (after : List ℕ) (next : ℕ) : Type 0 where
  pub is : (after, next) ≡ write out at s
