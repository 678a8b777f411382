-- What an accepted move has. Assumes nothing.
use Prim.Native.Nat.{ℕ, ◌+◌, ◌≤◌}
use mathlib.Core.Path.{◌≡◌}
use mathlib.Core.List.{List}
use borrow.Author.Tests.{leb-true}
use lib.Dec.{leb}
use lib.ListN.{length}
use Rattle.meaning.specs.Refusals.{accepted, test, ◌⨾◌, room}
use Rattle.meaning.specs.File.{read_verdict}
use Rattle.meaning.specs.Edition2.{start_at, four_of, optional_at, read_verdict2, to_second_verdict, to_first_verdict}
use Rattle.laws.proofs.Chains.{opened, held}

module _ (s : List ℕ) (space : ℕ) where
  -- an accepted move has its room
  pub second-room : to_second_verdict s space ≡ accepted → 4 + length s ≤ space
  unfolding to_second_verdict
  second-room e = leb-true _ _ (held (leb (start_at + length s) space) 10 0 (opened (read_verdict s) (room space (start_at + length s)) e).1)

  pub first-room : to_first_verdict s space ≡ accepted → (read_verdict2 s ≡ accepted) × (length (four_of s) ≤ space)
  unfolding to_first_verdict
  first-room e =
      let a = opened (read_verdict2 s ⨾ test (leb (length s) (optional_at s)) 13 (optional_at s)) (room space (length (four_of s))) e in (
        (opened (read_verdict2 s) (test (leb (length s) (optional_at s)) 13 (optional_at s)) a.0).0,
        leb-true _ _ (held (leb (length (four_of s)) space) 10 0 a.1),
      )
