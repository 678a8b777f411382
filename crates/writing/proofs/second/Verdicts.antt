-- The verdict of writing the second edition, by the first of its tests that refuses, or by none; and what an accepted one has. Assumes nothing.
use Rattle.std.proofs.Common.{Err}
use Prim.Native.Nat.{ℕ, ◌≤◌, ◌<◌}
use mathlib.Core.Path.{◌≡◌, refl, sym, ◌∙◌}
use mathlib.Core.Bool.{Bool, true, false, false≢true, ◌||◌}
use mathlib.Core.List.{List}
use native.Mathlib.Omega.{arith}
use borrow.Author.Tests.{le-leb, lt-leb, leb-true, eqb-true}
use lib.Dec.{eqb, leb}
use lib.IntN.{ℤ}
use lib.ListN.{length}
use Rattle.records.specs.declared.Head.{Head}
use Rattle.records.specs.declared.Refusal.{Refusal}
use Rattle.meaning.specs.Design.{objects, blocks, sized, list_length}
use Rattle.meaning.specs.Refusals.{Verdict, accepted, refused, ◌⨾◌, room, sizes, length_is}
use Rattle.meaning.specs.Calls.{slices, contents, job_verdict}
use Rattle.meaning.specs.Edition2.{names_length, names_fit, file_length2, write_verdict2}
use Rattle.laws.proofs.Chains.{opened, held, accepts, goes_on}

-- ---- the names

module _ (h : Head) (names : List ℕ) where
  -- names that fit are few
  pub names-most : names_fit h names ≡ accepted → objects h ≤ 50 → length names ≤ 400
  names-most e l =
      by (eqb (length names) 0) (eqb (length names) (names_length h)) refl refl
      (held (eqb (length names) 0 || eqb (length names) (names_length h)) 3 0 e)
    where
      by : (a b : Bool) → eqb (length names) 0 ≡ a → eqb (length names) (names_length h) ≡ b → a || b ≡ true → length names ≤ 400
      by true b f g t = omega (arith, eqb-true (length names) 0 f)
      by false true f g t = omega (arith, eqb-true (length names) (names_length h) g)
      by false false f g t = absurd (false≢true t)

-- ---- the verdict

module _ (h : Head) (d : List ℕ) (y : List ℤ) (w : ℕ) (M : ℤ) (names : List ℕ) (len : ℕ) where
  abbrev all : Verdict
  all = write_verdict2 h d y w M names len

  pub slices_refuse : (why : Refusal) → slices h d y ≡ Err why → all ≡ Err why
  unfolding write_verdict2
  slices_refuse why e = rw e refl

  module _ (sliced : slices h d y ≡ accepted) where
    -- then the sizes fit
    pub sizes_there : sized h ≡ true
    unfolding slices
    sizes_there = held (sized h) 4 0 (opened (sizes h) (length_is (length d) (list_length h))
        (opened (sizes h ⨾ length_is (length d) (list_length h)) (length_is (length y) (blocks h)) sliced).0).0

    pub names_refuse : (why : Refusal) → names_fit h names ≡ Err why → all ≡ Err why
    unfolding write_verdict2
    names_refuse why e = rw (sliced, e) refl

    module _ (named : names_fit h names ≡ accepted) where
      pub job_refuses : (why : Refusal) → job_verdict h d y w M ≡ Err why → all ≡ Err why
      unfolding write_verdict2 job_verdict
      job_refuses why e =
          let f : contents h d y w M ≡ Err why = sym (goes_on (contents h d y w M) sliced) ∙ e in
          rw (sliced, named, f) refl

      module _ (sound : job_verdict h d y w M ≡ accepted) where
        holds : contents h d y w M ≡ accepted
        unfolding job_verdict
        holds = sym (goes_on (contents h d y w M) sliced) ∙ sound

        pub no_room : len < file_length2 h names → all ≡ refused 10 0
        unfolding write_verdict2
        no_room l = rw (sliced, named, holds, lt-leb (file_length2 h names) len l) refl

        pub there : file_length2 h names ≤ len → all ≡ accepted
        unfolding write_verdict2
        there l = rw (sliced, named, holds, le-leb (file_length2 h names) len l) refl

  -- an accepted one has an accepted job, and its room
  pub accepted_has : all ≡ accepted → (job_verdict h d y w M ≡ accepted) × (file_length2 h names ≤ len)
  unfolding write_verdict2 job_verdict
  accepted_has e =
      let a = opened (slices h d y ⨾ names_fit h names ⨾ contents h d y w M) (room len (file_length2 h names)) e in
      let b = opened (slices h d y ⨾ names_fit h names) (contents h d y w M) a.0 in
      (accepts (opened (slices h d y) (names_fit h names) b.0).0 b.1, leb-true _ _ (held (leb (file_length2 h names) len) 10 0 a.1))
