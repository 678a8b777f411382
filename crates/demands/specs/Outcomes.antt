-- What a call leaves of a lent room, and what it hands back, where it refuses and where it accepts. Assumes nothing.
use Rattle.std.specs.Prelude.{List, ◌≡◌, ℕ, ◌+◌, ◌≤◌, ◌<◌, ℤ, length, get_or}
use Rattle.meaning.specs.Refusals.{Verdict, accepted, refused}
use Rattle.meaning.specs.Calls.{words_under, values_under, deviations_under}
use Rattle.meaning.specs.File.{solve_verdict}
use Rattle.demands.specs.Job.{job_in}

-- where the call refuses, this is what is left: of a room the room as it was, of an answer zeros
abbrev pub OnRefusal : {A : Type 0} → Verdict → A → A → Type 0
OnRefusal verdict after nothing = (k at : ℕ) → verdict ≡ refused k at → after ≡ nothing

-- where the call accepts, this is what is handed back
abbrev pub OnAcceptance : {A : Type 0} → Verdict → A → A → Type 0
OnAcceptance verdict after answer = verdict ≡ accepted → after ≡ answer

-- of a room that was written, `count` entries from `first` on are those of f; every other entry stays, and the room is as long as it was
pub record WritesOnly {A : Type 0} (before after : List A) (first count : ℕ) (f : ℕ → A) : Type 0 where
  pub as_long : length after ≡ length before
  pub own : (i : ℕ) (z : A) → first ≤ i → i < first + count → get_or after i z ≡ f i
  pub earlier : (i : ℕ) (z : A) → i < first → get_or after i z ≡ get_or before i z
  pub later : (i : ℕ) (z : A) → first + count ≤ i → get_or after i z ≡ get_or before i z

-- ---- solving a file into three rooms: the verdict, and each room after
module _ (s : List ℕ) (words : List ℕ) (values deviations : List ℤ) where
  open job_in s use {head as h, initial as d, readings as y, set as w, sum as M}

  abbrev pub solving : Verdict
  solving = solve_verdict s (length words) (length values) (length deviations)

  abbrev pub words_after : List ℕ
  words_after = words_under solving h d words

  abbrev pub values_after : List ℤ
  values_after = values_under solving h d y w M values

  abbrev pub deviations_after : List ℤ
  deviations_after = deviations_under solving h d y deviations
