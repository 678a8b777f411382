-- CALLS ON FILES OF THE SECOND EDITION (02, P7): what demands 1 and 2 say of a file, said of one of the second edition, and what the request on writing says of
-- a job that is written with names. Each call ends: accepted, or refused by a listed number at a listed place, in a listed order; a refusal changes nothing
-- that the caller lent; and what is handed out is that of the job in the four fields. The order of reading, and the files moved, stand in Edition2.
-- Assumes nothing.
use Rattle.std.specs.Prelude.{cond, ◌||◌, List, ◌⊎◌, ◌≡◌, ℕ, ◌+◌, ◌*◌, ◌≤◌, ◌<◌, eqb, ℤ, pos, length, take, drop}
use Rattle.meaning.specs.Design.{parameters_of}
use Rattle.meaning.specs.Analysis.{numerator_of, denominator_of, deviation_of}
use Rattle.meaning.specs.Refusals.{Verdict, accepted, refused, test, ◌⨾◌}
use Rattle.meaning.specs.Calls.{word_at, spreading_of, no_parameters, no_spreading}
use Rattle.meaning.specs.File.{big, no_head, readings_at}
use Rattle.meaning.specs.Writing.{ReadsAs}
use Rattle.meaning.specs.Text.{refused_line, job_text}
use Rattle.meaning.specs.Edition2.{
  four_of,
  optional_at,
  names_at,
  read_verdict2,
  read_answer2,
  solve_verdict2,
  solving2,
  solve_answer2,
  solve_words2,
  solve_values2,
  solve_deviations2,
  text_of2,
  listed_answer2,
  listed_after2,
  file_of2,
  write_verdict2,
  written_answer2,
  written_after2,
  to_first_verdict,
}
use Rattle.demands.specs.Job.{Job, job_in, v, b}
use Rattle.demands.specs.Refusals.{Listed, four, three_blocks, three_readings, five, six, seven, eleven, eight, ten}
use Rattle.demands.specs.Outcomes.{OnRefusal, OnAcceptance, WritesOnly}

-- ---- the numbers with their places in a file of the second edition

-- an optional field starts here
pub data OptionalStart (s : List ℕ) : ℕ → Type 0 where
  first : OptionalStart s (optional_at s)
  next : (at : ℕ) → OptionalStart s at → OptionalStart s (at + 3 + big s (at + 1) 2)

-- of the four fields what is listed for a file of the first edition, but for 9, by four bytes later; 6 and 10 stay at 0
pub data Listed2 (s : List ℕ) : ℕ → ℕ → Type 0 where
  too_long : Listed2 s 4 0
  edition_past_the_end : Listed2 s 1 0
  edition_other_tag : Listed2 s 2 0
  edition_other_length : Listed2 s 3 0
  other-edition : Listed2 s 12 3
  in_the_four : (k at : ℕ) → Listed (four_of s) k at → (k ≡ 9 → ⊥) → Listed2 s k (cond (eqb k 6 || eqb k 10) at (4 + at))
  optional_past_the_end : (at : ℕ) → OptionalStart s at → Listed2 s 1 at
  optional_other_tag : (at : ℕ) → OptionalStart s at → Listed2 s 2 at
  optional_other_length : (at : ℕ) → OptionalStart s at → Listed2 s 3 at
  optional-field : Listed2 s 13 (optional_at s)

-- a verdict accepts, or refuses by a listed number at a listed place
abbrev pub Ends2 : List ℕ → Verdict → Type 0
Ends2 s verdict = (verdict ≡ accepted) ⊎ ((k : ℕ) × (at : ℕ) × (verdict ≡ refused k at) × Listed2 s k at)

-- ---- a file: `read_second`, `solve_second`, `listing_second`, `to_first`

module _ (s : List ℕ) where
  open job_in (four_of s) use {head as h, initial as d, readings as y, set as w, sum as M}

  pub record SecondCalls : Type 0 where
    -- For every file each call ends: accepted, or refused by a listed number at a listed place,
    pub reading-ends : Ends2 s (read_verdict2 s)
    pub solving-ends : (words values deviations : ℕ) → Ends2 s (solve_verdict2 s words values deviations)
    pub moving_ends : (len : ℕ) → Ends2 s (to_first_verdict s len)
    -- in a listed order: that of reading, then the rooms; a refused file has a listing too
    pub solving-order : (words values deviations : ℕ) → solve_verdict2 s words values deviations ≡
        read_verdict2 s ⨾ ten words (2 * b (job_in (four_of s))) ⨾ ten values (v (job_in (four_of s))) ⨾ ten deviations (b (job_in (four_of s)))
    pub listing_order : (len : ℕ) → (listed_answer2 s len).verdict ≡ ten len (length (text_of2 s))
    -- A refusal changes nothing that the caller lent; what it hands back then holds zeros, its spread none
    pub solving-leaves : (words : List ℕ) (values deviations : List ℤ) → let verdict = solving2 s words values deviations in
        OnRefusal verdict (solve_words2 s words values deviations) words
        × OnRefusal verdict (solve_values2 s words values deviations) values
        × OnRefusal verdict (solve_deviations2 s words values deviations) deviations
    pub listing_leaves : (out : List ℕ) → OnRefusal (listed_answer2 s (length out)).verdict (listed_after2 s out) out
    pub reading-refused : let verdict = read_verdict2 s in OnRefusal verdict (read_answer2 s) (record {
      job = record { verdict = verdict; head = no_head; blocks_at = 0; readings_at = 0; set = 0; sum = pos 0 };
      names_at = 0;
    })
    pub solving-refused : (words : List ℕ) (values deviations : List ℤ) → let verdict = solving2 s words values deviations in
        OnRefusal verdict (solve_answer2 s words values deviations)
        (record { verdict = verdict; parameters = no_parameters; denominator = 0; spreading = no_spreading })
    pub listing_refused : (len : ℕ) → let verdict = (listed_answer2 s len).verdict in
        OnRefusal verdict (listed_answer2 s len) (record { verdict = verdict; length = 0 })
    -- What is handed out is that of the job in the four fields. Reading: its parts, with their places in this file, and where the names stand, 0 for none;
    pub reading_hands_back : OnAcceptance (read_verdict2 s) (read_answer2 s) (record {
      job = record { verdict = accepted; head = h; blocks_at = 14; readings_at = 4 + readings_at (four_of s); set = w; sum = M };
      names_at = names_at s;
    })
    -- solving: the words of the sides and the numerators of values and deviations in front of three rooms, the rest in its answer;
    pub solving_writes : (words : List ℕ) (values deviations : List ℤ) → solving2 s words values deviations ≡ accepted →
        WritesOnly words (solve_words2 s words values deviations) 0 (2 * b (job_in (four_of s))) (word_at h d)
        × WritesOnly values (solve_values2 s words values deviations) 0 (v (job_in (four_of s))) (numerator_of h d y w M)
        × WritesOnly deviations (solve_deviations2 s words values deviations) 0 (b (job_in (four_of s))) (deviation_of h d y)
    pub solving_hands_back : (words : List ℕ) (values deviations : List ℤ) →
        OnAcceptance (solving2 s words values deviations) (solve_answer2 s words values deviations)
        (record { verdict = accepted; parameters = parameters_of h d; denominator = denominator_of h d w; spreading = spreading_of h d y })
    -- listing: its text, or of a refused file the number and the place alone, in front of the room, with its length; later bytes stay, and 64 KiB are enough
    pub printed : read_verdict2 s ≡ accepted → text_of2 s ≡ job_text h d y w M
    pub refusal-printed : (k at : ℕ) → read_verdict2 s ≡ refused k at → text_of2 s ≡ refused_line k at
    pub text_is_short : length (text_of2 s) ≤ 65536
    pub listing_writes : (out : List ℕ) → (listed_answer2 s (length out)).verdict ≡ accepted →
        (take (length (text_of2 s)) (listed_after2 s out) ≡ text_of2 s) × (drop (length (text_of2 s)) (listed_after2 s out) ≡ drop (length (text_of2 s)) out)
    pub listing_hands_back : (len : ℕ) →
        OnAcceptance (listed_answer2 s len).verdict (listed_answer2 s len) (record { verdict = accepted; length = length (text_of2 s) })
    -- (other tags are kept and skipped: accepted files with the same four fields are read, solved and listed alike)
    pub others_skipped : (u : List ℕ) → read_verdict2 s ≡ accepted → read_verdict2 u ≡ accepted → four_of s ≡ four_of u →
        ((read_answer2 s).job ≡ (read_answer2 u).job)
        × ((words : List ℕ) (values deviations : List ℤ) → solve_answer2 s words values deviations ≡ solve_answer2 u words values deviations)
        × (text_of2 s ≡ text_of2 u)

-- ---- a job, written with names: `write_second`

module _ (j : Job) (names : List ℕ) where
  open j use {head as h, initial as d, readings as y, set as w, sum as M}

  -- how many bytes its file has: the edition field, the four fields, and the names with the start of their field, where there are any
  abbrev names_size : ℕ
  names_size = cond (eqb (length names) 0) 0 (3 + length names)

  abbrev size : ℕ
  size = 4 + (32 + 2 * h.p * h.m + 4 * (h.m * h.n)) + names_size

  pub record WritingSecond : Type 0 where
    -- Refusals: as for writing, with 3 for names other than none or eight bytes for each object, after the other lengths, and 10 last
    pub order : (len : ℕ) → write_verdict2 h d y w M names len ≡
        four j ⨾ three_blocks j ⨾ three_readings j ⨾ test (eqb (length names) 0 || eqb (length names) (8 * v j)) 3 0
        ⨾ five j ⨾ six j ⨾ seven j ⨾ eleven j ⨾ eight j ⨾ ten len size
    -- (a refusal leaves the room as it was and hands back no length)
    pub leaves : (out : List ℕ) → OnRefusal (write_verdict2 h d y w M names (length out)) (written_after2 h d y w M names out) out
    pub hands_back : (len : ℕ) → let verdict = write_verdict2 h d y w M names len in
        OnRefusal verdict (written_answer2 h d y w M names len) (record { verdict = verdict; length = 0 })
    -- The file is written into lent room: to its front, and later bytes stay
    pub written_in_front : (out : List ℕ) → write_verdict2 h d y w M names (length out) ≡ accepted →
        (written_answer2 h d y w M names (length out) ≡ record { verdict = accepted; length = size })
        × (take size (written_after2 h d y w M names out) ≡ file_of2 h d y w M names)
        × (drop size (written_after2 h d y w M names out) ≡ drop size out)
    -- Reading what was written gives back the same job and the same names
    pub read_back : (len : ℕ) → write_verdict2 h d y w M names len ≡ accepted → let s = file_of2 h d y w M names in
        (read_verdict2 s ≡ accepted) × ReadsAs (four_of s) h d y w M
    pub names-back : (len : ℕ) → write_verdict2 h d y w M names len ≡ accepted → 0 < length names → let s = file_of2 h d y w M names in
        take (length names) (drop (names_at s) s) ≡ names
    pub no_names_back : (len : ℕ) → write_verdict2 h d y w M names len ≡ accepted → length names ≡ 0 → names_at (file_of2 h d y w M names) ≡ 0
