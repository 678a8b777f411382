-- DEMAND 1. For every job file and every direct call it ends without a fault. A bad job is refused by a listed number at a listed place in a listed order,
-- and a refusal changes nothing that the caller lent.
-- That each call ends without a fault is by the language: a crate is proved only where every function of it ends and does nothing undefined. What each call
-- answers and leaves in a lent buffer is equated to these definitions in docs/PROMISES.md. Here stand the files; direct calls stand in Calls.
-- Assumes nothing.
use Rattle.std.specs.Prelude.{List, ◌≡◌, ℕ, ◌+◌, ◌*◌, ◌≤◌, ◌<◌, ℤ, pos, length, take, drop}
use Rattle.meaning.specs.Design.{list_length}
use Rattle.meaning.specs.Refusals.{accepted, refused, ◌⨾◌}
use Rattle.meaning.specs.Calls.{solved_under, no_parameters, no_spreading}
use Rattle.meaning.specs.File.{
  field_verdict,
  field_at,
  field_start,
  field_next,
  second_at,
  third_at,
  fourth_at,
  fields,
  read_verdict,
  solve_verdict,
  no_head,
  read_answer,
}
use Rattle.meaning.specs.Text.{refused_line, text_of, bench_text, listed_answer, listed_after}
use Rattle.demands.specs.Job.{job_in, v, b}
use Rattle.demands.specs.Refusals.{start, tagged, long, body, ten, file_tests, Ends}
use Rattle.demands.specs.Outcomes.{OnRefusal, OnAcceptance, solving, words_after, values_after, deviations_after}

-- a reader over the bytes that keeps its position, at any place, also past the end
pub record Reader (s : List ℕ) (at tag len : ℕ) : Type 0 where
  -- it looks at the field's start, tag, length and body
  pub order : field_verdict s at tag len ≡ start s at ⨾ tagged s at tag ⨾ long s at len ⨾ body s at len
  -- past the end it gives 1 there
  pub past_the_end : length s < at + 3 → field_verdict s at tag len ≡ refused 1 at
  -- a refusal leaves the position at the field's start, which is its place
  pub refused_stays : (k place : ℕ) → field_verdict s at tag len ≡ refused k place → (field_next (field_at s at tag len) at ≡ at) × (place ≡ at)
  -- an acceptance gives the body, and moves the position to the byte after it
  pub accepted_moves : field_verdict s at tag len ≡ accepted →
      (field_start (field_at s at tag len) ≡ at + 3) × (field_next (field_at s at tag len) at ≡ at + 3 + len)

module _ (s : List ℕ) where
  open job_in s use {head as h, initial as d, readings as y, set as w, sum as M}

  pub record Demand1 : Type 0 where
    -- For every job file it ends: accepted, or refused by a listed number at a listed place, in reading and in solving into rooms of any lengths,
    pub reading-ends : Ends s (read_verdict s)
    pub solving-ends : (words values deviations : ℕ) → Ends s (solve_verdict s words values deviations)
    -- in a listed order: the verdict is the first of these tests that refuses, and solving asks for its three rooms last
    pub reading-order : read_verdict s ≡ file_tests s
    pub solving-order : (words values deviations : ℕ) → solve_verdict s words values deviations ≡
        file_tests s ⨾ ten words (2 * b (job_in s)) ⨾ ten values (v (job_in s)) ⨾ ten deviations (b (job_in s))
    -- (a refused file has a listing too, which says so: that call refuses a room that is too short for the text, and nothing else)
    pub listing_order : (len : ℕ) → (listed_answer s len).verdict ≡ ten len (length (text_of s))
    -- And a refusal changes nothing that the caller lent;
    pub solving-leaves : (words : List ℕ) (values deviations : List ℤ) → let verdict = solving s words values deviations in
        OnRefusal verdict (words_after s words values deviations) words
        × OnRefusal verdict (values_after s words values deviations) values
        × OnRefusal verdict (deviations_after s words values deviations) deviations
    pub listing_leaves : (out : List ℕ) → OnRefusal (listed_answer s (length out)).verdict (listed_after s out) out
    -- what it hands back then holds zeros, its spread none
    pub reading_hands_back : OnRefusal (read_verdict s) (read_answer s)
        (record { verdict = read_verdict s; head = no_head; blocks_at = 0; readings_at = 0; set = 0; sum = pos 0 })
    pub solving_hands_back : (words values deviations : ℕ) → let verdict = solve_verdict s words values deviations in
        OnRefusal verdict (solved_under verdict h d y w)
        (record { verdict = verdict; parameters = no_parameters; denominator = 0; spreading = no_spreading })
    pub listing_hands_back : (len : ℕ) → let verdict = (listed_answer s len).verdict in
        OnRefusal verdict (listed_answer s len) (record { verdict = verdict; length = 0 })
    -- The fields are taken by a reader that keeps its position: past four fields that are in order it stands at each one's start, and then at the end
    pub reader : (at tag len : ℕ) → Reader s at tag len
    pub reader-led : fields s ≡ accepted →
        (field_next (field_at s 0 1 4) 0 ≡ second_at)
        × (field_next (field_at s second_at 2 (list_length h)) second_at ≡ third_at s)
        × (field_next (field_at s (third_at s) 3 16) (third_at s) ≡ fourth_at s)
        × (field_next (field_at s (fourth_at s) 4 (4 * b (job_in s))) (fourth_at s) ≡ length s)
    -- The program prints of a refusal its number and place alone. It reads 8,192 bytes; no valid job is longer than 6,584, so theirs is the text of all,
    -- and it is at most 64 KiB
    pub refusal-printed : (k at : ℕ) → read_verdict s ≡ refused k at → text_of s ≡ refused_line k at
    pub no_job_is_longer : read_verdict s ≡ accepted → length s ≤ 6584
    pub printed_of_the_first : bench_text s ≡ text_of s
    pub text_is_short : length (text_of s) ≤ 65536
    -- (the call that lists writes the text to the front of its room, later bytes stay, and it hands back how long the text is)
    pub listing_writes : (out : List ℕ) → (listed_answer s (length out)).verdict ≡ accepted →
        (take (length (text_of s)) (listed_after s out) ≡ text_of s) × (drop (length (text_of s)) (listed_after s out) ≡ drop (length (text_of s)) out)
    pub listing_hands_back_its_length : (len : ℕ) →
        OnAcceptance (listed_answer s len).verdict (listed_answer s len) (record { verdict = accepted; length = length (text_of s) })
