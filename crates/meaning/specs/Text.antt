-- The listing: the text that the bench prints for a file, line by line. Assumes nothing.
use Rattle.std.specs.Prelude.{None, Some, Option, Ok, Err, ℕ, zero, suc, ◌+◌, ◌/◌, ◌%◌, cond, not, ◌&&◌, List, [], ◌∷◌, ◌++◌, take, drop, length, ℤ, pos, negsuc, eqb, ltb}
use Prim.Native.Char.{code}
use Prim.Native.String.{String, [] as none, ◌∷◌ as ◌then◌}
use Rattle.records.specs.declared.Head.{Head}
use Rattle.records.specs.declared.Parameters.{Parameters}
use Rattle.records.specs.declared.Spread.{Spread}
use Rattle.records.specs.declared.Spreading.{Spreading}
use Rattle.records.specs.declared.Listed.{Listed}
use Rattle.records.specs.declared.Wide.{Wide}
use Rattle.meaning.specs.Design.{objects, blocks, parameters_of}
use Rattle.meaning.specs.Analysis.{numerator_of, denominator_of, deviation_of, vbeta}
use Rattle.meaning.specs.Wide.{value}
use Rattle.meaning.specs.Publishing.{published}
use Rattle.meaning.specs.Refusals.{Verdict, room}
use Rattle.meaning.specs.Calls.{given, spreading_of}
use Rattle.meaning.specs.File.{head_of, blocks_of, readings_of, set_of, sum_of, read_verdict}

-- a word in ASCII
unfoldable pub ascii : String → List ℕ
ascii none = []
ascii (c then s) = code c ∷ ascii s

-- the decimal digits of n, for n below 10 to the power s
unfoldable pub digits : ℕ → ℕ → List ℕ
digits zero n = []
digits (suc s) n = let higher = digits s (n / 10) in cond (ltb n 10) ((48 + n) ∷ []) (higher ++ ((48 + n % 10) ∷ []))

-- a number of a line, a space before it
abbrev pub spaced : ℕ → List ℕ
spaced n = 32 ∷ digits 20 n

-- a number of two words, a space before it
abbrev pub wide_text : Wide → List ℕ
wide_text w = 32 ∷ digits 39 (value w)

-- a number with its sign, a space before it
abbrev pub signed_text : ℤ → List ℕ
signed_text (pos n) = spaced n
signed_text (negsuc n) = 32 ∷ 45 ∷ digits 20 (suc n)

-- f 0, then f 1 .. f (n - 1)
unfoldable pub each : ℕ → (ℕ → List ℕ) → List ℕ
each zero f = []
each (suc n) f = each n f ++ f n

-- a digit of base 16, and a byte in two of them
abbrev pub hex_letter : ℕ → ℕ
hex_letter d = cond (ltb d 10) (48 + d) (55 + d)

abbrev pub hex_text : ℕ → List ℕ
hex_text x = hex_letter (x / 16) ∷ hex_letter (x % 16) ∷ []

-- a name as it is shown: a byte from ! to ~ but # and \ as itself, any other as \xNN, so that no name breaks a line or a column
abbrev pub escaped_byte : ℕ → List ℕ
escaped_byte x = cond (ltb 32 x && (ltb x 127 && (not (eqb x 35) && not (eqb x 92)))) (x ∷ []) (92 ∷ 120 ∷ hex_text x)

unfoldable pub escaped : List ℕ → List ℕ
escaped [] = []
escaped (x ∷ s) = escaped_byte x ++ escaped s

-- a name without the spaces that fill it up
unfoldable pub trimmed : List ℕ → List ℕ
trimmed [] = []
trimmed (x ∷ s) = cond (eqb x 32 && eqb (length (trimmed s)) 0) [] (x ∷ trimmed s)

-- a name of a file, in which spaces fill it up; one of spaces alone shows its first
unfoldable pub name_text : List ℕ → List ℕ
name_text s = cond (eqb (length (trimmed s)) 0) (escaped (32 ∷ [])) (escaped (trimmed s))

-- a line: its first word, its numbers, a newline
abbrev pub line : String → List ℕ → List ℕ
line word rest = ascii word ++ rest ++ (10 ∷ [])

-- v, b, r, p, L1, L2
abbrev pub design_line : Parameters → List ℕ
design_line p = line "design" (spaced p.v ++ spaced p.b ++ spaced p.r ++ spaced p.p ++ spaced p.l1 ++ spaced p.l2)

-- object, numerator, denominator, hundredths
abbrev pub value_line : ℕ → ℤ → ℕ → ℤ → List ℕ
value_line i a d hundredths = line "value" (spaced i ++ signed_text a ++ spaced d ++ signed_text hundredths)

-- block, numerator, denominator
abbrev pub dev_line : ℕ → ℤ → ℕ → List ℕ
dev_line k a d = line "dev" (spaced k ++ signed_text a ++ spaced d)

-- the last word of the listing: k, or none where there is no spread
abbrev pub last_word : Option Spread → ℕ → List ℕ
last_word (Some spread) k = spaced k
last_word None k = ascii " none"

-- Q, v·beta, f, k
abbrev pub spread_line : Spreading → List ℕ
spread_line s = line "spread" (wide_text s.q ++ spaced s.vbeta ++ spaced s.freedom ++ last_word s.spread s.hundredths)

-- the listing of an accepted job
abbrev pub job_text : Head → List ℕ → List ℤ → ℕ → ℤ → List ℕ
job_text h d y w M = design_line (parameters_of h d)
    ++ each (objects h) (λ i. value_line i (numerator_of h d y w M i) (denominator_of h d w) (published h d y w M i))
    ++ each (blocks h) (λ k. dev_line k (deviation_of h d y k) (vbeta h d))
    ++ spread_line (spreading_of h d y)

-- refused, number, place
abbrev pub refused_line : ℕ → ℕ → List ℕ
refused_line k place = line "refused" (spaced k ++ spaced place)

-- the text for a file by its verdict: the listing, or the refusal alone
abbrev pub text_under : Verdict → List ℕ → List ℕ
text_under (Ok done) s = job_text (head_of s) (blocks_of s) (readings_of s) (set_of s) (sum_of s)
text_under (Err why) s = refused_line why.number why.place

-- the text for any file
unfoldable pub text_of : List ℕ → List ℕ
text_of s = text_under (read_verdict s) s

-- what the program prints for what stands on its standard input
unfoldable pub bench_text : List ℕ → List ℕ
bench_text input = text_of (take 8192 input)

-- the answer of writing a text into lent room, and the room after: the text at its front, and later bytes stay
abbrev pub text_answer : List ℕ → ℕ → Listed
text_answer text len = record { verdict = room len (length text); length = given (room len (length text)) (length text) 0 }

abbrev pub text_after : List ℕ → List ℕ → List ℕ
text_after text out = given (room (length out) (length text)) (text ++ drop (length text) out) out

-- the same of the text for a file
abbrev pub listed_answer : List ℕ → ℕ → Listed
listed_answer s len = text_answer (text_of s) len

abbrev pub listed_after : List ℕ → List ℕ → List ℕ
listed_after s out = text_after (text_of s) out
