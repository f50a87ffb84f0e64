-- What a line of text asks: a row of bytes, as in `bytes 00 01 00 00 01`, or feedback, as in `feedback 4 3 0112 1011`.
-- Assumes nothing: these are definitions.
use Rattle.std.specs.Prelude.{ℕ, ◌+◌, ◌*◌, max, Bool, true, false, ◌||◌, List, [], ◌∷◌, ◌++◌, map, drop, Some, None, Ok, Err, codes, Option, Result, ◌==◌, slice_index}
use Rattle.std.specs.List.{list_all, prefix_len, zip}
use Rattle.codes.specs.Codes.{pick}
use Rattle.text.specs.Fields.{digit, value, Ends, field_ends, digits_of, number_in}

-- nothing, since it is blank or a comment; a row of bytes; how many pegs and colours a game has, with a code and a guess;
-- or none of these, since it ceases to be such a line at a place
pub data Line : Type 0 where
  skipped : Line
  row : List ℕ → Line
  feedback : ℕ → ℕ → List ℕ → List ℕ → Line
  ceases : ℕ → Line

-- a line of blanks, tabs and carriage returns, or one that begins with #
abbrev pub white : ℕ → Bool
white c = c == 32 || c == 9 || c == 13

abbrev pub blank : List ℕ → Bool
blank cs = list_all white cs

abbrev pub comment : List ℕ → Bool
comment [] = false
comment (c ∷ cs) = c == 35

-- how far a text goes along with a word
abbrev pub along : List ℕ → List ℕ → ℕ
along ws cs = prefix_len (λ (p : ℕ × ℕ). p.0 == p.1) (zip ws cs)

-- the byte of a blank, a high digit and a low one, or how much of them is there
abbrev pub byte_of : Bool → Option ℕ → Option ℕ → Result ℕ ℕ
byte_of false h l = Err 0
byte_of true None l = Err 1
byte_of true (Some h) None = Err 2
byte_of true (Some h) (Some l) = Ok (16 * h + l)

-- the byte at the front of a text; past its end stands 0, which is no blank and no digit
abbrev pub front_byte : List ℕ → Result ℕ ℕ
front_byte cs = byte_of (slice_index cs 0 == 32) (digit (slice_index cs 1)) (digit (slice_index cs 2))

abbrev pub before : List ℕ → Line → Line
before bs skipped = skipped
before bs (row cs) = row (bs ++ cs)
before bs (feedback p c code guess) = feedback p c code guess
before bs (ceases n) = ceases n

-- a byte at a place, then those after it; or none, and the line ceases as far behind the place as was there
abbrev pub byte_then : ℕ → Result ℕ ℕ → Line → Line
byte_then at (Ok b) l = before (b ∷ []) l
byte_then at (Err n) l = ceases (at + n)

-- the bytes from a place on, each of three characters
abbrev pub bytes_from : ℕ → List ℕ → Line
bytes_from at [] = row []
bytes_from at (s ∷ []) = byte_then at (front_byte (s ∷ [])) (row [])
bytes_from at (s ∷ (h ∷ [])) = byte_then at (front_byte (s ∷ (h ∷ []))) (row [])
bytes_from at (s ∷ (h ∷ (l ∷ cs))) = byte_then at (front_byte (s ∷ (h ∷ (l ∷ cs)))) (bytes_from (at + 3) cs)

-- what fields say that begin at a place and end where they do
abbrev pub feedback_in : List ℕ → ℕ → Result Ends ℕ → Line
feedback_in cs start (Ok e) =
    feedback (number_in (digits_of cs start e.0)) (number_in (digits_of cs e.0 e.1))
    (map value (digits_of cs e.1 e.2)) (map value (digits_of cs e.2 e.3))
feedback_in cs start (Err n) = ceases n

abbrev pub feedback_from : ℕ → List ℕ → Line
feedback_from start cs = feedback_in cs start (field_ends cs start)

-- a line that begins with neither word ceases where it has gone along with one of them furthest
abbrev pub line_of : List ℕ → Line
line_of cs =
    pick (blank cs || comment cs) skipped
    (pick (along (codes "bytes") cs == 5) (bytes_from 5 (drop 5 cs))
    (pick (along (codes "feedback") cs == 8) (feedback_from 8 cs)
    (ceases (max (along (codes "bytes") cs) (along (codes "feedback") cs)))))
