-- What the desk prints for a line. Assumes nothing: these are definitions.
use Rattle.std.specs.Prelude.{ℕ, ◌-◌, ◌&&◌, List, length, take, Some, None, Ok, Err, Option, Result, ◌==◌, nat_lt, slice_index}
use Rattle.codes.specs.Codes.{pick, Game, told_of}
use Rattle.codes.specs.Meaning.{as_told}
use Rattle.codes.specs.Pegs.{game_of, is_taken, code_of}
use Rattle.text.specs.Lines.{Line, skipped, row, feedback, ceases, line_of}
use Rattle.text.specs.Words.{in_words, right_and_near, refused_at}
use Rattle.wire.specs.Format.{call_of}
use Rattle.wire.specs.Meaning.{refusal_number}
use Rattle.text.specs.declared.words.Told.{Told}
use Rattle.wire.specs.declared.refusal.Refusal.{Refusal}

-- a text without a last character, where that is the given one; and a line without its line feed and carriage return
abbrev pub shortened : ℕ → List ℕ → List ℕ
shortened c cs = pick (nat_lt 0 (length cs) && slice_index cs (length cs - 1) == c) (take (length cs - 1) cs) cs

abbrev pub unended : List ℕ → List ℕ
unended cs = shortened 13 (shortened 10 cs)

-- what a guess is told of a code; refused by 3 where no such game is taken, and by 4 where one of the rows is no code of it
abbrev pub told_of_codes : Game → Option ℕ → Option ℕ → List ℕ
told_of_codes g None q = refused_at 4 0
told_of_codes g (Some c) None = refused_at 4 0
told_of_codes g (Some c) (Some q) = right_and_near (told_of g c q)

abbrev pub told_of_rows : Game → List ℕ → List ℕ → List ℕ
told_of_rows g code guess = pick (is_taken g) (told_of_codes g (code_of g code) (code_of g guess)) (refused_at 3 0)

-- what a guess is told, or why it is told nothing, in words
abbrev pub told_in_words : Result Told Refusal → List ℕ
told_in_words (Ok t) = right_and_near (as_told t.0)
told_in_words (Err r) = refused_at (refusal_number r) 0

-- nothing for a line that is passed over; the call that a row of bytes is, or how it is refused; what a guess is told; and a
-- refusal of any other line
abbrev pub reply : Line → Option (List ℕ)
reply skipped = None
reply (row bs) = Some (in_words (call_of bs))
reply (feedback p c code guess) = Some (told_of_rows (game_of p c) code guess)
reply (ceases n) = Some (refused_at 1 n)

abbrev pub reply_to : List ℕ → Option (List ℕ)
reply_to cs = reply (line_of (unended cs))
