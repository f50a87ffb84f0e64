-- What the types of the code stand for. Assumes nothing: these are definitions.
use Rattle.std.specs.Prelude.{◌≡◌, ℕ, List, Option, Some, None, codes, vec_items}
use Rattle.text.specs.Lines as lines
use Rattle.text.specs.Words.{refused_at}
use Rattle.text.specs.declared.line.Line.{Line}
use Rattle.text.specs.declared.line.Line.TheVariants.{Row, Feedback}
use Rattle.text.specs.declared.line.LineError.{LineError}
use Rattle.text.specs.declared.line.LineError.TheVariants.{Unreadable, OutOfMemory}

-- each case of a line, with what it holds
abbrev pub means : Line → lines.Line
means (Row bytes) = lines.row (vec_items bytes)
means (Feedback pegs colours code guess) = lines.feedback pegs colours (vec_items code) (vec_items guess)

-- the same; no line is one that is passed over
abbrev pub asks : Option Line → lines.Line
asks None = lines.skipped
asks (Some l) = means l

-- a line that ceases to be one at the place that an error names; running out of memory says nothing of the line
abbrev pub Refuses : LineError → lines.Line → Type 0
Refuses (Unreadable place) l = lines.ceases place ≡ l
Refuses OutOfMemory l = Unit {0}

-- an error in words: how the line is refused, or that memory ran out
abbrev pub error_in_words : LineError → List ℕ
error_in_words (Unreadable place) = refused_at 1 place
error_in_words OutOfMemory = codes "memory allocation failed"
