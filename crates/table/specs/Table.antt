-- Tables: for each guess a row, and in it for each code the number of what is told. Assumes nothing: these are definitions.
use Rattle.std.specs.Prelude.{ℕ, ◌+◌, ◌*◌, ◌<◌, ◌≤◌, Bool, ◌&&◌, List, ◌++◌, map, length, drop, Some, None, Option, nat_le, nat_lt, slice_index}
use Rattle.std.specs.List.{between, flat_map, slice_get}
use Rattle.codes.specs.Codes.{pick, Game, how_many, Told, told_of, all_codes}
use Rattle.table.specs.Answers.{answers, answer_number, all_right}
use Rattle.table.specs.declared.shape.Shape.{Shape}

-- how many entries a table has
abbrev pub size : Shape → ℕ
size s = s.guesses * s.codes

-- what is told of a code for a guess, by number; and the row of a guess
abbrev pub entry : Shape → List ℕ → ℕ → ℕ → ℕ
entry s xs q c = slice_index xs (q * s.codes + c)

abbrev pub row : Shape → List ℕ → ℕ → List ℕ
row s xs q = between (q * s.codes) (q * s.codes + s.codes) xs

-- bytes that begin with a table: there are enough of them, all right is one of the answers, and so is what each entry says
pub record IsTable (s : Shape) (xs : List ℕ) : Type 0 where
  pub whole : size s ≤ length xs
  pub right : s.all_right < s.answers
  pub known : (q c : ℕ) → q < s.guesses → c < s.codes → entry s xs q c < s.answers

-- are there bytes enough for a table?
abbrev pub holds : Shape → List ℕ → Bool
holds s xs = nat_le (size s) (length xs)

-- the row of a guess and an entry of it, where there are bytes enough and such a guess, and such a code
abbrev pub row_at : Shape → List ℕ → ℕ → Option (List ℕ)
row_at s xs q = pick (holds s xs && nat_lt q s.guesses) (Some (row s xs q)) None

abbrev pub entry_at : Shape → List ℕ → ℕ → ℕ → Option ℕ
entry_at s xs q c = pick (holds s xs && nat_lt q s.guesses && nat_lt c s.codes) (Some (entry s xs q c)) None

-- the table of a game: every code is a guess, and an entry is the number of what the rule book says is told
abbrev pub shape_of : Game → Shape
shape_of g =
    record { codes = how_many g; guesses = how_many g; answers = length (answers g); all_right = answer_number g (all_right g) }

abbrev pub told_number : Game → ℕ → ℕ → ℕ
told_number g q c = answer_number g (told_of g c q)

abbrev pub row_of : Game → ℕ → List ℕ
row_of g q = map (told_number g q) (all_codes (how_many g))

unfoldable pub table_of : Game → List ℕ
table_of g = flat_map (row_of g) (all_codes (how_many g))

-- bytes after the table of a game was made in them, and its shape: what lies past it is as it was, and so are bytes that are too few
abbrev pub tabulated : Game → List ℕ → List ℕ
tabulated g xs = pick (holds (shape_of g) xs) (table_of g ++ drop (size (shape_of g)) xs) xs

abbrev pub shape_in : Game → List ℕ → Option Shape
shape_in g xs = pick (holds (shape_of g) xs) (Some (shape_of g)) None

-- what has a number, and what is told of a code for a guess by the bytes
abbrev pub told_by : Game → Option ℕ → Option Told
told_by g None = None
told_by g (Some i) = slice_get (answers g) i

abbrev pub looked_up : Game → List ℕ → ℕ → ℕ → Option Told
looked_up g xs q c = told_by g (entry_at (shape_of g) xs q c)
