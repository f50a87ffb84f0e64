-- What numbers and tables come to. Each is a statement, a type whose proof is owed. Assumes nothing.
use Rattle.std.specs.Prelude.{◌≡◌, ℕ, ◌+◌, ◌*◌, ◌<◌, List, ◌++◌, map, length, Some, ◌==◌}
use Rattle.std.specs.List.{slice_get}
use Rattle.codes.specs.Codes.{Game, how_many, Told, told_of, same, all_codes}
use Rattle.codes.specs.Promise.{Taken}
use Rattle.table.specs.Answers.{answers, answer_number, Allowed, all_right}
use Rattle.table.specs.Table.{entry, row, IsTable, shape_of, told_number, row_of, table_of, looked_up}

-- feedback that a game allows stands at its number
abbrev pub NumberStands : Type 0
NumberStands = (g : Game) (t : Told) → Allowed g t → slice_get (answers g) (answer_number g t) ≡ Some t

-- what stands at a number has that number, and is feedback that the game allows
abbrev pub StandsAtNumber : Type 0
StandsAtNumber =
    (g : Game) (i : ℕ) (t : Told) → slice_get (answers g) i ≡ Some t → (answer_number g t ≡ i) × Allowed g t

-- no two ways of being told share a number
abbrev pub NumbersDiffer : Type 0
NumbersDiffer =
    (g : Game) (s t : Told) → Allowed g s → Allowed g t → answer_number g s ≡ answer_number g t → s ≡ t

-- with p pegs there are half of (p + 1) (p + 2) ways of being told, and all right is the last
abbrev pub HowManyAnswers : Type 0
HowManyAnswers =
    (g : Game) → (2 * length (answers g) ≡ (g.pegs + 1) * (g.pegs + 2)) × (answer_number g (all_right g) + 1 ≡ length (answers g))

-- in the order of the rule book the numbers are 0, 1, 2 and so on
abbrev pub NumbersCount : Type 0
NumbersCount = (g : Game) → map (answer_number g) (answers g) ≡ all_codes (length (answers g))

-- feedback has the number of all right just if all pegs are right
abbrev pub RightNumbered : Type 0
RightNumbered =
    (g : Game) (t : Told) → Allowed g t → (answer_number g t == answer_number g (all_right g)) ≡ (t.right == g.pegs)

-- bytes that begin with the table of a game begin with a table
abbrev pub GameTable : Type 0
GameTable = (g : Game) (rest : List ℕ) → IsTable (shape_of g) (table_of g ++ rest)

-- the row of each guess is its row, and each entry the number of what is told
abbrev pub RowsTell : Type 0
RowsTell = (g : Game) (rest : List ℕ) (q : ℕ) → q < how_many g → row (shape_of g) (table_of g ++ rest) q ≡ row_of g q

abbrev pub EntriesTell : Type 0
EntriesTell =
    (g : Game) (rest : List ℕ) (q c : ℕ) → q < how_many g → c < how_many g →
    entry (shape_of g) (table_of g ++ rest) q c ≡ told_number g q c

-- an entry is the number of feedback just where that is told
abbrev pub EntriesPart : Type 0
EntriesPart =
    (g : Game) (rest : List ℕ) (q c : ℕ) (t : Told) → q < how_many g → c < how_many g → Allowed g t →
    (entry (shape_of g) (table_of g ++ rest) q c == answer_number g t) ≡ same (told_of g c q) t

-- what is looked up is what is told
abbrev pub LookUpTells : Type 0
LookUpTells =
    (g : Game) (rest : List ℕ) (q c : ℕ) → q < how_many g → c < how_many g →
    looked_up g (table_of g ++ rest) q c ≡ Some (told_of g c q)

-- all right is told on the diagonal, and nowhere else
abbrev pub Diagonal : Type 0
Diagonal =
    (g : Game) (rest : List ℕ) (q c : ℕ) → Taken g → q < how_many g → c < how_many g →
    (entry (shape_of g) (table_of g ++ rest) q c == (shape_of g).all_right) ≡ (q == c)
