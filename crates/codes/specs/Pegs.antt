-- Games by their numbers, rows of pegs, and the codes that have them. Assumes nothing: these are definitions.
use Rattle.std.specs.Prelude.{ℕ, ◌+◌, ◌*◌, Bool, true, ◌&&◌, List, [], ◌∷◌, length, Some, None, Option, ◌==◌, nat_le, nat_lt}
use Rattle.codes.specs.Codes.{pick, Game, how_many}

-- the game of so many pegs and colours
abbrev pub game_of : ℕ → ℕ → Game
game_of p c = record { pegs = p; colours = c }

-- is a game taken? (specs/Promise.antt, as a test)
abbrev pub is_taken : Game → Bool
is_taken g = nat_lt 0 g.pegs && nat_le g.pegs 8 && nat_lt 0 g.colours && nat_le g.colours 16 && nat_le (how_many g) 256

-- is each peg of a row of one of so many colours?
unfoldable pub coloured : ℕ → List ℕ → Bool
coloured c [] = true
coloured c (x ∷ xs) = nat_lt x c && coloured c xs

-- the number whose digits to a base are a row, the first the lowest
unfoldable pub number_of : ℕ → List ℕ → ℕ
number_of c [] = 0
number_of c (x ∷ xs) = x + c * number_of c xs

-- the code that has a row of pegs; none where the number of pegs, or the colour of one, is not the game's
abbrev pub code_of : Game → List ℕ → Option ℕ
code_of g xs = pick (length xs == g.pegs && coloured g.colours xs) (Some (number_of g.colours xs)) None
