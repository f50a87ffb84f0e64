-- The ways of being told, by number. Assumes nothing: these are definitions.
use Rattle.std.specs.Prelude.{ℕ, zero, suc, ◌+◌, ◌-◌, ◌≤◌, List, [], ◌∷◌, Some, None, Option, nat_le}
use Rattle.codes.specs.Codes.{pick, Game, Told, same, all_told}

-- all that a guess can be told in a game, by right and then near
abbrev pub answers : Game → List Told
answers g = all_told g.pegs g.pegs

-- the place of what was told in a list, from 0; the list's length if it is not there
unfoldable pub place_in : List Told → Told → ℕ
place_in [] t = 0
place_in (u ∷ us) t = pick (same u t) 0 (suc (place_in us t))

-- the number of what was told: its place among all answers
abbrev pub answer_number : Game → Told → ℕ
answer_number g t = place_in (answers g) t

-- a game allows what is told of no more pegs than it has; that has a number, and nothing else does
abbrev pub Allowed : Game → Told → Type 0
Allowed g t = t.right + t.near ≤ g.pegs

abbrev pub numbered : Game → Told → Option ℕ
numbered g t = pick (nat_le (t.right + t.near) g.pegs) (Some (answer_number g t)) None

abbrev pub all_right : Game → Told
all_right g = record { right = g.pegs; near = 0 }

-- how many answers, of so many pegs, have fewer right than so many
unfoldable pub fewer_right : ℕ → ℕ → ℕ
fewer_right p zero = 0
fewer_right p (suc r) = fewer_right p r + suc (p - r)
