-- What the rules come to. Each is a statement, a type whose proof is owed. Assumes nothing.
use Rattle.std.specs.Prelude.{◌≡◌, ℕ, ◌+◌, ◌-◌, ◌<◌, ◌≤◌, List, Some}
use Rattle.codes.specs.Codes.{Game, pegs_of, how_many, told_of}
use Rattle.codes.specs.Calls.{Call, Asked, Limits, turned, after}
use Rattle.codes.specs.Pegs.{code_of}

-- the code of a code's pegs is that code
abbrev pub CodeOfPegs : Type 0
CodeOfPegs = (g : Game) (c : ℕ) → c < how_many g → code_of g (pegs_of g c) ≡ Some c

-- a row of pegs that has a code is the row of that code's pegs
abbrev pub PegsOfCode : Type 0
PegsOfCode = (g : Game) (xs : List ℕ) (c : ℕ) → code_of g xs ≡ Some c → (c < how_many g) × (pegs_of g c ≡ xs)

-- right and near together are at most the pegs
abbrev pub WithinPegs : Type 0
WithinPegs = (g : Game) (c q : ℕ) → (told_of g c q).right + (told_of g c q).near ≤ g.pegs

-- a code is told all right of itself
abbrev pub ItselfRight : Type 0
ItselfRight = (g : Game) (c : ℕ) → told_of g c c ≡ record { right = g.pegs; near = 0 }

-- all pegs but one right, and that one near, is never told
abbrev pub NeverOneNear : Type 0
NeverOneNear = (g : Game) (c q : ℕ) → told_of g c q ≡ record { right = g.pegs - 1; near = 1 } → ⊥

-- a call that is turned away changes nothing
abbrev pub TurnedKeeps : Type 0
TurnedKeeps = (l : Limits) (g : Game) (as' : List Asked) (c : Call) → 0 < turned l g as' c → after l g as' c ≡ as'
