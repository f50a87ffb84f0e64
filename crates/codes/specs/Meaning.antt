-- What the types of the code stand for. Assumes nothing: these are definitions.
use Rattle.codes.specs.Codes as rules
use Rattle.codes.specs.Pegs.{game_of}
use Rattle.codes.specs.declared.feedback.Feedback.{Feedback}
use Rattle.codes.specs.declared.game.Game.{Game}

abbrev pub as_game : Game → rules.Game
as_game g = game_of g.pegs g.colours

abbrev pub as_told : Feedback → rules.Told
as_told f = record { right = f.right; near = f.near }
