use Rattle.codes.specs.Meaning.{as_told}
use Rattle.table.proofs.Places.{number_is}
use Rattle.table.proofs.answers.place.Goals as goal

pub returns : goal.returns
returns c = cc (number_is c.args.game.pegs (as_told c.args.feedback) c.requires)
