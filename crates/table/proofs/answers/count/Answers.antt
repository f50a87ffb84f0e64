use Rattle.std.proofs.Common.{add-one}
use Rattle.table.proofs.Places.{length_all_told}
use Rattle.table.proofs.answers.count.Goals as goal

pub returns : goal.returns
returns c = let p = c.args.game.pegs in cc (length_all_told p p, add-one p)
