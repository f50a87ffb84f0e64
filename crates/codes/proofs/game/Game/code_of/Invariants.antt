use Rattle.codes.proofs.Rows.{Numbered}
use Rattle.codes.proofs.game.Game.code_of.Given as goal

abbrev pub invariant-loop-peg : goal.invariant-loop-peg
invariant-loop-peg l = Numbered l.colours l.row l.peg-iterator.iter.rest.now l.code
