use Rattle.codes.proofs.Rows.{Written}
use Rattle.codes.proofs.game.Game.pegs_of.Given as goal

abbrev pub invariant-loop-peg : goal.invariant-loop-peg
invariant-loop-peg l = Written l.colours l.code l.peg-index l.rest l.peg-items
