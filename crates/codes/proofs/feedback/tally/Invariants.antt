use Rattle.codes.proofs.Tallies.{Tallied}
use Rattle.codes.proofs.feedback.tally.Given as goal

abbrev pub invariant-loop-peg : goal.invariant-loop-peg
invariant-loop-peg l = Tallied l.row l.peg-index l.counts
