use Rattle.codes.proofs.Digits.{colour_at}
use Rattle.codes.proofs.Tallies.{tallied_more, tallied_all}
use Rattle.codes.proofs.feedback.tally.Goals as goal

pub loop-peg-preserved : goal.loop-peg-preserved
loop-peg-preserved c =
    tallied_more _ _ _ c.loop-peg.invariant c.loop-peg-test.true (colour_at _ _ _ c.requires.known c.loop-peg-test.true)

pub returns : goal.returns
returns c = tallied_all _ _ _ c.loop-peg.invariant c.loop-peg-test.false
