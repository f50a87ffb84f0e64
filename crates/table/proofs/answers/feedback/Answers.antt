use Rattle.std.proofs.Common.{add-one, arith}
use Rattle.codes.specs.Codes.{Told}
use Rattle.table.specs.Answers.{fewer_right}
use Rattle.table.proofs.Places.{nth_number, nth_none}
use Rattle.table.proofs.answers.feedback.Goals as goal

pub loop-right-init : goal.loop-right-init
unfolding fewer_right
loop-right-init c = omega arith

pub returns-then-near-pegs : goal.returns-then-near-pegs
returns-then-near-pegs c =
    let t : Told = record { right = c.loop-right.right; near = c.loop-right.near } in
    cc (nth_number c.args.game.pegs t (omega arith))

pub loop-right-preserved : goal.loop-right-preserved
unfolding fewer_right
loop-right-preserved c = rw (add-one c.loop-right.right) (omega arith)

pub returns : goal.returns
returns c = cc (nth_none c.args.game.pegs c.loop-right.right c.loop-right.near (omega arith))
