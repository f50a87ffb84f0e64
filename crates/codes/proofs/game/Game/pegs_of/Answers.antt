use Rattle.std.proofs.Common.{arith}
use Rattle.codes.specs.Meaning.{as_game}
use Rattle.codes.proofs.Rows.{written_more, written_row}
use Rattle.codes.proofs.game.Game.pegs_of.Goals as goal

pub loop-peg-preserved : goal.loop-peg-preserved
loop-peg-preserved c = written_more _ _ _ _ _ c.loop-peg.invariant (omega arith) (omega arith)

pub returns : goal.returns
returns c =
    let g = as_game c.args.self in
    let at = c.loop-peg-test.false in
    let row =
    written_row _ _ g _ _ _ _ c.loop-peg.invariant at c.loop-peg.auto.peg-items c.colours-colours.ensures c.pegs.ensures.value
    (omega arith)
    in
    record { pegs = row.0; rest = row.1 }
