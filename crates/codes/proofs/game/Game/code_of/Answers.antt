use Rattle.std.proofs.Common.{arith, rules}
use Rattle.std.proofs.lemmas.Bool.Decides.{nat_tests}
use Rattle.codes.proofs.Rows.{numbered_none, numbered_more, numbered_fits, not_coloured}
use Rattle.codes.proofs.game.Game.code_of.Goals as goal

pub loop-peg-init : goal.loop-peg-init
loop-peg-init c =
    rw (c.into_iter-peg-iterator.ensures.into_iter_gives, c.rev-peg-items.ensures.source, c.iter.ensures.rest) (numbered_none _ _)

pub returns-then-peg-colours : goal.returns-then-peg-colours
returns-then-peg-colours c =
    let no = not_coloured _ _ _ _ _ _ c.loop-peg.invariant c.in-Some.ensures.steps (omega arith) in
    grind (arith, nat_tests, c.colours-colours.ensures)

pub overflow_mul-code : goal.overflow_mul-code
overflow_mul-code c =
    let most = rw (← c.colours-colours.ensures) at c.args.self.taken.4 in
    let small = numbered_fits _ _ _ _ _ c.loop-peg.invariant (omega arith) (omega arith) (omega arith) most in
    search rules

pub overflow_add-code : goal.overflow_add-code
overflow_add-code c =
    let most = rw (← c.colours-colours.ensures) at c.args.self.taken.4 in
    let small = numbered_fits _ _ _ _ _ c.loop-peg.invariant (omega arith) (omega arith) (omega arith) most in
    search rules

pub loop-peg-preserved : goal.loop-peg-preserved
loop-peg-preserved c = numbered_more _ _ _ _ _ _ c.loop-peg.invariant c.in-Some.ensures.steps (omega arith)
