use Rattle.std.proofs.Common.{◌≡◌, ◌+◌}
use Rattle.table.specs.Answers.{fewer_right}
use Rattle.table.proofs.answers.feedback.Given as goal

abbrev pub invariant-loop-right : goal.invariant-loop-right
invariant-loop-right l = fewer_right l.pegs l.right + l.near ≡ l.number
