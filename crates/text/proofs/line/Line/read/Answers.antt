use Rattle.std.proofs.Common.{rules}
use Rattle.text.proofs.line.Line.read.Goals as goal

pub returns-in_ok-read_feedback-clause-ok : goal.returns-in_ok-read_feedback-clause-ok
returns-in_ok-read_feedback-clause-ok c = search (rules, c.in_ok-read_feedback.ensures.ok)
