use Rattle.wire.proofs.Format.{calls_cease, answers_cease}
use Rattle.wire.proofs.laws.cease.Goals as goal

pub returns : goal.returns
returns c = record { calls = calls_cease; answers = answers_cease }
