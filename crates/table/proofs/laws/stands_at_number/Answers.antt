use Rattle.table.proofs.Numbers.{stands_at_number}
use Rattle.table.proofs.laws.stands_at_number.Goals as goal

pub returns : goal.returns
returns c = stands_at_number
