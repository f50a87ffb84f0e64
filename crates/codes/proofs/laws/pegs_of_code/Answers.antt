use Rattle.codes.proofs.laws.pegs_of_code.Goals as goal
use Rattle.codes.proofs.Digits.{pegs_of_code}

pub returns : goal.returns
returns c = pegs_of_code
