use Rattle.codes.proofs.Powers.{power_is}
use Rattle.codes.proofs.game.taken.count_codes.Goals as goal

pub returns : goal.returns
returns c = rw power_is c.checked_pow.ensures
