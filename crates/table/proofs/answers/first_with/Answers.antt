use Rattle.std.proofs.Common.{arith}
use Rattle.table.proofs.Places.{fewer_right_small, fewer_right_is}
use Rattle.table.proofs.answers.first_with.Goals as goal

pub returns : goal.returns
returns c =
    record {
      value = fewer_right_is _ _ c.requires.most;
      small = omega (arith, fewer_right_small _ _ c.requires.few c.requires.most);
    }
