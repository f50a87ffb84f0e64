use Rattle.std.proofs.Common.{ap, arith}
use Rattle.codes.specs.Meaning.{as_game}
use Rattle.codes.proofs.Told.{within_pegs}
use Rattle.table.proofs.game_table.told.Goals as goal

pub place-requires : goal.place-requires
place-requires c =
    let within = within_pegs (as_game c.args.game) c.args.code c.args.guess in
    omega (arith, ap (λ t. t.right) c.feedback.ensures, ap (λ t. t.near) c.feedback.ensures)
