use Rattle.table.proofs.Entries.{game_table}
use Rattle.table.proofs.laws.is_game_table.Goals as goal

pub returns : goal.returns
returns c = game_table
