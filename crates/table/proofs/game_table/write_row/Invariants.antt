use Rattle.std.proofs.Common.{◌≡◌, map, take}
use Rattle.codes.specs.Codes.{all_codes}
use Rattle.codes.specs.Meaning.{as_game}
use Rattle.table.specs.Table.{told_number}
use Rattle.table.proofs.game_table.write_row.Given as goal

abbrev pub invariant-loop-code : goal.invariant-loop-code
invariant-loop-code l = take l.code l.row ≡ map (told_number (as_game l.game) l.guess) (all_codes l.code)
