use Rattle.std.proofs.Common.{◌≡◌, ◌*◌, ◌++◌, drop}
use Rattle.std.specs.List.{flat_map}
use Rattle.codes.specs.Codes.{all_codes}
use Rattle.codes.specs.Meaning.{as_game}
use Rattle.table.specs.Table.{row_of}
use Rattle.table.proofs.game_table.tabulate.Given as goal

abbrev pub invariant-loop-guess : goal.invariant-loop-guess
invariant-loop-guess l =
    l.table ≡ flat_map (row_of (as_game l.game)) (all_codes l.guess) ++ drop (l.guess * l.shape.codes) l.initial.table
