use Rattle.std.proofs.Common.{◌≡◌, refl, arith, rules}
use Rattle.std.proofs.lemmas.List.{take_all}
use Rattle.codes.specs.Codes.{how_many, all_codes}
use Rattle.codes.specs.Meaning.{as_game}
use Rattle.table.proofs.Filled.{filled_more}
use Rattle.table.proofs.game_table.write_row.Goals as goal

pub loop-code-init : goal.loop-code-init
unfolding all_codes
loop-code-init c = refl

pub loop-code-preserved : goal.loop-code-preserved
loop-code-preserved c = filled_more _ c.loop-code.row _ _ c.loop-code.invariant (omega arith) (search (rules, c.told.ensures))

end : (c : goal.After-loop-code) → c.loop-code.code ≡ how_many (as_game c.args.game)
end c = omega arith

pub returns : goal.returns
returns c = cc (take_all c.loop-code.code c.loop-code.row (omega arith), end c)
