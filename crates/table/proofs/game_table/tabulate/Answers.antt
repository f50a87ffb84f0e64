use Rattle.std.proofs.Common.{◌≤◌, length, sym, ap, ◌∙◌, zero-mul, arith}
use Rattle.std.proofs.lemmas.Bool.Decides.{nat_tests}
use Rattle.codes.specs.Codes.{all_codes}
use Rattle.codes.specs.Meaning.{as_game}
use Rattle.table.specs.Table.{size, shape_of, row_of}
use Rattle.table.proofs.Filled.{length_row_of, rows_more, rows_all}
use Rattle.table.proofs.game_table.tabulate.Goals as goal

pub loop-guess-init : goal.loop-guess-init
unfolding all_codes
loop-guess-init c = rw zero-mul

pub loop-guess-preserved : goal.loop-guess-preserved
loop-guess-preserved c =
    let g = as_game c.args.game in
    let codes = ap (λ s. s.codes) c.from-shape.ensures in
    rw c.row_range.ensures.start (
    rows_more (row_of g) _ (λ q. length_row_of g q ∙ sym codes) _ _ _ _ _ c.loop-guess.invariant c.write_row.ensures
    (omega (arith, c.row_range.ensures.end)))

pub returns : goal.returns
returns c =
    let made = c.from-shape.ensures in
    let fits : size (shape_of (as_game c.args.game)) ≤ length c.args.table.now = omega (arith, ap size made) in
    record {
      value = grind (arith, nat_tests);
      after = rows_all _ _ _ _ _ fits c.loop-guess.invariant (omega (arith, ap (λ s. s.guesses) made)) (ap (λ s. s.codes) made);
    }
