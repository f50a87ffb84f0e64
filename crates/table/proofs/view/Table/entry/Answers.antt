use Rattle.std.proofs.Common.{◌∙◌}
use Rattle.table.proofs.Tables.{entry_found}
use Rattle.table.proofs.view.Table.entry.Goals as goal

pub returns : goal.returns
returns c =
    c.copied.ensures
    ∙ entry_found c.args.self.now.shape _ c.args.guess _ _ c.get.result c.in_ok-row.ensures c.get.ensures.lookup
