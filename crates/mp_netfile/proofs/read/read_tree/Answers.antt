use Rattle.std.proofs.Common.{arith}
use Rattle.toml.specs.View.{table_view}
use Rattle.toml.proofs.Views.{view-Table}
use Rattle.mp_netfile.proofs.Texts.{meaning-no_utf8, meaning-tree}
use Rattle.mp_netfile.proofs.Joined.{few_tables}
use Rattle.mp_netfile.proofs.read.read_tree.Goals as goal

pub returns-in-Err-clause-err : goal.returns-in-Err-clause-err
returns-in-Err-clause-err c =
    rw c.at_top-in-Err.ensures (meaning-no_utf8 c.args.bytes.now (omega arith) c.in-Err.ensures.cases.0)

pub returns-in-Ok-table_from_str-clause-ok : goal.returns-in-Ok-table_from_str-clause-ok
returns-in-Ok-table_from_str-clause-ok c =
    let text = c.in-Ok.ensures.cases in
    rw (view-Table c.in-Ok-table_from_str.table)
    (meaning-tree c.args.bytes.now c.in-Ok.text.now (table_view c.in-Ok-table_from_str.table) (omega arith) text.0 text.1 c.in-Ok-table_from_str.ensures.ok)

pub returns-in-Ok-table_from_str-clause-few : goal.returns-in-Ok-table_from_str-clause-few
returns-in-Ok-table_from_str-clause-few c =
    let text = c.in-Ok.ensures.cases in
    rw (view-Table c.in-Ok-table_from_str.table)
    (few_tables c.args.bytes.now c.in-Ok.text.now (table_view c.in-Ok-table_from_str.table) (omega arith) text.0 c.in-Ok-table_from_str.ensures.ok)
