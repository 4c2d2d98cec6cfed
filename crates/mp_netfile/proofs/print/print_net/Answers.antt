use Rattle.std.proofs.Common.{◌≡◌, Some, Err, true, false, ap, ◌∙◌, sym}
use Rattle.std.proofs.lemmas.Bool.{false≢true}
use Rattle.std.proofs.lemmas.Str.{IsUtf8-string_bytes}
use Rattle.std.specs.Prelude.{string_bytes}
use Rattle.toml.specs.Data.{members_have_valid_dates}
use Rattle.toml.specs.View.{table_view}
use Rattle.mp_netfile.specs.Meaning.{meaning_of, tree_of}
use Rattle.mp_netfile.specs.Printed.{network_tree}
use Rattle.mp_netfile.proofs.Depths.{members_depth-network_tree, dates-network_tree}
use Rattle.mp_netfile.proofs.PrintedRules.{tree_read}
use Rattle.mp_netfile.proofs.print.print_net.Goals as goal

pub returns-in-Ok-clause-tree : goal.returns-in-Ok-clause-tree
returns-in-Ok-clause-tree c =
    let tree = c.in_ok-table.ensures.tree in
    tree_read c.args.net.now _ (IsUtf8-string_bytes c.in-Ok.text) (c.in-Ok.ensures.reads_back (rw tree (members_depth-network_tree c.args.net.now)) ∙ ap Some tree)

pub returns-in-Ok-clause-means : goal.returns-in-Ok-clause-means
returns-in-Ok-clause-means c =
    let tree = c.in_ok-table.ensures.tree in
    let read : tree_of (string_bytes c.in-Ok.text) ≡ Some (network_tree c.args.net.now) =
    tree_read c.args.net.now _ (IsUtf8-string_bytes c.in-Ok.text) (c.in-Ok.ensures.reads_back (rw tree (members_depth-network_tree c.args.net.now)) ∙ ap Some tree) in
    ap meaning_of read ∙ c.in_ok-table.ensures.means

pub unreachable-requires : goal.unreachable-requires
unreachable-requires c =
    let invalid : members_have_valid_dates (table_view c.in_ok-table.table) ≡ false = c.in-Err.ensures.dates.0 (ap Err c.in-DateInvalid.is) in
    let valid : members_have_valid_dates (table_view c.in_ok-table.table) ≡ true = rw c.in_ok-table.ensures.tree (dates-network_tree c.args.net.now) in
    false≢true (sym invalid ∙ valid)
