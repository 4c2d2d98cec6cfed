use Rattle.std.proofs.Common.{◌∙◌}
use Rattle.toml.specs.View.{view}
use Rattle.mp_netfile.proofs.Small.{unknown_key-under}
use Rattle.mp_netfile.proofs.read.unknown_key.Goals as goal

pub returns : goal.returns
returns c = c.first_table.ensures ∙ unknown_key-under (view c.args.tree.now) c.version_of.result c.version_of.ensures
