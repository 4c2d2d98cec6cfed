use Rattle.std.proofs.Common.{sym, ◌∙◌, arith}
use Rattle.toml.specs.View.{view}
use Rattle.mp_netfile.proofs.Small.{shares_in_range, per_in_range, bad_number-below}
use Rattle.mp_netfile.proofs.read.bad_number.Goals as goal

pub number_at-requires : goal.number_at-requires
number_at-requires c = omega (arith, shares_in_range (view c.args.tree.now) (sym c.has_bad_number.ensures ∙ c.if-has_bad_number.false))

pub number_at-requires-2 : goal.number_at-requires-2
number_at-requires-2 c = omega (arith, per_in_range (view c.args.tree.now) (sym c.has_bad_number.ensures ∙ c.if-has_bad_number.false))

pub first_table-requires-clause-range : goal.first_table-requires-clause-range
first_table-requires-clause-range c = omega (arith, c.number_at-2.ensures, per_in_range (view c.args.tree.now) (sym c.has_bad_number.ensures ∙ c.if-has_bad_number.false))

pub returns : goal.returns
returns c = c.first_table.ensures ∙ bad_number-below (view c.args.tree.now) c.number_at.result c.number_at-2.result c.number_at.ensures c.number_at-2.ensures
