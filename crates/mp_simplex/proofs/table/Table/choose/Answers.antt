use Rattle.std.proofs.Common.{rules, ◌≡◌, ◌+◌, sym, Some}
use Rattle.mp_simplex.specs.Pivoting.{leaving}
use Rattle.mp_simplex.specs.Running.{rows_in, right_in}
use Rattle.mp_simplex.proofs.RunLemmas.{can_follow}
use Rattle.mp_simplex.proofs.table.Table.choose.Goals as goal

pub returns-in-Some-Some-clause-follows : goal.returns-in-Some-Some-clause-follows
returns-in-Some-Some-clause-follows c =
    let t = c.args.self.now in
    let left : leaving (c.in-Some.k + 1) (right_in t) t.constraints (rows_in t) t.basis.items ≡ Some (Some c.in-Some-Some.row) = search (rules, c.in-Some-Some.ensures) in
    can_follow t c.in-Some.k c.in-Some-Some.row t.wide (sym c.in-Some.ensures) left
