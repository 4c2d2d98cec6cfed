use Rattle.std.proofs.Common.{ap, refl, sym, ◌∙◌}
use Rattle.mp_guard.specs.GuardText.{guard_meaning}
use Rattle.mp_cli.proofs.OpeningLemmas.{reads_value, line_read, unread_refused}
use Rattle.mp_cli.proofs.opening.open_guard.Goals as goal

pub returns-in-Ok-read_guard-clause-ok : goal.returns-in-Ok-read_guard-clause-ok
returns-in-Ok-read_guard-clause-ok g c = reads_value (guard_meaning c.args.net.now) (g.St.Store.files c.args.store.now) c.args.name.now c.in-Ok.text.items c.in-Ok-read_guard.guard c.in-Ok.ensures.ok c.in-Ok.ensures.few (ap (guard_meaning c.args.net.now) (sym c.deref.ensures.value) ∙ c.in-Ok-read_guard.ensures.ok)

pub returns-in-Err-clause-refused : goal.returns-in-Err-clause-refused
returns-in-Err-clause-refused g c = unread_refused c.in-Err.outcome _ (guard_meaning c.args.net.now) (g.St.Store.files c.args.store.now) c.args.name.now c.in-Err.ensures.refused

pub returns-in-Err-Line-clause-refused : goal.returns-in-Err-Line-clause-refused
returns-in-Err-Line-clause-refused g c = (refl, line_read (guard_meaning c.args.net.now) (g.St.Store.files c.args.store.now) c.args.name.now c.in-Ok.text.items c.in-Err-Line.line c.in-Ok.ensures.ok (ap (guard_meaning c.args.net.now) (sym c.deref.ensures.value) ∙ (rw c.in-Err-Line.field-0-is at c.in-Err-Line.ensures.fault)))
