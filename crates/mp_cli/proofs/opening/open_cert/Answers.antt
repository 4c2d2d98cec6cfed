use Rattle.std.proofs.Common.{ap, refl, sym, ◌∙◌}
use Rattle.mp_cert.specs.TextMeaning.{cert_meaning}
use Rattle.mp_cert.specs.Views.{cert_of}
use Rattle.mp_cli.proofs.OpeningLemmas.{reads_value, line_read, unread_refused}
use Rattle.mp_cli.proofs.opening.open_cert.Goals as goal

pub returns-in-Ok-read_cert-clause-ok : goal.returns-in-Ok-read_cert-clause-ok
returns-in-Ok-read_cert-clause-ok g c = reads_value (cert_meaning c.args.net.now) (g.St.Store.files c.args.store.now) c.args.name.now c.in-Ok.text.items (cert_of c.in-Ok-read_cert.cert) c.in-Ok.ensures.ok c.in-Ok.ensures.few (ap (cert_meaning c.args.net.now) (sym c.deref.ensures.value) ∙ c.in-Ok-read_cert.ensures.ok)

pub returns-in-Err-clause-refused : goal.returns-in-Err-clause-refused
returns-in-Err-clause-refused g c = unread_refused c.in-Err.outcome _ (cert_meaning c.args.net.now) (g.St.Store.files c.args.store.now) c.args.name.now c.in-Err.ensures.refused

pub returns-in-Err-Line-clause-refused : goal.returns-in-Err-Line-clause-refused
returns-in-Err-Line-clause-refused g c = (refl, line_read (cert_meaning c.args.net.now) (g.St.Store.files c.args.store.now) c.args.name.now c.in-Ok.text.items c.in-Err-Line.line c.in-Ok.ensures.ok (ap (cert_meaning c.args.net.now) (sym c.deref.ensures.value) ∙ (rw c.in-Err-Line.field-0-is at c.in-Err-Line.ensures.fault)))
