use Rattle.std.proofs.Common.{◌≡◌, ◌++◌, ◌-◌, arith, rules, sym, refl, ◌∙◌, ap, take, drop}
use Rattle.mp_edge.proofs.Told.{Tells-weaker, Tells-both, Tells-same}
use Rattle.mp_text.specs.Cut.{Cut}
use Rattle.mp_text.proofs.Filling.{copied_front}
use Rattle.mp_text.proofs.CuttingLemmas.{held_line, front_line, front_last, front_long, front_begins, none_held}
use Rattle.mp_text.proofs.cutter.LineCutter.next.Goals as goal

pub returns-in-Some-clause-told : goal.returns-in-Some-clause-told
returns-in-Some-clause-told g c =
    Tells-same _ _ (λ left. held_line g.row.N c.self.inside.buf c.self.inside.next c.self.inside.end c.in-Some.at c.trimmed-line.result _ _ left (omega arith) (omega arith) (omega arith)
    (ap (λ (t : Cut). t.held) (sym c.self.view_is)) (search rules) refl c.trimmed-line.ensures.within c.trimmed-line.ensures.value)

pub returns-in-Feed-clause-told : goal.returns-in-Feed-clause-told
returns-in-Feed-clause-told g c =
    let was : c.args.self.now.held ≡ take (c.self.inside.end - c.self.inside.next) (drop c.self.inside.next c.self.inside.buf) = ap (λ (t : Cut). t.held) (sym c.self.view_is) in
    let start = copied_front c.self.inside.buf c.copy_within.new.self c.self.inside.next c.self.inside.end (omega arith) (omega arith) c.copy_within.ensures.after in
    Tells-weaker _ _ _ _ (λ before now e. front_line g.row.N c.find-found.new.buf c.find-found.new.have c.in-Feed.at c.trimmed-self-inside.result _ now c.find-found.ensures.within (omega arith)
    (ap (λ xs. xs ++ before) (was ∙ sym start) ∙ e) (c.find-found.ensures.feed c.in-Feed.at c.in-Feed.is) c.trimmed-self-inside.ensures.within c.trimmed-self-inside.ensures.value) c.find-found.ensures.told

pub returns-in-Last-clause-told : goal.returns-in-Last-clause-told
returns-in-Last-clause-told g c =
    let was : c.args.self.now.held ≡ take (c.self.inside.end - c.self.inside.next) (drop c.self.inside.next c.self.inside.buf) = ap (λ (t : Cut). t.held) (sym c.self.view_is) in
    let start = copied_front c.self.inside.buf c.copy_within.new.self c.self.inside.next c.self.inside.end (omega arith) (omega arith) c.copy_within.ensures.after in
    let last = c.find-found.ensures.last c.in-Last.is in
    Tells-both _ _ _ _ _ (λ before now e none. front_last g.row.N c.find-found.new.buf c.find-found.new.have c.trimmed-self-inside-in-Last.result _ now c.find-found.ensures.within last.1 (omega (arith, last.2))
    (ap (λ xs. xs ++ before) (was ∙ sym start) ∙ e) last.0 c.trimmed-self-inside-in-Last.ensures.within c.trimmed-self-inside-in-Last.ensures.value none) c.find-found.ensures.told last.3

pub returns-in-Full-clause-told : goal.returns-in-Full-clause-told
returns-in-Full-clause-told g c =
    let was : c.args.self.now.held ≡ take (c.self.inside.end - c.self.inside.next) (drop c.self.inside.next c.self.inside.buf) = ap (λ (t : Cut). t.held) (sym c.self.view_is) in
    let start = copied_front c.self.inside.buf c.copy_within.new.self c.self.inside.next c.self.inside.end (omega arith) (omega arith) c.copy_within.ensures.after in
    let full = c.find-found.ensures.full c.in-Full.is in
    Tells-weaker _ _ _ _ (λ before now e. front_long g.row.N c.find-found.new.buf c.find-found.new.have _ now c.find-found.ensures.within (omega (arith, full.1)) (omega arith)
    (ap (λ xs. xs ++ before) (was ∙ sym start) ∙ e) full.0) c.find-found.ensures.told

pub returns-in-Failed-clause-told : goal.returns-in-Failed-clause-told
returns-in-Failed-clause-told g c =
    let was : c.args.self.now.held ≡ take (c.self.inside.end - c.self.inside.next) (drop c.self.inside.next c.self.inside.buf) = ap (λ (t : Cut). t.held) (sym c.self.view_is) in
    let start = copied_front c.self.inside.buf c.copy_within.new.self c.self.inside.next c.self.inside.end (omega arith) (omega arith) c.copy_within.ensures.after in
    let unended = c.find-found.ensures.unended c.in-Failed.is in
    Tells-weaker _ _ _ _ (λ before now e. front_begins g.row.N c.find-found.new.buf c.find-found.new.have _ now (omega (arith, unended.1)) (ap (λ xs. xs ++ before) (was ∙ sym start) ∙ e) unended.0) c.find-found.ensures.told

pub returns-in-Feed-clause-unasked : goal.returns-in-Feed-clause-unasked
returns-in-Feed-clause-unasked g c = none_held _ c.args.self.now.held (search rules) (ap (λ (t : Cut). t.held) (sym c.self.view_is))

pub returns-in-Last-clause-unasked : goal.returns-in-Last-clause-unasked
returns-in-Last-clause-unasked g c = none_held _ c.args.self.now.held (search rules) (ap (λ (t : Cut). t.held) (sym c.self.view_is))

pub returns-in-End-clause-unasked : goal.returns-in-End-clause-unasked
returns-in-End-clause-unasked g c = none_held _ c.args.self.now.held (search rules) (ap (λ (t : Cut). t.held) (sym c.self.view_is))

pub returns-in-Full-clause-unasked : goal.returns-in-Full-clause-unasked
returns-in-Full-clause-unasked g c = none_held _ c.args.self.now.held (search rules) (ap (λ (t : Cut). t.held) (sym c.self.view_is))

pub returns-in-Failed-clause-unasked : goal.returns-in-Failed-clause-unasked
returns-in-Failed-clause-unasked g c = none_held _ c.args.self.now.held (search rules) (ap (λ (t : Cut). t.held) (sym c.self.view_is))
