use Rattle.std.proofs.Common.{◌≡◌, ◌++◌, refl, rules, sym, ◌∙◌, ap, take, drop}
use Rattle.std.proofs.lemmas.List.{take-append-drop}
use Rattle.mp_edge.specs.Memory.{SinkState}
use Rattle.mp_edge.proofs.memory.MemSinkSink.put.Goals as goal

pub returns-clause-bytes : goal.returns-clause-bytes
returns-clause-bytes c =
    let was : c.args.self.now.held ≡ c.self.inside.held.items = ap (λ (p : SinkState). p.held) (sym c.self.view_is) in
    let grown : c.extend_from_slice-2.new.self.items ≡ c.self.inside.held.items ++ take c.match-kept.keeps c.args.bytes.now = search rules in (
      _,
      refl,
      (
        take c.match-kept.keeps c.args.bytes.now,
        (drop c.match-kept.keeps c.args.bytes.now, sym (take-append-drop c.match-kept.keeps c.args.bytes.now)),
        grown ∙ ap (λ xs. xs ++ take c.match-kept.keeps c.args.bytes.now) (sym was),
      ),
    )
