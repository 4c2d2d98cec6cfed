use Rattle.std.proofs.Common.{◌≡◌, refl, arith, rules, ap, sym, ◌∙◌, drop, length}
use Rattle.std.proofs.lemmas.List.{length-drop}
use Rattle.std.proofs.lemmas.Grind.{common_steps}
use Rattle.mp_edge.specs.Memory.{SourceState}
use Rattle.mp_edge.proofs.Fronts.{front_taken}
use Rattle.mp_edge.proofs.memory.MemSourceSource.take.Goals as goal

pub returns-clause-bytes : goal.returns-clause-bytes
returns-clause-bytes c =
    let was : c.args.self.now.left ≡ drop c.self.inside.at c.self.inside.bytes.items = ap (λ (t : SourceState). t.left) (sym c.self.view_is) in (
      _,
      refl,
      record {
        front = was ∙ front_taken c.self.inside.bytes.items c.args.buf.now c.copy_from_slice.new.self c.self.inside.at c.min-n.result (omega arith) (search rules);
        at_end = (λ z. was ∙ grind (arith, common_steps), λ e. omega (arith, length-drop c.self.inside.at c.self.inside.bytes.items, ap length (sym was ∙ e)));
      },
    )
