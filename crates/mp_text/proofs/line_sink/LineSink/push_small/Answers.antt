use Rattle.std.proofs.Common.{◌+◌, ◌-◌, ◌∷◌, ℕ, List, decimal, length, ap, arith}
use Rattle.mp_text.specs.Buffered.{Buffered}
use Rattle.mp_text.proofs.Spaces.{copied_behind}
use Rattle.mp_text.proofs.line_sink.LineSink.push_small.Goals as goal

pub returns : goal.returns
returns c =
    let spaced = c.get-spaced.ensures in
    let same = c.copy_from_slice.ensures.after in
    let size = c.from.ensures in
    let longer : List ℕ → Buffered = λ xs. record { held = xs; faults = c.self.inside.faults } in
    rw (← c.self.view_is) (ap longer (copied_behind c.self.inside.buf c.copy_from_slice.new.self (32 ∷ decimal c.args.number) c.self.inside.len (c.self.inside.len + 4 - c.self.inside.len) c.from.result
    (omega (arith, c.self.invariant, c.self.told)) (omega (arith, ap (length {A = ℕ}) same, spaced.0, spaced.1, size)) (rw (same, size) spaced.2)))
