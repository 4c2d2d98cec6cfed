-- What the cells of a run hold.
use Rattle.std.specs.Prelude.{ℤ, pos, List, map, length, replicate}
use Rattle.mp_model.specs.Network.{Network, movement_numbers, start_of}

-- The queues, phases and levels of now, and those after the period.
pub record Held : Type 0 where
  pub queues : List ℤ
  pub phases : List ℤ
  pub levels : List ℤ
  pub next_queues : List ℤ
  pub next_phases : List ℤ
  pub next_levels : List ℤ

-- What is after the period is now.
abbrev pub flipped : Held → Held
flipped h = record { queues = h.next_queues; phases = h.next_phases; levels = h.next_levels; next_queues = h.queues; next_phases = h.phases; next_levels = h.levels }

-- At the opening there are the start queues, and all else is 0.
abbrev pub opening_cells : Network → Held
opening_cells net = record {
  queues = map (λ k. pos (start_of net k)) (movement_numbers net);
  phases = replicate (length net.links) (pos 0);
  levels = replicate (length net.links) (pos 0);
  next_queues = replicate (length net.movements) (pos 0);
  next_phases = replicate (length net.links) (pos 0);
  next_levels = replicate (length net.links) (pos 0);
}
