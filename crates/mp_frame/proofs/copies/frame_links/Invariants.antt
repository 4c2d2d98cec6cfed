use Rattle.std.proofs.Common.{◌≡◌, map}
use Rattle.mp_model.specs.Frames.{frame_link}
use Rattle.mp_model.specs.Network.{link_at, numbers_to}
use Rattle.mp_net.specs.Parts.{link_of}
use Rattle.mp_frame.proofs.copies.frame_links.Given as goal

abbrev pub invariant-loop-l : goal.invariant-loop-l
invariant-loop-l l = map link_of l.links.items ≡ map (λ i. frame_link l.f (link_at l.net i)) (numbers_to l.l)
