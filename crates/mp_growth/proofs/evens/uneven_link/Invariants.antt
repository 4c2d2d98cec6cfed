use Rattle.mp_model.specs.Network.{link_at}
use Rattle.mp_overload.specs.Evens.{is_uneven}
use Rattle.mp_growth.proofs.Searching.{Searched}
use Rattle.mp_growth.proofs.evens.uneven_link.Given as goal

abbrev pub invariant-loop-l : goal.invariant-loop-l
invariant-loop-l l = Searched (λ l'. is_uneven l.net.per (link_at l.net l')) l.l-items l.l-index
