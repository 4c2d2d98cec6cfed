use Rattle.mp_net.specs.declared.parts.LinkPart.{LinkPart}
use Rattle.mp_netfile.proofs.Found.{FoundFrom}
use Rattle.mp_netfile.proofs.parts.link_number.Given as goal

abbrev pub invariant-loop-i : goal.invariant-loop-i
invariant-loop-i l = FoundFrom (λ (link : LinkPart). link.name) l.name l.links l.i
