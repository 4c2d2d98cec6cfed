use Rattle.std.proofs.Common.{map, unsigned_abs}
use Rattle.mp_cert.specs.Views.{cert_of}
use Rattle.mp_finder.proofs.Finding.{Going}
use Rattle.mp_finder.proofs.search.find_greens.Given as goal

abbrev pub invariant-loop-j : goal.invariant-loop-j
invariant-loop-j l = Going l.net l.cycle l.lost l.d (cert_of l.cert) (map unsigned_abs l.cert.h) l.j l.greens.items
