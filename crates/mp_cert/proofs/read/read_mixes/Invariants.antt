use Rattle.mp_cert.specs.TextReading.{HasRoom}
use Rattle.mp_cert.proofs.MixLemmas.{MixesRead}
use Rattle.mp_cert.proofs.read.read_mixes.Given as goal

abbrev pub invariant-loop-j : goal.invariant-loop-j
invariant-loop-j l = record { room : HasRoom l.lines.number l.lines.rest.now; read : MixesRead l.net.junctions l.mixes.items l.j l.initial.lines.number l.initial.lines.rest.now l.lines.number l.lines.rest.now }
