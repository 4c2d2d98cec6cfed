use Rattle.std.proofs.Common.{length}
use Rattle.mp_cert.specs.Checking.{tried, first_of, mix_rules}
use Rattle.mp_cert.specs.Views.{cert_of}
use Rattle.mp_cert.proofs.FirstLemmas.{Trying}
use Rattle.mp_cert.proofs.checking.check_mixes.Given as goal

abbrev pub invariant-loop-j : goal.invariant-loop-j
invariant-loop-j l = Trying (λ j. first_of (tried l.net (cert_of l.cert)) (mix_rules l.net j)) (length l.net.junctions) l.j
