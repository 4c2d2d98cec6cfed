-- What `runwith` promises.
use Rattle.std.specs.Prelude.{ℕ, List}
use Rattle.mp_cli.specs.declared.outcome.Outcome.{Outcome}
use Rattle.mp_cli.specs.Opening.{OnNetwork, OnCert}
use Rattle.mp_cli.specs.Ports.{Ports}
use Rattle.mp_cli.specs.Running.{StreamsUnder}

-- This is what each outcome says of `runwith`: on the network of the file, and on the certificate of the other file, the stream was run with its slack.
abbrev pub RunsWith : Outcome → List ℕ → List ℕ → Ports → Type 0
RunsWith outcome name other ports = OnNetwork outcome name ports (λ net. OnCert outcome net other ports (λ cert. StreamsUnder outcome net cert ports))
