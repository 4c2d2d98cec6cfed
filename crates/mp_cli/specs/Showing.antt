-- What `show` promises.
use Rattle.std.specs.Prelude.{◌≡◌, ℕ, List, Ok}
use Rattle.mp_model.specs.Network.{Network}
use Rattle.mp_netfile.specs.Meaning.{text_meaning}
use Rattle.mp_cli.specs.declared.outcome.Outcome.{Outcome}
use Rattle.mp_cli.specs.declared.outcome.Outcome.TheVariants.{NoMemory}
use Rattle.mp_cli.specs.Opening.{OnNetwork}
use Rattle.mp_cli.specs.Ports.{Ports, Answers, RefusedOr}

-- A text was put that is a file of the network.
pub record ShowsText (outcome : Outcome) (net : Network) (ports : Ports) : Type 0 where
  pub text : List ℕ
  pub means : text_meaning text ≡ Ok net
  pub answers : Answers outcome ports text

-- This is what each outcome says of `show`: on the network of the file, a text of it was put, or memory ran out.
abbrev pub Shows : Outcome → List ℕ → Ports → Type 0
Shows outcome name ports = OnNetwork outcome name ports (λ net. RefusedOr (outcome ≡ NoMemory) ports (ShowsText outcome net ports))
