-- What the names of a network are.
use Rattle.std.specs.Prelude.{◌≡◌, true}
use Rattle.std.specs.List.{AllByRecursion}
use Rattle.mp_model.specs.Names.{is_name}
use Rattle.mp_model.specs.Network.{Network}

-- Each link, movement and junction has a name.
pub record IsNamed (net : Network) : Type 0 where
  pub links : AllByRecursion (λ link. is_name link.name ≡ true) net.links
  pub movements : AllByRecursion (λ movement. is_name movement.name ≡ true) net.movements
  pub junctions : AllByRecursion (λ j. is_name j.name ≡ true) net.junctions
