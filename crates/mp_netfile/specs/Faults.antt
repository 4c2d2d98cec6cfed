-- What a fault of reading says of the file.
use Rattle.std.specs.Prelude.{◌≡◌, ◌<◌, ◌^◌, Result, Err, length, codes}
use Rattle.toml.specs.Data.{Data}
use Rattle.mp_model.specs.Network.{Network}
use Rattle.mp_net.specs.declared.fault.NetFault.{NetFault}
use Rattle.mp_net.specs.declared.fault.NetFault.TheVariants.{Rule, NoMemory}
use Rattle.mp_net.specs.declared.fault.NetRule.{NetRule}
use Rattle.mp_net.specs.declared.fault.Spot.{Spot}
use Rattle.mp_tree.specs.Tree.{section}

-- A fault names the rule and the spot of the file's meaning, or is out of memory.
abbrev pub IsFaultOf : Result Network (NetRule × Spot) → NetFault → Type 0
IsFaultOf meaning (Rule rule spot) = meaning ≡ Err (rule, spot)
IsFaultOf meaning NoMemory = Unit {0}

-- A tree has few tables where those of each section can be numbered by 32 bits.
pub record HasFewTables (tree : Data) : Type 0 where
  pub links : length (section (codes "link") tree) < 2 ^ 32
  pub movements : length (section (codes "movement") tree) < 2 ^ 32
  pub junctions : length (section (codes "junction") tree) < 2 ^ 32
