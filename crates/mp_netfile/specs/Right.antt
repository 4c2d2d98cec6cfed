-- Trees that break no rule on keys, types, version, numbers and names.
use Rattle.std.specs.Prelude.{◌≡◌, ◌≤◌, ◌<◌, ◌^◌, true, length, codes, None}
use Rattle.std.specs.List.{AllByRecursion}
use Rattle.toml.specs.Data.{Data}
use Rattle.mp_model.specs.Names.{is_name}
use Rattle.mp_tree.specs.Tree.{section}
use Rattle.mp_netfile.specs.Keys.{unknown_key, missing_key}
use Rattle.mp_netfile.specs.Values.{number_at}
use Rattle.mp_netfile.specs.Meaning.{bad_version, bad_number_in, bad_name_in, name_at}

-- A tree is right where none of its tables breaks a rule of its own.
pub record IsRight (tree : Data) : Type 0 where
  pub keys : unknown_key tree ≡ None
  pub types : missing_key tree ≡ None
  pub version : bad_version tree ≡ None
  pub numbers : bad_number_in tree ≡ None
  pub names : bad_name_in tree ≡ None

-- A table has a name.
abbrev pub HasName : Data → Type 0
HasName row = is_name (name_at (codes "name") row) ≡ true

-- A table is that of a link where it has a name and numbers of 32 bits.
pub record IsLinkTable (row : Data) : Type 0 where
  pub name : HasName row
  pub burst : number_at (codes "burst") row < 2 ^ 32
  pub rate : number_at (codes "rate") row < 2 ^ 32

-- A table is that of a movement where it has a name and numbers of 32 bits.
pub record IsMovementTable (row : Data) : Type 0 where
  pub name : HasName row
  pub share : number_at (codes "share") row < 2 ^ 32
  pub flow : number_at (codes "flow") row < 2 ^ 32
  pub start : number_at (codes "start") row < 2 ^ 32

-- The parts of a tree can be read where its numbers have 32 bits, its tables have names, and there are not too many links and movements for their numbers.
pub record HasParts (tree : Data) : Type 0 where
  pub shares : number_at (codes "shares") tree < 2 ^ 32
  pub per : number_at (codes "per") tree < 2 ^ 32
  pub delay : number_at (codes "delay") tree < 2 ^ 32
  pub few_links : length (section (codes "link") tree) ≤ 128
  pub few_movements : length (section (codes "movement") tree) ≤ 512
  pub links : AllByRecursion IsLinkTable (section (codes "link") tree)
  pub movements : AllByRecursion IsMovementTable (section (codes "movement") tree)
  pub junctions : AllByRecursion HasName (section (codes "junction") tree)
