-- What a network file means: a network, or the first rule that is broken with its first spot.
use Rattle.std.specs.Prelude.{ℕ, ℤ, pos, negsuc, ◌*◌, nat_lt, Bool, true, false, not, ◌||◌, if◌then◌else◌, List, [], ◌∷◌, length, map, Option, Some, None, unwrap_or, codes, Result, Ok, Err}
use Rattle.std.specs.List.{list_all, position_from}
use Rattle.std.specs.Str.{bytes_eq, is_utf8}
use Rattle.toml.specs.Data.{Data, table, get, Members}
use Rattle.toml.specs.Parse.{parse_document}
use Rattle.mp_model.specs.Network.{Link, Movement, Junction, Network}
use Rattle.mp_model.specs.Names.{is_name, is_out}
use Rattle.mp_model.specs.declared.limits.TheConstants.{MOST_FILE_BYTES}
use Rattle.mp_net.specs.Spots.{first_spot, first_broken}
use Rattle.mp_net.specs.NumberRules.{outside}
use Rattle.mp_net.specs.Rules.{later_rules}
use Rattle.mp_net.specs.declared.fault.NetRule.{NetRule}
use Rattle.mp_net.specs.declared.fault.NetRule.TheVariants as rule
use Rattle.mp_net.specs.declared.fault.Section.{Section}
use Rattle.mp_net.specs.declared.fault.Section.TheVariants.{Top, Link as LinkSection, Movement as MovementSection, Junction as JunctionSection}
use Rattle.mp_net.specs.declared.fault.Spot.{Spot}
use Rattle.mp_tree.specs.Tree.{text_at, items, section, text_or_empty}
use Rattle.mp_netfile.specs.Values.{integer_or_zero, number_at, version_of, is_version}
use Rattle.mp_netfile.specs.Keys.{first_table, unknown_key, missing_key}

-- ---- what a tree of the right keys and types says

-- This is the text at a key, and the empty one where the key is absent.
abbrev pub name_at : List ℕ → Data → List ℕ
name_at key row = unwrap_or (text_at key row) []

-- These are the items of a value, and none where there is no value.
abbrev pub items_of_some : Option Data → List Data
items_of_some None = []
items_of_some (Some value) = items value

-- These are the items of the array at a key, and none where the key is absent.
abbrev pub items_at : List ℕ → Data → List Data
items_at key row = items_of_some (get key row)

-- These are the texts of some values.
abbrev pub texts_of : List Data → List (List ℕ)
texts_of values = map text_or_empty values

-- These are the stages of a junction, as texts.
abbrev pub stage_texts : Data → List (List (List ℕ))
stage_texts junction = map (λ stage. texts_of (items stage)) (items_at (codes "stages") junction)

-- This is the number of the first of some names that is a given name, and 0 where none is.
abbrev pub number_of : List (List ℕ) → List ℕ → ℕ
number_of names name = unwrap_or (position_from (λ other. bytes_eq other name) 1 names) 0

-- These are the names of some tables.
abbrev pub names_of : List Data → List (List ℕ)
names_of tables = map (name_at (codes "name")) tables

-- This is the link of a table.
abbrev pub link_from : Data → Link
link_from link = record { name = name_at (codes "name") link; burst = number_at (codes "burst") link; rate = number_at (codes "rate") link }

-- This is the target that a text names: the outside, or a link by its number, where 0 stands for a link that is not there.
abbrev pub target_from : List (List ℕ) → List ℕ → Option ℕ
target_from links to = if is_out to then None else Some (number_of links to)

-- This is the movement of a table, where the links have these names.
abbrev pub movement_from : List (List ℕ) → Data → Movement
movement_from links movement = record {
  name = name_at (codes "name") movement;
  from = number_of links (name_at (codes "from") movement);
  to = target_from links (name_at (codes "to") movement);
  share = number_at (codes "share") movement;
  flow = number_at (codes "flow") movement;
  start = number_at (codes "start") movement;
}

-- This is the junction of a table, where the movements have these names.
abbrev pub junction_from : List (List ℕ) → Data → Junction
junction_from movements junction = record { name = name_at (codes "name") junction; stages = map (map (number_of movements)) (stage_texts junction) }

-- This is the network of a tree. Its delay is 0 where the tree names none.
abbrev pub network_from : Data → Network
network_from tree =
    let links = section (codes "link") tree in
    let movements = section (codes "movement") tree in
    record {
      shares = number_at (codes "shares") tree;
      per = number_at (codes "per") tree;
      delay = number_at (codes "delay") tree;
      links = map link_from links;
      movements = map (movement_from (names_of links)) movements;
      junctions = map (junction_from (names_of movements)) (section (codes "junction") tree);
    }

-- ---- the rules on what it says

-- The version of a tree is none of network files, which is reported at the top.
abbrev pub bad_version : Data → Option Spot
bad_version tree = first_spot (not (is_version (version_of tree))) None None None

-- An integer is outside a range of numbers.
abbrev pub is_outside : ℕ → ℕ → ℤ → Bool
is_outside low high (pos n) = outside low high n
is_outside low high (negsuc n) = true

-- The share total, the rate length or the delay of a top table is out of its range.
abbrev pub has_bad_integer : Data → Bool
has_bad_integer top =
    is_outside 1 1000 (integer_or_zero (codes "shares") top) || is_outside 1 3600 (integer_or_zero (codes "per") top) || is_outside 0 60 (integer_or_zero (codes "delay") top)

-- A table has an integer that is out of its range, where the file has this share total and rate length, or lists too few or too many things.
abbrev pub has_bad_number : ℕ → ℕ → Section → Data → Bool
has_bad_number shares per Top top =
    has_bad_integer top || outside 1 128 (length (section (codes "link") top)) || outside 1 512 (length (section (codes "movement") top)) || outside 1 64 (length (section (codes "junction") top))
has_bad_number shares per LinkSection link = is_outside 0 10000 (integer_or_zero (codes "burst") link) || is_outside 0 (1000 * per) (integer_or_zero (codes "rate") link)
has_bad_number shares per MovementSection movement =
    is_outside 1 shares (integer_or_zero (codes "share") movement) || is_outside 1 1000 (integer_or_zero (codes "flow") movement)
    || is_outside 0 1000000 (integer_or_zero (codes "start") movement)
has_bad_number shares per JunctionSection junction = outside 1 16 (length (items_at (codes "stages") junction))

-- This is the first table with a number out of its range.
abbrev pub bad_number_in : Data → Option Spot
bad_number_in tree = first_table (has_bad_number (number_at (codes "shares") tree) (number_at (codes "per") tree)) tree

-- A table has a text that is not a name, or is a link named `out` or a movement from `out`.
abbrev pub has_bad_name : Section → Data → Bool
has_bad_name Top top = false
has_bad_name LinkSection link = not (is_name (name_at (codes "name") link)) || is_out (name_at (codes "name") link)
has_bad_name MovementSection movement =
    not (is_name (name_at (codes "name") movement)) || not (is_name (name_at (codes "from") movement)) || is_out (name_at (codes "from") movement) || not (is_name (name_at (codes "to") movement))
has_bad_name JunctionSection junction = not (is_name (name_at (codes "name") junction)) || not (list_all (list_all is_name) (stage_texts junction))

-- This is the first table with a text that is not a name.
abbrev pub bad_name_in : Data → Option Spot
bad_name_in tree = first_table has_bad_name tree

-- ---- the meaning

-- These are the rules that a tree is tried for, in their order, each over the whole tree.
abbrev pub tree_rules : Data → List (NetRule × Option Spot)
tree_rules tree =
    (rule.UnknownKey, unknown_key tree) ∷ (rule.MissingKey, missing_key tree) ∷ (rule.BadVersion, bad_version tree) ∷ (rule.BadNumber, bad_number_in tree)
    ∷ (rule.BadName, bad_name_in tree) ∷ later_rules (network_from tree)

-- A network stands unless a rule is broken.
abbrev pub unless : Network → Option (NetRule × Spot) → Result Network (NetRule × Spot)
unless net None = Ok net
unless net (Some refusal) = Err refusal

-- A tree means its network, or the first rule that it breaks.
abbrev pub tree_meaning : Data → Result Network (NetRule × Spot)
tree_meaning tree = unless (network_from tree) (first_broken (tree_rules tree))

-- A rule on the whole text is reported at the top.
abbrev pub at_top : NetRule → Result Network (NetRule × Spot)
at_top name = Err (name, record { section = Top; number = 0 })

-- A text without a tree is not TOML.
abbrev pub meaning_of : Option Members → Result Network (NetRule × Spot)
meaning_of None = at_top rule.BadToml
meaning_of (Some members) = tree_meaning (table members)

-- This is the tree of some bytes, which have one where they are UTF-8 and TOML.
abbrev pub tree_of : List ℕ → Option Members
tree_of bytes = if is_utf8 bytes then parse_document bytes else None

-- A text means what its tree means, whatever its length.
abbrev pub text_meaning : List ℕ → Result Network (NetRule × Spot)
text_meaning bytes = meaning_of (tree_of bytes)

-- A file means what its text means, unless it is too long.
abbrev pub file_meaning : List ℕ → Result Network (NetRule × Spot)
file_meaning bytes = if nat_lt MOST_FILE_BYTES (length bytes) then at_top rule.TooLong else text_meaning bytes
