-- The rules on keys and types of a network file, each with the first spot where it is broken.
use Rattle.std.specs.Prelude.{ℕ, Bool, true, false, not, ◌&&◌, ◌||◌, if◌then◌else◌, List, [], ◌∷◌, Option, Some, None, is_none, codes}
use Rattle.std.specs.List.{list_all, position_from}
use Rattle.toml.specs.Data.{Data, get, as_integer}
use Rattle.mp_net.specs.Spots.{first_spot}
use Rattle.mp_net.specs.declared.fault.Section.{Section}
use Rattle.mp_net.specs.declared.fault.Section.TheVariants.{Top, Link, Movement, Junction}
use Rattle.mp_net.specs.declared.fault.Spot.{Spot}
use Rattle.mp_tree.specs.Tree.{has_unknown_key, items, text_at, integer_at, is_text, is_array, is_array_of_tables, section}
use Rattle.mp_netfile.specs.Values.{version_of, has_starts, has_delay}

-- This is the first spot where a table breaks a rule, tried at the top table first, then link by link, movement by movement and junction by junction.
abbrev pub first_table : (Section → Data → Bool) → Data → Option Spot
first_table breaks tree =
    first_spot (breaks Top tree) (position_from (breaks Link) 1 (section (codes "link") tree)) (position_from (breaks Movement) 1 (section (codes "movement") tree))
    (position_from (breaks Junction) 1 (section (codes "junction") tree))

-- These are the keys of a movement that the files of a version list beyond those of version 1.
abbrev pub start_keys : ℕ → List (List ℕ)
start_keys version = if has_starts version then codes "start" ∷ [] else []

-- These are the keys of the top table that the files of a version list beyond those of version 1.
abbrev pub delay_keys : ℕ → List (List ℕ)
delay_keys version = if has_delay version then codes "delay" ∷ [] else []

-- These are the keys that the files of a version list for a table.
abbrev pub listed_keys : ℕ → Section → List (List ℕ)
listed_keys version Top = codes "version" ∷ codes "shares" ∷ codes "per" ∷ codes "link" ∷ codes "movement" ∷ codes "junction" ∷ delay_keys version
listed_keys version Link = codes "name" ∷ codes "burst" ∷ codes "rate" ∷ []
listed_keys version Movement = codes "name" ∷ codes "from" ∷ codes "to" ∷ codes "share" ∷ codes "flow" ∷ start_keys version
listed_keys version Junction = codes "name" ∷ codes "stages" ∷ []

-- A table of a file of this version has a key that is not listed for it.
abbrev pub has_unlisted_key : ℕ → Section → Data → Bool
has_unlisted_key version kind row = has_unknown_key (listed_keys version kind) row

-- This is the first table with a key that is not listed for it.
abbrev pub unknown_key : Data → Option Spot
unknown_key tree = first_table (has_unlisted_key (version_of tree)) tree

-- A table has no text at a key.
abbrev pub lacks_text : List ℕ → Data → Bool
lacks_text key row = is_none (text_at key row)

-- A table has no integer at a key.
abbrev pub lacks_integer : List ℕ → Data → Bool
lacks_integer key row = is_none (integer_at key row)

-- A key that may be absent has another value than an integer.
abbrev pub is_no_integer : Option Data → Bool
is_no_integer None = false
is_no_integer (Some value) = is_none (as_integer value)

-- A table has no array of tables at a key.
abbrev pub lacks_tables : List ℕ → Data → Bool
lacks_tables key row = not (is_array_of_tables (get key row))

-- An array of texts is an array all of whose items are texts.
abbrev pub is_array_of_texts : Data → Bool
is_array_of_texts value = is_array value && list_all is_text (items value)

-- A key has no array all of whose items are arrays of texts.
abbrev pub is_no_stages : Option Data → Bool
is_no_stages None = true
is_no_stages (Some value) = not (is_array value && list_all is_array_of_texts (items value))

-- A table lacks a key that must be there, or has another type at a listed key than the listed one.
abbrev pub lacks_key : Section → Data → Bool
lacks_key Top row =
    lacks_integer (codes "version") row || lacks_integer (codes "shares") row || lacks_integer (codes "per") row || is_no_integer (get (codes "delay") row)
    || lacks_tables (codes "link") row || lacks_tables (codes "movement") row || lacks_tables (codes "junction") row
lacks_key Link row = lacks_text (codes "name") row || is_no_integer (get (codes "burst") row) || is_no_integer (get (codes "rate") row)
lacks_key Movement row =
    lacks_text (codes "name") row || lacks_text (codes "from") row || lacks_text (codes "to") row || lacks_integer (codes "share") row || lacks_integer (codes "flow") row
    || is_no_integer (get (codes "start") row)
lacks_key Junction row = lacks_text (codes "name") row || is_no_stages (get (codes "stages") row)

-- This is the first table that lacks a key or has another type at one.
abbrev pub missing_key : Data → Option Spot
missing_key tree = first_table lacks_key tree
