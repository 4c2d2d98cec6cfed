-- The rules that each table is tried for.
use Rattle.std.specs.Prelude.{◌≤◌, Bool}
use Rattle.toml.specs.Data.{Data}
use Rattle.mp_net.specs.declared.fault.Section.{Section}
use Rattle.mp_netfile.specs.declared.tables.TableRule.{TableRule}
use Rattle.mp_netfile.specs.declared.tables.TableRule.TheVariants.{ListedKeys, NeededKeys, Numbers, Names}
use Rattle.mp_netfile.specs.Keys.{has_unlisted_key, lacks_key}
use Rattle.mp_netfile.specs.Meaning.{has_bad_number, has_bad_name}

-- A table breaks a rule.
abbrev pub breaks : TableRule → Section → Data → Bool
breaks (ListedKeys version) kind row = has_unlisted_key version kind row
breaks NeededKeys kind row = lacks_key kind row
breaks (Numbers shares per) kind row = has_bad_number shares per kind row
breaks Names kind row = has_bad_name kind row

-- The rule on numbers is tried with a rate length in its range.
abbrev pub IsInRange : TableRule → Type 0
IsInRange (Numbers shares per) = per ≤ 3600
IsInRange _ = Unit {0}
