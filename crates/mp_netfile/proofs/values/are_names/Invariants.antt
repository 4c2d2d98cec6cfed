use Rattle.std.proofs.Common.{◌≡◌, map, drop}
use Rattle.std.specs.List.{list_all}
use Rattle.toml.specs.View.{view}
use Rattle.mp_model.specs.Names.{is_name}
use Rattle.mp_netfile.specs.Meaning.{texts_of}
use Rattle.mp_netfile.proofs.values.are_names.Given as goal

abbrev pub invariant-loop-text : goal.invariant-loop-text
invariant-loop-text l = list_all is_name (texts_of (map view l.texts)) ≡ list_all is_name (texts_of (map view (drop l.text-index l.texts)))
