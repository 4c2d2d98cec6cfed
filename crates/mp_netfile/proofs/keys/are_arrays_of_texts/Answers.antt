use Rattle.std.proofs.Common.{rules, ◌∙◌}
use Rattle.std.proofs.lemmas.Iterator.{YieldsList-from_slice}
use Rattle.std.proofs.lemmas.Iterator.Search.{all_from_yields_List}
use Rattle.toml.specs.View.{view}
use Rattle.mp_netfile.specs.Keys.{is_array_of_texts}
use Rattle.mp_tree.proofs.Trees.{list_all-map}
use Rattle.mp_netfile.proofs.keys.are_arrays_of_texts.Goals as goal
use borrow.Author.Tests.{tests}

pub returns : goal.returns
returns c =
    all_from_yields_List (λ v. is_array_of_texts (view v)) _ _ _ c.all.ensures.ran (YieldsList-from_slice c.args.values.now (cc)) (λ x b q k. search (rules, tests))
    ∙ list_all-map is_array_of_texts view c.args.values.now
