use Rattle.mp_laws.proofs.link_split_law.Goals as goal
use Rattle.mp_laws.proofs.LinkSplits.{link_splits}

pub returns : goal.returns
returns c = link_splits
