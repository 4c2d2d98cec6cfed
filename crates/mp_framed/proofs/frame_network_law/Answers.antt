use Rattle.mp_framed.proofs.frame_network_law.Goals as goal
use Rattle.mp_framed.proofs.Networks.{frame_is_network}

pub returns : goal.returns
returns c = frame_is_network
