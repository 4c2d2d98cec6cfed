use Rattle.mp_frame.proofs.Flags.{flags_agree}
use Rattle.mp_frame.proofs.laws.frame_flags_law.Goals as goal

pub returns : goal.returns
returns c = flags_agree
