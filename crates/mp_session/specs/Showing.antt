-- What a session shows of what it keeps, and what its type keeps.
use Rattle.mp_session.specs.SessionView.{SessionView, IsBounded}
use Rattle.mp_session.specs.declared.session.Session.TheInside.{Inside}

-- A session shows its network, slack and bounds, and its round.
abbrev pub shown_of : Inside → SessionView
shown_of s = record { net = s.net.now; slack = s.slack; bounds = s.bound; round = s.round }

-- A session keeps its bounds.
abbrev pub IsSession : Inside → Type 0
IsSession s = IsBounded (shown_of s)
