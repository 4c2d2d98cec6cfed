use Rattle.mp_guard_run.proofs.session.GuardSession.open.Goals as goal

pub returns-clause-start : goal.returns-clause-start
returns-clause-start c = record {
  behind = record { at = record { stands = c.in-Ok.ensures.opening; paid = c.in_ok-owed.ensures.opening }; taken = c.in-Ok.ensures.taken };
  bounds = record { rests = record { surpluses = c.args.surpluses.now; are = c.requires.surpluses; bursts = c.args.bursts.now; found = c.requires.bursts }; are = c.in_ok-bounds.ensures };
  waits = c.in_ok-waits.ensures;
}
