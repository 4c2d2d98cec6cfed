use Rattle.mp_gen.proofs.Draws.{permitted_next}
use Rattle.mp_gen.proofs.arrivals.DemoArrivals.fill.Goals as goal

pub returns-clause-permitted : goal.returns-clause-permitted
returns-clause-permitted c = λ A taken. permitted_next c.args.session.now.net A _ c.draw_all.new.into.items _ taken.permitted (c.draw_all.ensures.drawn A taken)
