-- Two approaches of rate 5 after 1,000 periods of greatest stages.
use Rattle.std.proofs.Common.{◌≡◌, ℕ, [], ◌∷◌, pos, Some, refl, sym, ◌∙◌, ap, subst, lit≤}
use Rattle.std.specs.List.{IsDistinct}
use Rattle.mp_laws.proofs.Cases.{two_network}
use Rattle.mp_model.specs.NetworkRules.{IsNetwork}
use Rattle.mp_model.specs.Run.{opening}
use Rattle.mp_model.specs.Step.{State, queue}
use Rattle.mp_model.specs.Worked.{two_approaches_at}
use Rattle.mp_num.specs.Checked.{within}
use Rattle.mp_num.specs.Operations.{times, plus, less, summed}
use Rattle.mp_num.specs.Passing.{stepped}
use Rattle.mp_overload.proofs.Phased.{phased_from, IsPhased, run_same}
use Rattle.mp_overload.specs.Cases.{five_from, WorkedRuns}
use Rattle.mp_overload.specs.Evens.{even_periods}
use Rattle.mp_overload.specs.Forming.{growth_formed, shared, counts_formed, split_formed, lost_formed, weighed, queues_formed, least_formed}
use Rattle.mp_overload.specs.Laws.{IsFormed}
use Rattle.mp_overload.specs.Trails.{even_run}

five_network : (a b : ℕ) → IsNetwork (five_from a b)
unfolding IsDistinct
five_network a b = record {
  shares = lit≤ tt;
  per = lit≤ tt;
  share = (lit≤ tt, (lit≤ tt, tt));
  flow = (lit≤ tt, (lit≤ tt, tt));
  some_stage = (lit≤ tt, tt);
  split = (refl, (refl, tt));
  from = (refl, (refl, tt));
  to = (tt, (tt, tt));
  placed = (refl, (refl, tt));
  stages = ((((tt, tt), (refl, tt)), (((tt, tt), (refl, tt)), tt)), tt);
  together = (((refl, tt), tt), (((refl, tt), tt), tt));
  way_out = ((1 ∷ [], (refl, tt)), ((2 ∷ [], (refl, tt)), tt));
}

-- the state with these numbers, where each link is at phase 0
abbrev at : ℕ → ℕ → ℕ → ℕ → ℕ → State
at period a b entered departed = record { period = period; queues = a ∷ b ∷ []; received = 0 ∷ 0 ∷ []; total_in = entered; total_out = departed }

five_end : phased_from (two_approaches_at 5) (opening (two_approaches_at 5)) (even_periods (two_approaches_at 5) 1000) ≡ at 1000 251 252 2500 1997
five_end = refl

five_run : IsPhased (two_approaches_at 5) (at 1000 251 252 2500 1997) (even_run (two_approaches_at 5) 1000)
five_run = subst (λ s. IsPhased (two_approaches_at 5) s (even_run (two_approaches_at 5) 1000)) five_end (run_same (two_approaches_at 5) (two_network 5) (even_periods (two_approaches_at 5) 1000) (opening (two_approaches_at 5)) (opening (two_approaches_at 5)) (record { phases = 0 ∷ 0 ∷ []; are = (refl, (refl, tt)); same = refl }))

five_queues : queues_formed (two_approaches_at 5) (pos 1 ∷ pos 1 ∷ []) (queue (at 1000 251 252 2500 1997)) ≡ Some (pos 2012)
unfolding queues_formed weighed times plus summed stepped within
five_queues = refl

five_numbers : IsFormed (two_approaches_at 5) (pos 1 ∷ pos 1 ∷ []) (at 1000 251 252 2500 1997) (pos 2) (pos 6) (pos 2012) (pos 1994)
unfolding growth_formed shared counts_formed split_formed lost_formed least_formed times plus less summed stepped within
five_numbers = record { growth_so = refl; lost_so = refl; queues_so = five_queues; least_so = refl }

-- what is formed of a state is formed by its period and its queues
five_formed : IsFormed (two_approaches_at 5) (pos 1 ∷ pos 1 ∷ []) (even_run (two_approaches_at 5) 1000) (pos 2) (pos 6) (pos 2012) (pos 1994)
five_formed = record {
  growth_so = five_numbers.growth_so;
  lost_so = five_numbers.lost_so;
  queues_so = ap (λ s. queues_formed (two_approaches_at 5) (pos 1 ∷ pos 1 ∷ []) (queue s)) (sym five_run.same) ∙ five_numbers.queues_so;
  least_so = ap (λ s. least_formed s.period (pos 2) (pos 6)) (sym five_run.same) ∙ five_numbers.least_so;
}

started_end : phased_from (five_from 50 30) (opening (five_from 50 30)) (even_periods (five_from 50 30) 1000) ≡ at 1000 290 290 2580 2000
started_end = refl

started_run : IsPhased (five_from 50 30) (at 1000 290 290 2580 2000) (even_run (five_from 50 30) 1000)
started_run = subst (λ s. IsPhased (five_from 50 30) s (even_run (five_from 50 30) 1000)) started_end (run_same (five_from 50 30) (five_network 50 30) (even_periods (five_from 50 30) 1000) (opening (five_from 50 30)) (opening (five_from 50 30)) (record { phases = 0 ∷ 0 ∷ []; are = (refl, (refl, tt)); same = refl }))

started_queues : queues_formed (five_from 50 30) (pos 1 ∷ pos 1 ∷ []) (queue (at 1000 290 290 2580 2000)) ≡ Some (pos 2320)
unfolding queues_formed weighed times plus summed stepped within
started_queues = refl

started_numbers : IsFormed (five_from 50 30) (pos 1 ∷ pos 1 ∷ []) (at 1000 290 290 2580 2000) (pos 2) (pos 6) (pos 2320) (pos 1994)
unfolding growth_formed shared counts_formed split_formed lost_formed least_formed times plus less summed stepped within
started_numbers = record { growth_so = refl; lost_so = refl; queues_so = started_queues; least_so = refl }

-- what is formed of a state is formed by its period and its queues
started_formed : IsFormed (five_from 50 30) (pos 1 ∷ pos 1 ∷ []) (even_run (five_from 50 30) 1000) (pos 2) (pos 6) (pos 2320) (pos 1994)
started_formed = record {
  growth_so = started_numbers.growth_so;
  lost_so = started_numbers.lost_so;
  queues_so = ap (λ s. queues_formed (five_from 50 30) (pos 1 ∷ pos 1 ∷ []) (queue s)) (sym started_run.same) ∙ started_numbers.queues_so;
  least_so = ap (λ s. least_formed s.period (pos 2) (pos 6)) (sym started_run.same) ∙ started_numbers.least_so;
}

pub runs : WorkedRuns
runs = record {
  five = five_formed;
  entered = ap (λ s. s.total_in) (sym five_run.same);
  departed = ap (λ s. s.total_out) (sym five_run.same);
  started = started_formed;
  started_departed = ap (λ s. s.total_out) (sym started_run.same);
}
