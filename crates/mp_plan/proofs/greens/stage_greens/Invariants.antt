use Rattle.std.proofs.Common.{length, ◌<◌, ◌^◌}
use Rattle.std.specs.List.{All}
use Rattle.mp_model.specs.Network.{junction_at}
use Rattle.mp_plan.specs.Ends.{over, rates}
use Rattle.mp_plan.specs.Stated.{stated_green}
use Rattle.mp_plan.proofs.Listing.{Numbering}
use Rattle.mp_plan.proofs.greens.stage_greens.Given as goal

abbrev pub invariant-loop-s : goal.invariant-loop-s
invariant-loop-s l = record {
  values : Numbering (stated_green l.net (rates l.flows) (over l.flows) l.c (junction_at l.net l.j)) (length (junction_at l.net l.j).stages) l.s l.greens.items;
  fits : All (λ n. n < 2 ^ 127) l.greens.items;
}
