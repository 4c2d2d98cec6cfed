use Rattle.mp_flow.proofs.elimination.+reduce_all.Given as goal

abbrev pub decreases-reduce_all : goal.decreases-reduce_all
decreases-reduce_all l = l.count
