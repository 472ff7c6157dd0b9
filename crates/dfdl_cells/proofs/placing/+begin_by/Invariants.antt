use Rattle.dfdl_cells.proofs.placing.+begin_by.Given as goal

-- fewer elements are around at each call
abbrev pub decreases-begin_by : goal.decreases-begin_by
decreases-begin_by l = l.most
