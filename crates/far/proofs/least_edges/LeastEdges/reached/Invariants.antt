use Rattle.far.proofs.least_edges.LeastEdges.reached.Given as goal

abbrev pub decreases-members : goal.decreases-members
decreases-members l = l.rest
