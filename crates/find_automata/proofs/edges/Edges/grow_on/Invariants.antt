use Rattle.find_automata.proofs.edges.Edges.grow_on.Given as goal

abbrev pub decreases-nodes : goal.decreases-nodes
decreases-nodes l = l.rest
