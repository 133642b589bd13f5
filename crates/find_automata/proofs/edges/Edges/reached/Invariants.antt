use Rattle.find_automata.proofs.edges.Edges.reached.Given as goal

abbrev pub decreases-nodes : goal.decreases-nodes
decreases-nodes l = l.rest
