use Rattle.find_automata.proofs.edges.Edges.grow_back.Given as goal

abbrev pub decreases-sources : goal.decreases-sources
decreases-sources l = l.rest
