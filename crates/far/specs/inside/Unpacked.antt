-- The automata whose numbers are unpacked.
use Rattle.std.specs.Prelude.{◌*◌, take}
use Rattle.far.specs.Texts.{Automata, automata}
use Rattle.far.specs.declared.unpacked.Unpacked.{Unpacked}

abbrev pub unpacked_of : Unpacked → Automata
unpacked_of e = automata e.states e.side e.size (take (2 * e.size) e.delta) (take (2 * (e.size * e.states)) e.rows)
    e.keep
