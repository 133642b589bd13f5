use Rattle.std.proofs.Common.{◌≡◌, Some, Vec, Global, sym, ◌∙◌, ap}
use Rattle.std.specs.Prelude.{option_map}
use Rattle.text.specs.Terms.{parts_of}
use Rattle.kind_counted.specs.declared.certificate.Exits.{Exits}
use Rattle.kind_counted.specs.Texts.{exits_from}
use Rattle.kind_counted.proofs.ReadTexts.{read_states, read_few}
use Rattle.kind_counted.proofs.texts.read_automaton.Goals as goal

pub invariant_of-result : goal.invariant_of-result
invariant_of-result c =
    let is : exits_from c.args.states c.args.low c.args.limit (parts_of 44 c.args.text.now) ≡ Some c.in-Some.exits.items =
    sym (ap (exits_from c.args.states c.args.low c.args.limit) c.of.ensures) ∙ sym c.in_ok-exits.ensures ∙ ap (option_map (λ (l : Vec Exits Global). l.items)) c.in-Some.is in
    record {
      targets = read_states c.args.states c.args.low c.args.limit c.requires.limit (parts_of 44 c.args.text.now) c.in-Some.exits.items c.requires.states
          (sym c.begins_blank.ensures ∙ c.if-not-begins_blank.false) is;
      few = read_few c.args.states c.args.low c.args.limit c.requires.limit (parts_of 44 c.args.text.now) c.in-Some.exits.items c.requires.states is;
    }
