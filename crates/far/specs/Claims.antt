-- The automata that a claim holds, by transitions or lists, and those that an owned claim holds.
use Rattle.std.specs.Prelude.{◌≡◌, Some, take, drop}
use Rattle.far.specs.Texts.{Automata, automata_by, owned_delta, owned_rows, owned_keep}
use Rattle.far.specs.declared.far.Far.{Far}
use Rattle.far.specs.declared.owned.OwnedFar.{OwnedFar}
use Rattle.machine_text.specs.Terms.{Packed}
use Rattle.far.specs.ListedTexts.{ListedAutomata, AreListedOf, ListedTexts, listed_texts, automata_of_texts}
use Rattle.far.specs.declared.listed.Listed.{Listed}
use Rattle.far.specs.declared.owned.OwnedListed.{OwnedListed}

-- The automata that a claim holds.
abbrev pub automata_of : Far → Automata
automata_of e = automata_by e.states e.side e.size e.delta.now e.rows.now e.keep.now

-- The automata that an owned claim holds.
abbrev pub owned_automata : OwnedFar → Automata
owned_automata o = automata_by o.states o.side o.size (owned_delta o.size o.text.items)
    (owned_rows o.size o.row_bytes o.text.items) (owned_keep o.size o.row_bytes o.text.items)

-- A claim by its texts, and the automata that they give.

-- the texts are those of automata of a table
pub record AreTextsOf (t : ListedTexts) (p : Packed) : Type 0 where
  pub automata : ListedAutomata
  pub given : automata_of_texts t ≡ Some automata
  pub fit : AreListedOf automata p

abbrev pub texts_of : Listed → ListedTexts
texts_of e = listed_texts e.states e.side e.size e.delta.now e.rows.now e.keep.now

-- The texts that an owned claim holds, one behind another.
abbrev pub owned_texts : OwnedListed → ListedTexts
owned_texts o = listed_texts o.states o.side o.size (take o.delta_bytes o.text.items)
    (take o.row_bytes (drop o.delta_bytes o.text.items)) (drop o.row_bytes (drop o.delta_bytes o.text.items))
