-- The terms of this crate: what others cite of its definitions, under one name.
pub use Rattle.far.specs.Claims.{AreTextsOf, automata_of, owned_automata, owned_texts, texts_of}
pub use Rattle.far.specs.Kind.{far_kind, listed_kind}
pub use Rattle.far.specs.Limits.{listed_size_limit, size_limit}
pub use Rattle.far.specs.ListedTexts.{ListedTexts}
pub use Rattle.far.specs.Texts.{AreAutomataOf, Automata}
