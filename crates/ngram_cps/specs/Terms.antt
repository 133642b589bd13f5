-- The terms of this crate: what others cite of its definitions, under one name.
pub use Rattle.ngram_cps.specs.Kind.{ngram_kind}
pub use Rattle.ngram_cps.specs.Lists.{Lists, lists_of, owned_lists}
