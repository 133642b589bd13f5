-- The terms of this crate: what others cite of its definitions, under one name.
pub use Rattle.find_search.specs.Known.{known_in}
