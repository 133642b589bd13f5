-- The terms of this crate: what others cite of its definitions, under one name.
pub use Rattle.peers.specs.Crew.{capped_sum, waits_of}
pub use Rattle.peers.specs.Peers.{PeerState, unheard}
pub use Rattle.peers.specs.Sent.{ServesOne, all_handed}
pub use Rattle.peers.specs.Served.{Exchange, FitsIn, Incoming, Rounds, Served, TakesAsBefore, Taking, all_came, noted, noted_if, served, unseen}
