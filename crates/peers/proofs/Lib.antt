pub mod GuardLaws
pub mod Exchanges
pub mod Sending
pub mod PeerLines
pub mod Answering
pub mod ByLetters
pub mod Cores
mod Guests
