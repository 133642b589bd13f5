pub mod HaltingClaims
pub mod Standings
