pub mod Settle
pub mod Join
pub mod inside
pub mod AtPaths
pub mod Stream
pub mod Look
pub mod Terms
