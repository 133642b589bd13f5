pub mod Lines
pub mod Nodes
pub mod Ledgers
pub mod Does
