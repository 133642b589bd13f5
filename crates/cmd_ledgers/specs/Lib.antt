pub mod LedgerReport
pub mod Report
pub mod Merge
pub mod Retry
pub mod inside
pub mod Terms
