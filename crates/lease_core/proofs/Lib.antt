pub mod Finals
pub mod CoordinatorLedgers
pub mod WorkerLaws
pub mod DueRecords
