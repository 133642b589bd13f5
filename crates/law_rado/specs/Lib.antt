pub mod BusyBeaver
pub mod SameMachine
