pub mod Page
pub mod Census
pub mod inside
pub mod Terms
