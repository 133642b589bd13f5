pub mod Answer
pub mod Stream
pub mod Lines
pub mod inside
pub mod Listed
pub mod Terms
