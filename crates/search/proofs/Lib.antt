-- Laws behind the searches; and that each statement determines how a call ends.
pub mod Refusing
pub mod Listing
pub mod Answering
pub mod Judging
pub mod Verdicts
mod Plain
pub mod Determined
