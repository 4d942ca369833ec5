-- Laws of distances up to a limit, and of marks; and that each statement determines how a call ends.
pub mod Limits
pub mod Marks
pub mod Determined
