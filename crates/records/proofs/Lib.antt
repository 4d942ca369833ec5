-- Laws of the functions under `turn`; and that each statement determines how a call ends.
pub mod Arms
pub mod Determined
