-- Laws of builder and check as called; and that each statement determines how a call ends.
pub mod Answers
pub mod Parts
pub mod Theorems
pub mod Determined
