-- What holds of the sky maker's code, and the laws behind its functions' proofs; and that each statement determines how a call ends.
pub mod Places
pub mod Pairs
pub mod Stars
pub mod Theorems
pub mod Determined
