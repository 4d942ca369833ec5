-- That each statement determines how a call ends.
pub mod Accepting
pub mod Determined
