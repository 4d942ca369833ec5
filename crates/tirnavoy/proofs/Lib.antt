-- Each statement determines how a call ends.
pub mod Determined
