-- What the walk's functions ask of what they are lent, and say of one another's results.
pub mod Asked
pub mod Buckets
pub mod Limits
pub mod Rivals
pub mod Steps
