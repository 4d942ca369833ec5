-- What the functions on one table speak of.
pub mod Substrings
