-- The tools that every definition above uses, and what it is for a statement to determine how a call ends.
pub mod Lists
pub mod Order
pub mod Binomials
pub mod Statements
