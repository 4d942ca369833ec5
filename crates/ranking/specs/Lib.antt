-- What ranking is lent and leaves, and how entries are placed.
pub mod Rank
pub mod Place
pub mod Lent
