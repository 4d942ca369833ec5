-- What one query's part of a batch asks, and what all of them leave in the scratch lists.
pub mod Part
