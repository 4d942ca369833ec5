-- What the demands say besides document 01.
pub mod Neighbours
pub mod Answers
pub mod Trust
pub mod Radii
pub mod Places
pub mod Verdicts
pub mod Batches
pub mod Masks
