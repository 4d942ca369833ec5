-- Marks and distances, as the searches hand them to the leaves.
pub mod Distances
pub mod Marks
