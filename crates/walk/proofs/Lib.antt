-- Laws behind the walk's functions.
pub mod Asked
pub mod Parts
pub mod Buckets
pub mod Joining
pub mod Testing
pub mod Opening
pub mod Stepping
pub mod Determined
