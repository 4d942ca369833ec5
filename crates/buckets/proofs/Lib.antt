-- The laws by which one table is filled and checked; and that each statement determines how a call ends.
pub mod Building
pub mod Order
pub mod Determined
