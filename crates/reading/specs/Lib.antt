-- Document 01, "Session program": what the records of an input mean.
pub mod Bytes
pub mod Records
pub mod Offsets
pub mod State
