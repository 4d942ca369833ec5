-- Document 01, "Session program": the text of its lines.
pub mod Text
pub mod Lines
pub mod Wrote
