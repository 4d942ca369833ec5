-- Document 01, "Session program": what a session prints, as a function of the whole input; and one turn over lent lists.
pub mod Opening
pub mod Questions
pub mod Transcript
pub mod Turn
