-- Laws of sessions: what a question prints and leaves; every run prints the transcript, and every input has a run; 01's example.
pub mod Replies
pub mod Room
pub mod Linking
pub mod Whole
pub mod Example
