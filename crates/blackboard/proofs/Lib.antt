-- Laws behind the blackboard's count, and what it counts; and that each statement determines how a call ends.
pub mod Sums
pub mod Steps
pub mod Answers
pub mod Determined
