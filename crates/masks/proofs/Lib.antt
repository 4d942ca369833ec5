-- Laws behind the functions; and that each statement determines how a call ends.
pub mod Carry
pub mod Cleared
pub mod Firsts
pub mod Determined
