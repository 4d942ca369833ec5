-- Laws of reading: numbers byte by byte, the cases of the definitions, a record by itself; and that each statement determines how a call ends.
pub mod Numbers
pub mod Cases
pub mod Cutting
pub mod Going
pub mod Determined
