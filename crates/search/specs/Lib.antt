-- What the searches answer and leave once none of refusals 1 to 5 fits; and what one leaves that is named by a value.
pub mod Listed
pub mod Past
pub mod Judge
pub mod Sought
