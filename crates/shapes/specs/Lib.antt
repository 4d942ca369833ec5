-- What an index holds that refusals 1 to 3 do not fit, and what of it is one table's.
pub mod Lent
pub mod Parts
