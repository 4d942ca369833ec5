-- What the functions under `turn` leave.
pub mod Arms
