-- What the exported functions give to C.
pub mod Outs
