-- Laws of writing: text after text, fields, lines of answers, hexadecimal digits; and that each statement determines how a call ends.
pub mod Writing
pub mod Digits
pub mod Determined
