-- Laws behind a batch: the refusals, one query, all queries; and that its statement determines how a call ends.
pub mod Refusing
pub mod Single
pub mod Going
pub mod Determined
