-- What the contracts of the sky maker's parts cite.
pub mod Place
