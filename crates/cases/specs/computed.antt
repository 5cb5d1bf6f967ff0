-- Functions that compute what relations of this crate say, and are proved to agree with them.
pub mod Meanings
pub mod Reached
