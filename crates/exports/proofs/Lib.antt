-- Laws of the crate's definitions.
pub mod Saying
