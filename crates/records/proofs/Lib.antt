-- Laws of the crate's definitions.
pub mod Moves
pub mod Heads
pub mod Tables
pub mod Writing
pub mod Files
pub mod Places
pub mod ReadBack
