-- What the contracts of this crate say: the numbers that the calls for C answer.
pub mod Exported
pub mod internal
