-- What the contracts of this crate say: the case file, its conditions, action formulas, formulas and their meaning.
pub mod Action
pub mod Formula
pub mod Prefix
pub mod File
pub mod Labels
pub mod Case
pub mod Conditions
pub mod Tally
pub mod Opening
pub mod Meaning
pub mod Reach
pub mod computed
pub mod internal
pub mod examples
