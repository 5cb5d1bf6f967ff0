-- What the contracts of this crate say: the equation file, its conditions, the standard solution, rounds, and the answer of solve.
pub mod File
pub mod Conditions
pub mod Cells
pub mod Solution
pub mod Outcome
pub mod computed
pub mod internal
pub mod examples
