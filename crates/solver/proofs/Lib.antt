-- Laws of the crate's definitions. `Promises` says what the whole promises.
pub mod Promises
pub mod Tables
pub mod Reading
pub mod WellFormed
pub mod Values
pub mod Solving
pub mod Starts
pub mod Refusals
pub mod Answers
pub mod CellRules
pub mod Lookup
pub mod Shown
pub mod Sides
pub mod Turns
pub mod Runs
