-- What serves the contracts of inner functions, and laws beneath the promises.
pub mod Kinds
pub mod Masks
pub mod Checks
pub mod Names
pub mod Links
pub mod Search
pub mod Tables
pub mod Scope
