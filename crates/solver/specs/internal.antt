-- What serves the contracts of inner functions, and laws beneath the promises.
pub mod Reading
pub mod Forms
pub mod Checks
pub mod Working
