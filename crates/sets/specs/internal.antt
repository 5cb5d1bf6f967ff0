-- What serves the contracts of inner functions, and laws beneath the promises.
pub mod Functions
pub mod Size
