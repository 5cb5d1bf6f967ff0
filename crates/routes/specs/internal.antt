-- What serves the contracts of inner functions, and laws beneath the promises.
pub mod Parts
pub mod Given
pub mod Evaluating
pub mod Answering
