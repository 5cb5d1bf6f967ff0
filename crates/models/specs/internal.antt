-- What serves the contracts of inner functions.
pub mod Looking
