-- What the contracts of this crate say: direct's rule, the answers of both routes, what they leave in lent memory, and what a run costs.
pub mod Direct
pub mod Route
pub mod Price
pub mod computed
pub mod internal
pub mod examples
