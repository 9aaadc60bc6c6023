-- The walk over the cells, and where a data bit stands.
pub mod Walk
pub mod Placed
