-- The checks of the lent buffers, after those of the plan.
pub mod Buffers
