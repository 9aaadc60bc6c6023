-- The row where two scans of one film first differ.
pub mod Difference
