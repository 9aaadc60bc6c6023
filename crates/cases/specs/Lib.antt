-- The worked cases of document 01, "Small plans and what they do".
pub mod Plans
pub mod Table
