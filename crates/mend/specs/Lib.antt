-- The burst for two sums: what the window fit, the strips, the search and the report answer.
pub mod Window
pub mod Strip
pub mod Search
pub mod Report
pub mod Found
