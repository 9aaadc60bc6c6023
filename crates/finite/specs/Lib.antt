-- Searches and counts over the numbers below a bound.
pub mod Search
