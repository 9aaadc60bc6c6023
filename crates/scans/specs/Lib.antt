-- What is read from two scans of one film.
pub mod ReadTwo
