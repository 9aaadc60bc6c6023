-- Making a plan from two binary polynomials (document 02, request a).
pub mod Taken
pub mod Make
pub mod Steps
