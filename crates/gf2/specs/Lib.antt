-- The definitions of linear algebra over the field of two elements that contracts and theorems cite.
pub mod Xor
pub mod Sum
pub mod Independence
pub mod Sparse
pub mod Vectors
pub mod Basis
pub mod Solver
pub mod Swept
pub mod Powers
pub mod Taking
