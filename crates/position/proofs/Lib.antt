-- The laws of the definitions of specs/.
pub mod Size
pub mod Before
pub mod Order
pub mod Stand
pub mod Placed
