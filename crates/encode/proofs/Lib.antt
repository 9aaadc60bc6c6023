-- The laws of the definitions of specs/.
pub mod Pieces
pub mod Encoded
