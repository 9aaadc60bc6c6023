-- Text in a buffer of bytes.
pub mod Text
