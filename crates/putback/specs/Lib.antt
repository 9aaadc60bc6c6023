-- A burst put back.
pub mod PutBack
