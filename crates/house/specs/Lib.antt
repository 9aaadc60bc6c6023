-- The column table of the house plan (document 02, request d).
pub mod House
