-- The theorem of the table of cases.
pub mod Cases
