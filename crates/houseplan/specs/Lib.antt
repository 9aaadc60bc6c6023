-- The house plan (document 02, request d).
pub mod HousePlan
