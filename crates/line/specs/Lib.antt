-- The line that the program prints, and which way its burst is searched for.
pub mod Line
pub mod Parts
pub mod Choice
