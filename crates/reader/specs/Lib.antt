-- What the reader writes and answers.
pub mod Turn
pub mod Read
