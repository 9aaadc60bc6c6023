-- A plan's bytes and the rules of form, in the order of document 01.
pub mod Verdict
pub mod View
pub mod Header
pub mod Bytes
pub mod Accepted
pub mod Form
pub mod Table
