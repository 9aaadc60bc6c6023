-- The test of a plan (document 01, "When a plan is accepted" and checks 8 to 10).
pub mod Pairs
pub mod Verdict
pub mod Checked
pub mod Joints
pub mod Windows
