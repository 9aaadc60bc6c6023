-- The laws that the contracts of mend rest on: turns of loops and runs of places, patterns of windows, patterns on strips, which burst is found, its report.
pub mod Turns
pub mod Runs
pub mod Window
pub mod FewFits
pub mod Laying
pub mod First
pub mod Windows
pub mod Decision
pub mod Rectangle
