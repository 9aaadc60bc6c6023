-- A sheet turned into the other layout: how its bytes come about, and as a call leaves it.
pub mod Exchanged
pub mod Transpose
