-- The laws of the definitions of specs/.
pub mod Agreement
pub mod Form
pub mod Joined
pub mod Overwriting
pub mod Turned
pub mod Layouts
pub mod Unused
