pub mod Kind
pub mod Phases
