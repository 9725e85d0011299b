pub mod ScriptLemmas
pub mod PrintingLemmas
pub mod ReplayLemmas
pub mod Visible
