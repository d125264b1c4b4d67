pub mod WrittenNodes
pub mod Answered
pub mod FreeRuns
