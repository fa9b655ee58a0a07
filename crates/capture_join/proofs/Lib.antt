pub mod WhenIdle
pub mod JoinedLines
pub mod Search
