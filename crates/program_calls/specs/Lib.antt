pub mod Tests
pub mod CaptureTests
pub mod Live
pub mod Reports
pub mod Done
