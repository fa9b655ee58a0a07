pub mod ShownLemmas
pub mod ServedLemmas
pub mod ObjectLemmas
pub mod TestLemmas
pub mod CaptureTestLemmas
pub mod LiveLemmas
pub mod ReportLemmas
