pub mod Listed
pub mod OneTold
pub mod MarkedRecords
