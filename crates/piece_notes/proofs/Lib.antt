pub mod BySlot
