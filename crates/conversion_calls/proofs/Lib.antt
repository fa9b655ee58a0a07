mod PortLemmas
mod Parts
mod RowTexts
