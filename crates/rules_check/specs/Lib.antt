pub mod Rules
pub mod TimingRules
pub mod Findings
pub mod Text
pub mod Laws
