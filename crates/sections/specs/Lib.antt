-- Definitions that the contracts of this crate cite beside those of the trade.
pub mod Records
pub mod Steps
pub mod Formed
pub mod Parts
