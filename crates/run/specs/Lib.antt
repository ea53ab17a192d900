-- Definitions that the contracts of this crate cite beside those of the trade.
pub mod Idle
pub mod Calls
