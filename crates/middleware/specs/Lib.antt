-- Definitions that the contracts of this crate cite beside those of the trade.
pub mod Calls
