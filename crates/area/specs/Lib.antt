-- Definitions that the contracts of this crate cite beside those of the trade.
pub mod Area
pub mod Refusals
pub mod Dues
