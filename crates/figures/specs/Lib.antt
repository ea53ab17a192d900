-- Definitions that the contracts of this crate cite beside those of the trade.
pub mod Figures
pub mod Rises
pub mod Lanes
