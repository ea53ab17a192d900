-- Definitions that the contracts of this crate cite beside those of the trade.
pub mod States
pub mod Release
pub mod Choice
pub mod Granting
