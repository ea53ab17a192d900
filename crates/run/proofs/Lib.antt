-- Laws that the proofs of this crate's functions cite.
pub mod RunSlotLaws
pub mod AdvanceLaws
pub mod StartLaws
pub mod Unique
