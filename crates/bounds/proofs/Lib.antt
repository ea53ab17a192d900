-- Laws that the proofs of this crate's functions, and those above it, cite.
pub mod SmallestLaws
pub mod BoundsLaws
pub mod CheckLaws
pub mod Unique
