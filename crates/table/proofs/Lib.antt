-- Laws that the proofs of this crate's functions, and those above it, cite.
pub mod ReadLaws
pub mod TableLaws
pub mod CheckedLaws
pub mod WrittenLaws
pub mod Unique
