-- Laws that the proofs of this crate's functions, and those above it, cite.
pub mod OwnSections
pub mod RowsLaws
pub mod RecordsLaws
pub mod StepsLaws
pub mod AtOnceLaws
pub mod FormedLaws
pub mod Unique
