-- Laws that the proofs of this crate's functions cite, and that each contract leaves one result.
pub mod Numbers
pub mod Unique
