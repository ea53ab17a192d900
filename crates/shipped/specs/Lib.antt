-- What a reader must believe of the functions that ship: what a call of each was handed and gave, as its contract speaks of it.
pub mod Calls
