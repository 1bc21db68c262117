-- Laws that belong to no one function.
pub mod Outcome
pub mod Passed
pub mod Billing
pub mod Stay
pub mod Whole
pub mod Early
pub mod Deciding
