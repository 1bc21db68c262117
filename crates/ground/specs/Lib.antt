-- The definitions that a reader must believe, and tests of them by rows that proofs use.
pub mod Kind
pub mod Walk
pub mod Link
pub mod Line
pub mod Rows
pub mod Test
pub mod Clearance
pub mod Within
pub mod Certificate
