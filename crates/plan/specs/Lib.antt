-- The definitions that the contracts cite.
pub mod Plan
pub mod Lent
pub mod Arcs
pub mod Rising
pub mod Inserting
pub mod Linking
