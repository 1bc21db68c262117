-- Laws that belong to no one function.
pub mod Recurrence
pub mod Orders
pub mod Marked
