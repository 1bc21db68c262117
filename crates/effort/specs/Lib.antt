pub mod Effort
pub mod Net
