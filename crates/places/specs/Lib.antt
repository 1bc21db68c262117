pub mod Columns
pub mod Places
pub mod Chart
pub mod Flagging
pub mod Roads
