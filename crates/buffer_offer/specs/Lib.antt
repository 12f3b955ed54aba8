pub mod Rows
pub mod Judging
pub mod ModelCalls
pub mod Calls
pub mod Offers
