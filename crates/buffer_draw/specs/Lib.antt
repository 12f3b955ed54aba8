pub mod ModelCalls
pub mod Calls
pub mod Drawable
