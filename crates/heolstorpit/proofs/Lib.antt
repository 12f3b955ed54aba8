pub mod OutcomeLaws
pub mod SizeLaws
pub mod PlaceLaws
pub mod LogOutcomeLaws
