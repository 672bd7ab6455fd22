mod Count
mod Found
pub mod Moved
mod Unset
