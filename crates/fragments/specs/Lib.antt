pub mod Fragments
pub mod Tiles
pub mod Shared
pub mod Order
pub mod Held
pub mod Insertion
pub mod Clash
pub mod Array
