pub mod Segment
pub mod Huffman
pub mod Head
pub mod Writer
pub mod Markers
