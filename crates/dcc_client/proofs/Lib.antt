pub mod Ascii
pub mod Asked
pub mod Pieces
pub mod Replies
pub mod Texts
