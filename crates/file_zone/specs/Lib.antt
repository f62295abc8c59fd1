pub mod Blocks
pub mod FileTells
pub mod Files
pub mod GoodBlocks
pub mod Telling
