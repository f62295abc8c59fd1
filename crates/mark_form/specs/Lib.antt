pub mod Bytes
pub mod Drafts
pub mod Grammar
pub mod Scanning
pub mod TagLaws
pub mod Tags
