pub mod KindNumbers
pub mod Drafts
pub mod Works
pub mod Texts
