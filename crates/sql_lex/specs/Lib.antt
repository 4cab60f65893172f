pub mod Byte
pub mod Cut
pub mod Keyword
pub mod Reading
pub mod Sign
pub mod SignTable
pub mod Token
