pub mod MemberLaws
pub mod AnswerLaws
pub mod Loaded
pub mod EachText
