pub mod CutAnswers
pub mod Digits
