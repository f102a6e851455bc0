pub mod Translations
pub mod Answers
