pub mod Reading
pub mod Tokens
pub mod TreeClaims
pub mod TreeGrammar
pub mod TreePrintedGrammar
pub mod Written
