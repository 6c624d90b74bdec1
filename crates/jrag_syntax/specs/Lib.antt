pub mod JragClaims
pub mod JragFits
pub mod JragGrammar
pub mod JragPrintedGrammar
pub mod Reading
pub mod Tokens
