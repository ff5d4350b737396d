pub mod LogGrammar
