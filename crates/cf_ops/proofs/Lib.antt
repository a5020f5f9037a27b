pub mod TermFacts
