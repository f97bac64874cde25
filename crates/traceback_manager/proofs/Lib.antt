pub mod RoundFacts
pub mod JoinFacts
