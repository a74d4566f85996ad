pub mod SpanLemmas
pub mod TurnLemmas
pub mod RoundLemmas
