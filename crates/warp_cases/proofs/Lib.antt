pub mod TimelineLemmas
