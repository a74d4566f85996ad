pub mod SeatLemmas
pub mod ApartLemmas
pub mod TextLemmas
pub mod ReadLemmas
