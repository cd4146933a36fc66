pub mod Draws
pub mod Sample
pub mod Flights
pub mod Made
