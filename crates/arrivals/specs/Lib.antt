pub mod Aerodromes
pub mod Flights
pub mod Seen
