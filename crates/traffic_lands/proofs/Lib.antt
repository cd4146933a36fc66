pub mod EasyLandings
pub mod Made
pub mod Shown
