pub mod Again
pub mod AsRead
pub mod Fronts
pub mod Steps
pub mod Text
pub mod Valid
pub mod Whole
pub mod WholeAsRead
