pub mod Orders
pub mod shared
