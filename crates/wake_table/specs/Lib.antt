-- Letters: the categories. Table: what a table of separations is.
pub mod Letters
pub mod Table
