pub mod LabelLemmas
pub mod CanLabelLemmas
pub mod RangeLemmas
pub mod ReachLemmas
pub mod ColumnLemmas
pub mod WrittenColumns
