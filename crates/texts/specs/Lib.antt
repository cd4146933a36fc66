-- Texts: what an appending leaves; the parts of a text round a mark, and lemmas on them; the words of a line on what is wrong.
pub mod Appends
pub mod Parts
pub mod Words
pub mod shared
