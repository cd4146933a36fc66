-- What these commands print, and which files they refuse.
pub mod Audit
pub mod First
pub mod FirstShown
pub mod WhatIf
