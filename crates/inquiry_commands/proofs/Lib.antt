pub mod AuditLengths
pub mod AuditTexts
pub mod FirstLaws
pub mod FirstPlans
pub mod PlanLines
pub mod WhatIfTexts
