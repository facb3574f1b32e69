pub mod FirstLaws
pub mod WordLaws
pub mod SpanLaws
pub mod WalkLaws
