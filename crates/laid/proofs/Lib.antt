pub mod LayLaws
pub mod SameLaws
pub mod StoreLaws
pub mod CopyLaws
