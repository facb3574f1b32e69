pub mod PutLaws
pub mod PackLaws
