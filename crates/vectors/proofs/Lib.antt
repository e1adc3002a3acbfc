-- Laws of what is put and of how a line is read.
pub mod PutLaws
pub mod ReadLaws
pub mod AnswerLaws
pub mod VectorLaws
