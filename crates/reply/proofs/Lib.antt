-- Laws of the reply body.
pub mod ReplyLaws
