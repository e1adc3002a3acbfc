-- Laws of dates.
pub mod CalendarLaws
pub mod PartLaws
pub mod NameLaws
pub mod MomentLaws
pub mod FormLaws
pub mod AnswerLaws
pub mod GrammarLaws
