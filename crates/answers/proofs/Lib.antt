pub mod SlotsLaw
pub mod NodeSameLaw
pub mod OpNodeLaw
pub mod AnswerLaw
