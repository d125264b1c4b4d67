pub mod TypingLaw
