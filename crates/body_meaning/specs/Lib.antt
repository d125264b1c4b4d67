pub mod BodyValue
