pub mod CursorLaw
