pub mod ReadProgram
