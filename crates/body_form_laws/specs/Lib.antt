pub mod SameBody
