pub mod LayoutLaw
