pub mod StepsLaw
