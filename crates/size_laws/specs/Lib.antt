pub mod SizeSentences
