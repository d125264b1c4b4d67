pub mod ResultLines
