-- A text on standard input of which a program keeps the first bytes: it "reads a text .. on standard input" (01, "Table of examples").
-- Assumes nothing.
use Rattle.std.specs.Prelude.{ℕ, ◌<◌, ◌≤◌, ◌≡◌}

-- `room` bytes have room for the first `len` of the text, `more` bytes follow, counted up to 2^32: none unless the room is full
pub record CutOff (room len more : ℕ) : Type 0 where
  pub inside : len ≤ room
  pub counted : more ≤ 4294967296
  pub full : 0 < more → len ≡ room
