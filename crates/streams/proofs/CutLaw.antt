-- The bytes of a text that are kept.
-- Assumes nothing.
use Rattle.std.proofs.Common.{◌≡◌, List, ℕ, length, take, length-take-le}
use Rattle.streams.specs.Cut.{CutOff}

module _ (room : ℕ) (bytes : List ℕ) (n more : ℕ) (cut : CutOff (length bytes) n more) where
  -- the part that is kept is as long as was read
  pub kept-length : length (take n bytes) ≡ n
  kept-length = length-take-le n bytes cut.inside

  pub kept-cut : length bytes ≡ room → CutOff room (length (take n bytes)) more
  kept-cut e = rw (kept-length, ← e) cut
