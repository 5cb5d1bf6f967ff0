-- A case in a stream: its length as a 16-bit number, low byte first, and then so many bytes, as far as the stream goes.
use Rattle.std.specs.Prelude.{◌≡◌, ◌<◌, ◌≤◌, Option, List, ◌++◌, ℕ, length}
use Rattle.std.specs.Int.{w16, from_le_bytes}
use Rattle.std.specs.Io.KnownBytes.{Consumes, IsAtEnd}

-- What a stream has to give, before and after a case was read: so many bytes were announced, and these came.
pub record CaseRead (before after : Option (List ℕ)) (announced : ℕ) (bytes : List ℕ) : Type 0 where
  pub prefix : List ℕ
  pub two : length prefix ≡ 2
  pub announces : announced ≡ from_le_bytes w16 prefix
  pub consumed : Consumes before after (prefix ++ bytes)
  pub within : length bytes ≤ announced
  -- where fewer came, the stream ends
  pub ends : length bytes < announced → IsAtEnd after
