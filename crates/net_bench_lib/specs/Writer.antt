-- What was written of a text.
--     AppendsPrefix old new text      a prefix of it was appended
use Rattle.std.specs.Prelude.{ℕ, List, Option}
use Rattle.std.specs.Io.{StartsWith}
use Rattle.std.specs.Io.KnownBytes.{Appends}

-- the known bytes of a writer grew by a prefix of the text: by all of it, a part or nothing
pub record AppendsPrefix (old new : Option (List ℕ)) (text : List ℕ) : Type 0 where
  pub written : List ℕ
  pub prefix : StartsWith text written
  pub appended : Appends old new written
