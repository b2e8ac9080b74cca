-- What a run of reads or writes does to the bytes that are told. The words for one read or write are std's:
-- `Consumes old new bytes`, `Appends old new bytes`, `IsAtEnd known`, of `Rattle.std.specs.Io.KnownBytes`.
--     GivesUp old new              some bytes from the front are no longer left
--     AppendsPart old new bytes    some of these bytes went out, from the first on, and not all of them
use Rattle.std.specs.Prelude.{ℕ, ◌<◌, List, length, take, Option}
use Rattle.std.specs.Io.KnownBytes.{Consumes, Appends}

-- the bytes that are left are those that were left, without some of the first
abbrev pub GivesUp : Option (List ℕ) → Option (List ℕ) → Type 0
GivesUp old new = (front : List ℕ) × Consumes old new front

-- the written bytes have grown by the first of these, and not by all of them
pub record AppendsPart (old new : Option (List ℕ)) (bytes : List ℕ) : Type 0 where
  pub count : ℕ
  pub short : count < length bytes
  pub appended : Appends old new (take count bytes)
