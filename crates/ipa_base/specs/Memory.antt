-- Sources and sinks in memory, as their callers see them.
--     SourceState           a source: the bytes that are left, and how its calls go
--     SinkState             a sink: the bytes written, and how its calls go
use Rattle.std.specs.Prelude.{ℕ, List}

-- a source in memory
pub record SourceState : Type 0 where
  -- the bytes that are left
  pub left : List ℕ
  -- how many bytes a call moves at most
  pub piece : ℕ
  -- the numbers, from 1, of the calls that fail
  pub failing : List ℕ
  -- how many calls there were
  pub calls : ℕ
  -- how many of them failed
  pub faults : ℕ

-- a sink in memory
pub record SinkState : Type 0 where
  -- the bytes written
  pub written : List ℕ
  -- how many bytes a call moves at most
  pub piece : ℕ
  -- the numbers, from 1, of the calls that fail
  pub failing : List ℕ
  -- how many calls there were
  pub calls : ℕ
  -- how many of them failed
  pub faults : ℕ
