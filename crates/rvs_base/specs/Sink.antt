-- What a sink means, and what a call does to that.
use Rattle.std.specs.Prelude.{◌≡◌, ℕ, List, ◌++◌, Option, Some, None}

pub record SinkState : Type 0 where
  -- the bytes that were put, where the sink tells them
  pub bytes : Option (List ℕ)
  -- how often putting failed
  pub faults : ℕ

-- the same with a piece more
abbrev pub appended : Option (List ℕ) → List ℕ → Option (List ℕ)
appended None piece = None
appended (Some bytes) piece = Some (bytes ++ piece)

-- a front of these bytes was put, and nothing else
pub record PutsFront (bytes : List ℕ) (old new : SinkState) : Type 0 where
  pub front : List ℕ
  pub rest : List ℕ
  pub split : bytes ≡ front ++ rest
  pub put : new.bytes ≡ appended old.bytes front
