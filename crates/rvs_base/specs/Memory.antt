-- What a sink in memory holds.
use Rattle.std.specs.Prelude.{◌≡◌, ◌⊎◌, ℕ, List, [], Some, Contains}
use Rattle.rvs_base.specs.Faults.{raised}
use Rattle.rvs_base.specs.Sink.{SinkState}

pub record MemorySinkState : Type 0 where
  -- what was put
  pub bytes : List ℕ
  pub faults : ℕ
  -- the number of the next call
  pub calls : ℕ
  -- the numbers of the calls that fail
  pub fail : List ℕ
  -- how often a call failed for want of memory
  pub starved : ℕ

-- what such a sink tells
abbrev pub put_to : MemorySinkState → SinkState
put_to s = record { bytes = Some s.bytes; faults = s.faults }

-- before the first call
abbrev pub new_sink : List ℕ → MemorySinkState
new_sink fail = record { bytes = []; faults = 0; calls = 0; fail = fail; starved = 0 }

-- a call was made
pub record IsNumberedPut (old new : MemorySinkState) : Type 0 where
  pub numbered : new.calls ≡ raised old.calls
  pub same_list : new.fail ≡ old.fail

-- why it failed: its number is listed, or it isn't, and the call wanted memory and says so
abbrev pub HasReasonPut : MemorySinkState → MemorySinkState → Type 0
HasReasonPut old new =
    (Contains old.fail old.calls × (new.starved ≡ old.starved))
    ⊎ ((Contains old.fail old.calls → ⊥) × (new.starved ≡ raised old.starved))
