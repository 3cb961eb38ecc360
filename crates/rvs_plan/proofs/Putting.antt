-- Putting pieces one after the other.
use Rattle.std.proofs.Common.{◌≡◌, ◌≤◌, ℕ, is_some, List, ◌++◌, Option}
use Rattle.std.proofs.Common.{arith, rules}
use Rattle.std.proofs.lemmas.List.{append_assoc}
use Rattle.rvs_base.specs.Sink.{SinkState, appended, PutsFront}
use Rattle.rvs_plan.specs.World.{LaterSink}

pub appended-appended : (old : Option (List ℕ)) (a b : List ℕ)
    → appended (appended old a) b ≡ appended old (a ++ b)
appended-appended old a b = search (rules, append_assoc)

is_some-appended : (old : Option (List ℕ)) (a : List ℕ) → is_some (appended old a) ≡ is_some old
is_some-appended old a = grind arith

-- a sink that was only put to is told or not as before
pub LaterSink-puts : {bytes : List ℕ} {old new : SinkState} → PutsFront bytes old new
    → old.faults ≤ new.faults → LaterSink old new
LaterSink-puts {bytes} {old} {new} p le = grind (arith, is_some, is_some-appended)

-- a front of a piece is a front of what goes on after it
pub PutsFront-longer : {a : List ℕ} {old new : SinkState} (b : List ℕ) → PutsFront a old new
    → PutsFront (a ++ b) old new
PutsFront-longer b p = grind (arith, append_assoc)

-- a front of a piece that comes after what was put whole
pub PutsFront-behind : {b : List ℕ} {old mid new : SinkState} (a : List ℕ)
    → mid.bytes ≡ appended old.bytes a → PutsFront b mid new → PutsFront (a ++ b) old new
PutsFront-behind {b} {old} {mid} {new} a put p = grind (arith, append_assoc, appended-appended)

-- a piece that is put after another
pub appended-then : (old mid new : Option (List ℕ)) (a b : List ℕ) → mid ≡ appended old a
    → new ≡ appended mid b → new ≡ appended old (a ++ b)
appended-then old mid new a b p q = grind (arith, appended-appended)
