-- What stopped or ended in a later piece did so in the whole.
use Rattle.std.proofs.Common.{Result, Ok, Err}
use Rattle.rvs_plan.specs.World.{Contents}
use Rattle.rvs_plan.specs.Effect.{Deed}
use Rattle.rvs_plan.specs.Plan.{Plan, ◌>>=◌}
use Rattle.rvs_plan.specs.Meets.{Reaches, BrokeAt, Halts, Follows}
use Rattle.rvs_plan.proofs.Reaching.{Reaches-trans, Reaches-then}
use Rattle.rvs_plan.specs.declared.stop.Stop.{Stop}
use Rattle.rvs_plan.specs.declared.stop.Stop.TheVariants.{Usage, Refused, NoFile, CannotRead}
use Rattle.rvs_plan.specs.declared.stop.Stop.TheVariants.{CannotWrite, CannotRun, NoMemory}
use Rattle.rvs_plan.specs.declared.stop.Stop.TheVariants.{SinkFault}

BrokeAt-behind : {A : Type 0} {plan mid : Plan A} {failed : Deed} {old between new : Contents}
    → Reaches plan mid old between → BrokeAt mid failed between new → BrokeAt plan failed old new
BrokeAt-behind r b = record {
  rest = b.rest;
  before = b.before;
  reaches = Reaches-trans r b.reaches;
  broke = b.broke;
}

-- what a rest of the plan did and why it stopped, after effects of the plan that led to that rest
pub Halts-behind : {A : Type 0} {plan mid : Plan A} {old between : Contents} (new : Contents)
    (stop : Stop) → Reaches plan mid old between → Halts mid between new stop → Halts plan old new
    stop
Halts-behind new Usage r h = Reaches-trans r h
Halts-behind new (Refused text) r h = Reaches-trans r h
Halts-behind new (NoFile name) r h = Reaches-trans r h
Halts-behind new (CannotRead name) r h =
    record { bound = h.bound; next = h.next; reaches = Reaches-trans r h.reaches }
Halts-behind new (CannotWrite name) r h = (h.0, BrokeAt-behind r h.1)
Halts-behind new (CannotRun test) r h = record {
  words = h.words;
  signature = h.signature;
  next = h.next;
  before = h.before;
  reaches = Reaches-trans r h.reaches;
  broke = h.broke;
}
Halts-behind new NoMemory r h = (h.0, Reaches-trans r h.1)
Halts-behind new SinkFault r h = (h.0, BrokeAt-behind r h.1)

pub Follows-behind : {A : Type 0} {plan mid : Plan A} {old between : Contents} (new : Contents)
    (result : Result A Stop) → Reaches plan mid old between → Follows mid between new result
    → Follows plan old new result
Follows-behind new (Ok a) r f = Reaches-trans r f
Follows-behind new (Err stop) r f = Halts-behind new stop r f

BrokeAt-then : {A B : Type 0} (next : A → Plan B) {p : Plan A} {failed : Deed} {old new : Contents}
    → BrokeAt p failed old new → BrokeAt (p >>= next) failed old new
BrokeAt-then next b = record {
  rest = b.rest >>= next;
  before = b.before;
  reaches = Reaches-then next b.reaches;
  broke = b.broke;
}

-- a first piece that stopped stops the whole
pub Halts-then : {A B : Type 0} (next : A → Plan B) (p : Plan A) (old new : Contents) (stop : Stop)
    → Halts p old new stop → Halts (p >>= next) old new stop
Halts-then next p old new Usage h = Reaches-then next h
Halts-then next p old new (Refused text) h = Reaches-then next h
Halts-then next p old new (NoFile name) h = Reaches-then next h
Halts-then next p old new (CannotRead name) h = record {
  bound = h.bound;
  next = λ found. h.next found >>= next;
  reaches = Reaches-then next h.reaches;
}
Halts-then next p old new (CannotWrite name) h = (h.0, BrokeAt-then next h.1)
Halts-then next p old new (CannotRun test) h = record {
  words = h.words;
  signature = h.signature;
  next = λ found. h.next found >>= next;
  before = h.before;
  reaches = Reaches-then next h.reaches;
  broke = h.broke;
}
Halts-then next p old new NoMemory h = (h.0 >>= next, Reaches-then next h.1)
Halts-then next p old new SinkFault h = (h.0, BrokeAt-then next h.1)
