-- What was read, where it is an answer that a file isn't there.
use Rattle.std.proofs.Common.{◌≡◌, ◌<◌, ◌+◌, ◌&&◌, ℕ, zero, suc, Bool, true, false, is_some}
use Rattle.std.proofs.Common.{List, [], ◌∷◌, length, Option, Some, None, Ok}
use Rattle.std.proofs.Common.{refl, sym, ap, ◌∙◌, arith}
use Rattle.rvs_base.specs.Host.{Files, HostState, Tells, ReadsOnly, LacksFile, is_told}
use Rattle.rvs_base.specs.File.{IsWhole, IsTooLong, ReadsAtMost}
use Rattle.rvs_base.specs.Sink.{SinkState}
use Rattle.rvs_plan.specs.World.{world, IsAnswer, Later}
use Rattle.rvs_plan.specs.Effect.{Read}
use Rattle.rvs_plan.specs.Plan.{Asks, gives}
use Rattle.rvs_plan.specs.Meets.{MeetsWith}
use Rattle.rvs_plan.proofs.Amounts.{ReadsThrough-ask}
use Rattle.rvs_plan.proofs.Sequence.{LaterSink-start, told-Tells, is_told-Tells}

later-reads : {h h' : HostState} (o : SinkState) → ReadsOnly h h' → Later (world h o) (world h' o)
later-reads {h} {h'} o r = record {
  reads = r.later;
  writes = let same = r.writing in omega arith;
  devices = let same = r.running in omega arith;
  told = λ i. is_some (r.files i) && r.told i && is_some (r.runs i);
  output = LaterSink-start o;
}

-- this was found in the file of this name, or it isn't there, and this is made of that
made : {A : Type 0} {h h' : HostState} (o : SinkState) (name : List ℕ) (bound : ℕ)
    (follows : Option (List ℕ) → A) (found : Option (List ℕ)) (a : A) → ReadsOnly h h'
    → ((files : Files) → Tells h files → files name ≡ found) → follows found ≡ a
    → (is_told h ≡ true → h'.read_faults ≡ h.read_faults) → ReadsAtMost 1 bound h h'
    → MeetsWith IsAnswer (Asks name bound (λ x. gives (follows x))) (world h o) (world h' o) (Ok a)
made {A} {h} {h'} o name bound follows found a r is e reads most = record {
  later = later-reads o r;
  cause = tt;
  unfaulted = record { reads = reads; writes = r.writing; devices = r.running; output = refl };
  told = λ files t. record {
    effects = Read name found ∷ [];
    goes = (refl, ap (λ (x : A). gives x) e);
    saw = (
      (λ files' told. is files' (record { files = told; rest = t.rest; runs = t.runs })),
      tt,
    );
    did = λ i. record { files = r.files i; runs = r.runs i; out = o.bytes };
  };
  reading = ReadsThrough-ask found (ap (λ (x : A). gives x) e) is most
      (λ i. record { files = r.files i; runs = r.runs i; out = o.bytes });
}

-- a file was read
pub made-whole : {A : Type 0} {h h' : HostState} (o : SinkState) (name : List ℕ) (limit : ℕ)
    (follows : Option (List ℕ) → A) (bytes : List ℕ) (a : A) → ReadsOnly h h'
    → IsWhole name limit h bytes → follows (Some bytes) ≡ a → h'.read_faults ≡ h.read_faults
    → ReadsAtMost 1 (limit + 1) h h' → MeetsWith IsAnswer
    (Asks name (limit + 1) (λ x. gives (follows x))) (world h o) (world h' o) (Ok a)
made-whole o name limit follows bytes a r w e same most =
    made o name (limit + 1) follows (Some bytes) a r w.whole e (λ told. same) most

-- it isn't there
pub made-absent : {A : Type 0} {h h' : HostState} (o : SinkState) (name : List ℕ) (limit : ℕ)
    (follows : Option (List ℕ) → A) (a : A) → ReadsOnly h h' → LacksFile name h h'
    → follows None ≡ a → ReadsAtMost 1 (limit + 1) h h' → MeetsWith IsAnswer
    (Asks name (limit + 1) (λ x. gives (follows x))) (world h o) (world h' o) (Ok a)
made-absent o name limit follows a r l e most =
    made o name (limit + 1) follows None a r l.lacks e l.unfaulted most

longer : (n : ℕ) → (xs : List ℕ) × (n < length xs)
longer zero = (0 ∷ [], omega arith)
longer (suc n) = let more = longer n in (0 ∷ more.0, omega (arith, more.1))

-- it is too long, whatever it holds
pub made-long : {A : Type 0} {h h' : HostState} (o : SinkState) (name : List ℕ) (limit : ℕ)
    (follows : Option (List ℕ) → A) (a : A) → ReadsOnly h h' → IsTooLong name limit h
    → ((bytes : List ℕ) → limit < length bytes → follows (Some bytes) ≡ a)
    → h'.read_faults ≡ h.read_faults → ReadsAtMost 1 (limit + 1) h h' → MeetsWith IsAnswer
    (Asks name (limit + 1) (λ x. gives (follows x))) (world h o) (world h' o) (Ok a)
made-long {A} {h} {h'} o name limit follows a r l e same most = by-told (is_told h) refl
  where
    by-told : (b : Bool) → is_told h ≡ b → MeetsWith IsAnswer
        (Asks name (limit + 1) (λ x. gives (follows x))) (world h o) (world h' o) (Ok a)
    by-told true is =
        let told = told-Tells h is in
        let held = l.longer told.0 told.1 in
        made o name (limit + 1) follows (Some held.0) a r
        (λ files t.
        let both : Some told.0 ≡ Some files = sym told.1.files ∙ t.files in
        let one : told.0 ≡ files = cc in
        sym (ap (λ (f : Files). f name) one) ∙ held.1)
        (e held.0 held.2) (λ told. same) most
    by-told false is =
        let some = longer limit in
        made o name (limit + 1) follows (Some some.0) a r
        (λ files t. let no : true ≡ false = sym (is_told-Tells t) ∙ is in absurd cc)
        (e some.0 some.1) (λ told. same) most
