-- A file that is fed piece by piece.
use Rattle.std.proofs.Common.{◌≡◌, ℕ, ◌+◌, ◌-◌, ◌^◌, ◌<◌, ◌≤◌, List, [], ◌++◌, length, take}
use Rattle.std.proofs.Common.{Bool, refl, subst, arith}
use Rattle.std.proofs.lemmas.List.{append_assoc, append-nil, length-append, length-take-le}
use Rattle.rvs_base.specs.Host.{HostState, ReadsOnly, OpenCause, Opens, Takes}
use Rattle.rvs_base.specs.declared.host.OpenFault.{OpenFault}
use Rattle.rvs_base.specs.declared.host.OpenFault.TheVariants as opening
use Rattle.rvs_log.proofs.Taking.{HasTaken, HasTaken-start, HasTaken-more, HasTaken-whole}
use Rattle.rvs_log.proofs.Taking.{HasTaken-front, HasTaken-longer, not-above}
use Rattle.rvs_log.specs.Grammar.{Reading}
use Rattle.rvs_log.specs.Taken.{Taken}
use Rattle.rvs_base.specs.Sink.{SinkState}
use Rattle.rvs_log.specs.Feeds.{Fed, FeedsFile, FeedsFront, FeedCause, IsLong, fault_of}
use Rattle.rvs_log.specs.Progress.{Loses}
use Rattle.rvs_log.specs.declared.fault.LogFault.{LogFault}

pub Fed-none : {T : Type 0} {step : T → Reading → T} (c : Taken T) → Fed step c c []
Fed-none c = grind (arith, append-nil)

pub Fed-more : {T : Type 0} {step : T → Reading → T} (c c' c'' : Taken T) (a b : List ℕ)
    → Fed step c c' a → Fed step c' c'' b → Fed step c c'' (a ++ b)
Fed-more c c' c'' a b f g = grind (arith, length-append, append_assoc)

-- what was fed of an open file so far
pub record HasFed {T : Type 0} (step : T → Reading → T) (name : List ℕ) (old now : HostState)
    (c c' : Taken T) : Type 0 where
  pub bytes : List ℕ
  pub took : HasTaken name old now bytes
  pub fed : Fed step c c' bytes
  pub within : length bytes ≤ 2 ^ 40 - c.fed

pub HasFed-start : {T : Type 0} {step : T → Reading → T}
    {name : List ℕ} {old now : HostState} (c : Taken T) → ReadsOnly old now
    → now.read_faults ≡ old.read_faults → Opens name old now → HasFed step name old now c c
HasFed-start c q u o = record {
  bytes = [];
  took = HasTaken-start q u o;
  fed = Fed-none c;
  within = omega arith;
}

pub HasFed-more : {T : Type 0} {step : T → Reading → T}
    {name buffer : List ℕ} {old now next : HostState} {c c' : Taken T} {n : ℕ}
    (c'' : Taken T)
    → HasFed step name old now c c' → ReadsOnly now next → next.read_faults ≡ now.read_faults
    → Takes buffer now next n → Fed step c' c'' (take n buffer) → c''.fed ≤ 2 ^ 40
    → HasFed step name old next c c''
HasFed-more {buffer = buffer} {c = c} {c' = c'} {n = n} c'' h q u t f low = record {
  bytes = h.bytes ++ take n buffer;
  took = HasTaken-more h.took q u t;
  fed = Fed-more c c' c'' h.bytes (take n buffer) h.fed f;
  within = omega (arith, h.fed.fed, f.fed, low, length-append h.bytes (take n buffer));
}

-- before the first byte, with none
pub HasFed-begun : {T : Type 0} {step : T → Reading → T}
    {name : List ℕ} {old now : HostState} (c : Taken T) → ReadsOnly old now
    → now.read_faults ≡ old.read_faults → Opens name old now
    → (h : HasFed step name old now c c) × (length h.bytes ≡ 0)
unfolding HasFed-start
HasFed-begun c q u o = (HasFed-start c q u o, refl)

-- a piece more, with so many bytes more
pub HasFed-step : {T : Type 0} {step : T → Reading → T}
    {name buffer : List ℕ} {old now next : HostState} {c c' : Taken T} {n : ℕ}
    (c'' : Taken T) (piece : List ℕ) (h : HasFed step name old now c c')
    → ReadsOnly now next → next.read_faults ≡ now.read_faults → Takes buffer now next n
    → piece ≡ take n buffer → Fed step c' c'' piece → (2 ^ 40 < c'.fed + length piece → ⊥)
    → (h' : HasFed step name old next c c'') × (length h'.bytes ≡ length h.bytes + n)
unfolding HasFed-more
HasFed-step {step = step} {buffer = buffer} {c' = c'} {n = n} c'' piece h q u t is fed never =
    let low : c''.fed ≤ 2 ^ 40 = not-above c''.fed (2 ^ 40)
    (λ more. never (omega (arith, more, fed.fed))) in (
      HasFed-more c'' h q u t (subst (λ l. Fed step c' c'' l) is fed) low,
      omega (arith, length-append h.bytes (take n buffer), length-take-le n buffer t.fits),
    )

pub HasFed-whole : {T : Type 0} {step : T → Reading → T}
    {name buffer : List ℕ} {old now next : HostState} {c c' : Taken T} {n : ℕ}
    → HasFed step name old now c c' → Takes buffer now next n → n ≡ 0 → FeedsFile step name old c c'
HasFed-whole h t z =
    record { bytes = h.bytes; fed = h.fed; whole = HasTaken-whole h.took t z }

pub HasFed-front : {T : Type 0} {step : T → Reading → T}
    {name : List ℕ} {old now : HostState} {c c' : Taken T}
    → HasFed step name old now c c' → FeedsFront step name old c c'
HasFed-front h = record { bytes = h.bytes; fed = h.fed; front = HasTaken-front h.took }

-- a file that isn't opened
pub feeds-none : {T : Type 0} (step : T → Reading → T) (name : List ℕ) (old : HostState)
    (c : Taken T) → FeedsFront step name old c c
feeds-none step name old c = record {
  bytes = [];
  fed = Fed-none c;
  front = λ files file told is. (file, refl);
}

pub cause-unopened : {T : Type 0} (name : List ℕ) (old new : HostState) (c : Taken T)
    (fault : OpenFault) → OpenCause name old new fault → FeedCause name old new c c (fault_of fault)
cause-unopened name old new c opening.NoFile h = (h, refl)
cause-unopened name old new c opening.Failed h = h

-- one piece too much
pub HasFed-long : {T : Type 0} {step : T → Reading → T}
    {name buffer : List ℕ} {old now next : HostState} {c c' : Taken T} {n : ℕ}
    → HasFed step name old now c c' → ReadsOnly now next → Takes buffer now next n
    → 2 ^ 40 < c'.fed + length (take n buffer) → IsLong name old c
HasFed-long h q t l = record {
  longer = λ files told.
      let file = HasTaken-longer h.took q t files told in
      (file.0, file.1, omega (arith, l, h.fed.fed, file.2));
}

-- a line that wasn't put is no fault of the host
pub cause-lost : {T : Type 0} (name line : List ℕ) (old new : HostState) (c c' : Taken T)
    (asked : Bool) (sink sink' : SinkState) (fault : LogFault) → Loses asked line sink sink' fault
    → new.read_faults ≡ old.read_faults → FeedCause name old new c c' fault
cause-lost name line = grind arith
