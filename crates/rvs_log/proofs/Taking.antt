-- A file that is taken piece by piece.
use Rattle.std.proofs.Common.{◌≡◌, ◌≤◌, ◌<◌, ◌+◌, ℕ, true, is_some, List, [], ◌++◌}
use Rattle.std.proofs.Common.{length, take, drop, Option, Some, Result, nat_lt}
use Rattle.std.proofs.Common.{sym, ap, ◌∙◌, arith}
use Rattle.std.specs.Prelude.{OnErr}
use Rattle.std.proofs.lemmas.Bool.{ltb-true, ltb-false}
use Rattle.std.proofs.lemmas.List.{append_assoc, append-nil, length-append, length-take-le}
use Rattle.rvs_base.specs.File.{ReadsAtMost}
use Rattle.rvs_base.specs.Host.{HostState, Files, Tells, ReadsOnly, IsUnread, Opens, Takes}
use Rattle.rvs_base.proofs.Reading.{ReadsOnly-then}

pub on-err : {T E : Type 0} (r : Result T E) (P : Type 0) → P → OnErr r P
on-err r = grind arith

pub not-above : (n most : ℕ) → (most < n → ⊥) → n ≤ most
not-above n most never = grind (arith, nat_lt, ltb-true, ltb-false)

-- the file is open, and these bytes of it were taken, from its start on
pub record HasTaken (name : List ℕ) (old now : HostState) (bytes : List ℕ) : Type 0 where
  pub reads : ReadsOnly old now
  pub unfaulted : now.read_faults ≡ old.read_faults
  pub opened : now.is_open ≡ true
  pub openings : now.openings ≤ old.openings + 1
  pub taken : now.taken ≤ old.taken + length bytes
  pub rest : (files : Files) (r : List ℕ) → Tells old files → now.rest ≡ Some r
      → files name ≡ Some (bytes ++ r)

pub HasTaken-start : {name : List ℕ} {old now : HostState} → ReadsOnly old now
    → now.read_faults ≡ old.read_faults → Opens name old now → HasTaken name old now []
HasTaken-start q u o = grind arith

some_of : {X : Type 0} (o : Option X) → is_some o ≡ true → (x : X) × (o ≡ Some x)
some_of o = grind arith

inner : {X : Type 0} (x y : X) → Some x ≡ Some y → x ≡ y
inner x y e = cc

-- what is left of a told file
left : {old now : HostState} (files : Files) → ReadsOnly old now → Tells old files
    → (r : List ℕ) × (now.rest ≡ Some r)
left {old} {now} files q t = some_of now.rest (q.told ∙ t.rest)

-- the file is what was taken, the piece that was taken last, and the rest
file_is : {name buffer bytes : List ℕ} {old now next : HostState} {n : ℕ}
    → HasTaken name old now bytes → ReadsOnly now next → Takes buffer now next n
    → (files : Files) (r : List ℕ) → Tells old files → next.rest ≡ Some r
    → files name ≡ Some (bytes ++ (take n buffer ++ r))
file_is {buffer = buffer} {bytes = bytes} {now = now} {n = n} h q t files r told e =
    let o = some_of now.rest (sym q.told ∙ ap (λ (o : Option (List ℕ)). is_some o) e) in
    h.rest files o.0 told o.1
    ∙ ap (λ l. Some (bytes ++ l)) (t.next o.0 o.1)
    ∙ ap (λ l. Some (bytes ++ (take n buffer ++ l)))
    (inner (drop n o.0) r (sym (t.left o.0 o.1) ∙ e))

pub HasTaken-more : {name buffer bytes : List ℕ} {old now next : HostState} {n : ℕ}
    → HasTaken name old now bytes → ReadsOnly now next → next.read_faults ≡ now.read_faults
    → Takes buffer now next n → HasTaken name old next (bytes ++ take n buffer)
HasTaken-more {buffer = buffer} {bytes = bytes} {n = n} h q u t = record {
  reads = ReadsOnly-then h.reads q;
  unfaulted = u ∙ h.unfaulted;
  opened = t.still_open;
  openings = omega (arith, h.openings, t.unopened);
  taken = omega (
    arith,
    h.taken,
    t.counted,
    length-append bytes (take n buffer),
    length-take-le n buffer t.fits,
  );
  rest = λ files r told e. file_is h q t files r told e
      ∙ ap (λ l. Some l) (sym (append_assoc bytes (take n buffer) r));
}

-- nothing was left, so these are all the bytes of the file
pub HasTaken-whole : {name buffer bytes : List ℕ} {old now next : HostState} {n : ℕ}
    → HasTaken name old now bytes → Takes buffer now next n → n ≡ 0
    → (files : Files) → Tells old files → files name ≡ Some bytes
HasTaken-whole {bytes = bytes} h t z files told =
    let o = left files h.reads told in
    h.rest files o.0 told o.1 ∙ ap (λ l. Some (bytes ++ l)) (t.at_end z o.0 o.1)
    ∙ ap (λ l. Some l) (append-nil bytes)

-- the file has these bytes and perhaps more
pub HasTaken-is : {name bytes : List ℕ} {old now : HostState} → HasTaken name old now bytes
    → (files : Files) → Tells old files → (rest : List ℕ) × (files name ≡ Some (bytes ++ rest))
HasTaken-is h files told =
    let o = left files h.reads told in (o.0, h.rest files o.0 told o.1)

-- they are a front of it
pub HasTaken-front : {name bytes : List ℕ} {old now : HostState} → HasTaken name old now bytes
    → (files : Files) (file : List ℕ) → Tells old files → files name ≡ Some file
    → (rest : List ℕ) × (file ≡ bytes ++ rest)
HasTaken-front {bytes = bytes} h files file told e =
    let o = left files h.reads told in
    (o.0, inner file (bytes ++ o.0) (sym e ∙ h.rest files o.0 told o.1))

-- the file has at least what was taken and the piece behind it
pub HasTaken-longer : {name buffer bytes : List ℕ} {old now next : HostState} {n : ℕ}
    → HasTaken name old now bytes → ReadsOnly now next → Takes buffer now next n
    → (files : Files) → Tells old files → (file : List ℕ) × (files name ≡ Some file)
    × (length bytes + length (take n buffer) ≤ length file)
HasTaken-longer {buffer = buffer} {bytes = bytes} {n = n} h q t files told =
    let o = left files (ReadsOnly-then h.reads q) told in
    let piece = take n buffer in (
      bytes ++ (piece ++ o.0),
      file_is h q t files o.0 told o.1,
      omega (arith, length-append bytes (piece ++ o.0), length-append piece o.0),
    )

-- what was taken and the piece behind it
pub HasTaken-most : {name buffer bytes : List ℕ} {old now next : HostState} {n most : ℕ}
    → HasTaken name old now bytes → Takes buffer now next n → length bytes + n ≤ most
    → ReadsAtMost 1 most old next
HasTaken-most h t fits = grind arith

-- and then a call failed
pub HasTaken-failed : {name bytes : List ℕ} {old now next : HostState} {most : ℕ}
    → HasTaken name old now bytes → IsUnread now next → length bytes ≤ most
    → ReadsAtMost 1 most old next
HasTaken-failed h unread fits = grind arith
