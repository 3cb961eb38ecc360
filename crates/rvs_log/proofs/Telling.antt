-- Lines that tell how far a file has been read: put one after the other, and fronts of them.
use Rattle.std.proofs.Common.{◌≡◌, ◌≤◌, ◌<◌, ◌+◌, ◌/◌, ◌&&◌, ℕ, zero, suc, Bool, true, false}
use Rattle.std.proofs.Common.{cond, List, [], ◌++◌, length, Option, Some, nat_lt, nat_le}
use Rattle.std.proofs.Common.{Result, Err}
use Rattle.std.proofs.Common.{IfErr, refl, sym, ap, ◌∙◌, subst, arith, append-nil, rules}
use Rattle.std.specs.Prelude.{IsTrue, OnOk}
use Rattle.std.proofs.lemmas.Bool.{leb-true, leb-false}
use Rattle.std.proofs.lemmas.List.{append_assoc, length-append}
use Rattle.rvs_base.specs.Host.{HostState, Files, Tells}
use Rattle.rvs_base.specs.Sink.{SinkState, appended}
use Rattle.rvs_log.proofs.Taking.{HasTaken, HasTaken-is}
use Rattle.rvs_log.specs.declared.fault.LogFault.{LogFault}
use Rattle.rvs_log.specs.declared.fault.LogFault.TheVariants.{NoFile, Failed, TooLong, NoMemory}
use Rattle.rvs_log.specs.declared.fault.LogFault.TheVariants.{Untold}
use Rattle.rvs_log.specs.Progress.{HasTold, IsFront, Loses, is_untold, left_by, lines_of_file}
use Rattle.rvs_log.specs.Progress.{lines_of_steps, progress_line, progress_lines, put, step}

-- ---- sinks
appended-none : (old : Option (List ℕ)) → appended old [] ≡ old
appended-none old = search rules

appended-both : (old : Option (List ℕ)) (a b : List ℕ)
    → appended (appended old a) b ≡ appended old (a ++ b)
appended-both old a b = search (rules, append_assoc)

pub put-none : (sink : SinkState) → put [] sink ≡ sink
put-none sink = λ i. record { bytes = appended-none sink.bytes i; faults = sink.faults }

pub put-both : (sink : SinkState) (a b : List ℕ) → put b (put a sink) ≡ put (a ++ b) sink
put-both sink a b = λ i. record { bytes = appended-both sink.bytes a b i; faults = sink.faults }

pub not-less : (old new : SinkState) (bytes : List ℕ) → new ≡ put bytes old
    → old.faults ≤ new.faults
not-less old new bytes is = grind arith

-- ---- fronts
pub front-none : (bytes : List ℕ) → IsFront [] bytes
front-none bytes = (bytes, refl)

pub front-all : (bytes : List ℕ) → IsFront bytes bytes
front-all bytes = ([], sym (append-nil bytes))

pub front-then : (a b c : List ℕ) → IsFront a b → IsFront b c → IsFront a c
front-then a b c f g = grind (arith, append_assoc)

pub front-behind : (a b c : List ℕ) → IsFront b c → IsFront (a ++ b) (a ++ c)
front-behind a b c f = (f.0, ap (λ l. a ++ l) f.1 ∙ sym (append_assoc a b f.0))

pub front-longer : (a b c : List ℕ) → IsFront a b → IsFront a (b ++ c)
front-longer a b c f = front-then a b (b ++ c) f (c, refl)

front-step : (name : List ℕ) (a b : ℕ) → a ≤ suc b
    → (a ≤ b → IsFront (lines_of_steps name a) (lines_of_steps name b)) → (t : Bool)
    → nat_le a b ≡ t → IsFront (lines_of_steps name a) (lines_of_steps name (suc b))
front-step name a b h below true e = grind (arith, front-longer, leb-true)
front-step name a b h below false e = let more : b < a = leb-false a b e in
    let same : a ≡ suc b = omega (arith, h, more) in
    subst (λ n. IsFront (lines_of_steps name n) (lines_of_steps name (suc b))) (sym same)
    (front-all (lines_of_steps name (suc b)))

steps-front : (name : List ℕ) (a b : ℕ) → a ≤ b
    → IsFront (lines_of_steps name a) (lines_of_steps name b)
steps-front name a zero h = grind (arith, front-all)
steps-front name a (suc b) h =
    front-step name a b h (λ le. steps-front name a b le) (nat_le a b) refl

-- ---- the lines of so many bytes
pub lines-front : (name : List ℕ) (a b : ℕ) → a ≤ b
    → IsFront (progress_lines name a) (progress_lines name b)
unfolding progress_lines
lines-front name a b h = steps-front name (a / step) (b / step) (omega (arith, h))

-- what is put where it is asked for
abbrev pub so_far : Bool → List ℕ → ℕ → List ℕ
so_far asked name read = cond asked (progress_lines name read) []

abbrev pub passes : Bool → ℕ → ℕ → Bool
passes asked before after = asked && nat_lt (before / step) (after / step)

abbrev pub passing : Bool → List ℕ → ℕ → ℕ → List ℕ
passing asked name before after =
    cond (passes asked before after) (progress_line name (after / step)) []

one-more : (name : List ℕ) (a b : ℕ) (t : Bool) → nat_lt a b ≡ t → a ≤ b → b ≤ suc a
    → lines_of_steps name b ≡ lines_of_steps name a ++ cond t (progress_line name b) []
one-more name a b t e low high = search rules

-- not more than a step at once
pub more-read : (asked : Bool) (name : List ℕ) (before count : ℕ) → count ≤ step
    → so_far asked name (before + count)
    ≡ so_far asked name before ++ passing asked name before (before + count)
unfolding progress_lines
more-read true name before count h =
    one-more name (before / step) ((before + count) / step)
    (nat_lt (before / step) ((before + count) / step)) refl (omega arith) (omega (arith, h))
more-read false name before count h = refl

pub so-far-front : (asked : Bool) (name : List ℕ) (a b : ℕ) → a ≤ b
    → IsFront (so_far asked name a) (progress_lines name b)
so-far-front true name a b h = lines-front name a b h
so-far-front false name a b h = front-none (progress_lines name b)

-- ---- what a result says
pub if-err : {T E : Type 0} (r : Result T E) (e : E) (P : E → Type 0) → r ≡ Err e → P e → IfErr r P
if-err r e P is p = subst (λ r. IfErr r P) (sym is) p

pub not-ok : {T E : Type 0} (r : Result T E) (e : E) (P : Type 0) → r ≡ Err e → OnOk r P
not-ok r e P is = subst (λ r. OnOk r P) (sym is) tt

-- ---- a file that is read
-- what was put while these bytes were taken is a front of the lines of the file
pub part-of-file : {name bytes : List ℕ} {old now : HostState} (front : List ℕ)
    → HasTaken name old now bytes → IsFront front (progress_lines name (length bytes))
    → (files : Files) → Tells old files → IsFront front (lines_of_file name (files name))
part-of-file {name} {bytes} front h f files told =
    let file = HasTaken-is h files told in
    let longer : length bytes ≤ length (bytes ++ file.0) =
    omega (arith, length-append bytes file.0) in
    subst (λ (o : Option (List ℕ)). IsFront front (lines_of_file name o)) (sym file.1)
    (front-then front (progress_lines name (length bytes)) (progress_lines name
    (length (bytes ++ file.0))) f
    (lines-front name (length bytes) (length (bytes ++ file.0)) longer))

pub told-at-first : (asked : Bool) (name : List ℕ) (sink : SinkState)
    → sink ≡ put (so_far asked name 0) sink
unfolding progress_lines
told-at-first true name sink = sym (put-none sink)
told-at-first false name sink = sym (put-none sink)

-- and of so many bytes more
pub told-further : (asked : Bool) (name : List ℕ) (before count read : ℕ) (old mid new : SinkState)
    → count ≤ step → read ≡ before + count → mid ≡ put (so_far asked name before) old
    → new ≡ put (passing asked name before (before + count)) mid
    → new ≡ put (so_far asked name read) old
told-further asked name before count read old mid new fits is was now =
    now ∙ ap (put (passing asked name before (before + count))) was
    ∙ put-both old (so_far asked name before) (passing asked name before (before + count))
    ∙ ap (λ l. put l old) (sym (more-read asked name before count fits))
    ∙ ap (λ n. put (so_far asked name n) old) (sym is)

-- where so many bytes were told of
pub told-now : (asked : Bool) (name : List ℕ) (read all : ℕ) (old new : SinkState) → read ≡ all
    → new ≡ put (so_far asked name read) old → new ≡ put (so_far asked name all) old
told-now asked name read all old new same is = grind arith

unasked-far : (asked : Bool) (name : List ℕ) (read : ℕ) → asked ≡ false
    → so_far asked name read ≡ []
unasked-far asked name read e = grind arith

asked-far : (asked : Bool) (name : List ℕ) (read : ℕ) → asked ≡ true
    → so_far asked name read ≡ progress_lines name read
asked-far asked name read e = grind arith

-- before the first byte
pub told-nothing : (asked : Bool) (lines : Files → List ℕ) (host : HostState) (sink : SinkState)
    → HasTold asked lines host sink sink false false
told-nothing asked lines host sink = grind (arith, put-none, front-none)

-- work that stopped behind these bytes
pub told-part : {name bytes : List ℕ} {host now : HostState} (asked : Bool) (old new : SinkState)
    → HasTaken name host now bytes → new ≡ put (so_far asked name (length bytes)) old
    → HasTold asked (λ files. lines_of_file name (files name)) host old new false false
told-part {name} {bytes} asked old new h is = record {
  front = so_far asked name (length bytes);
  left = is;
  later = not-less _ _ _ is;
  part = part-of-file (so_far asked name (length bytes)) h
      (so-far-front asked name (length bytes) (length bytes) (omega arith));
  all = λ whole. absurd cc;
  unasked = λ e. (unasked-far asked name (length bytes) e, refl);
}

-- these are all the bytes of the file
pub told-whole : {name bytes : List ℕ} {host now : HostState} (asked : Bool) (old new : SinkState)
    → HasTaken name host now bytes
    → ((files : Files) → Tells host files → files name ≡ Some bytes)
    → new ≡ put (so_far asked name (length bytes)) old
    → HasTold asked (λ files. lines_of_file name (files name)) host old new true false
told-whole {name} {bytes} asked old new h whole is =
    search (rules, not-less, part-of-file, so-far-front, asked-far, unasked-far)

both-true : (a b : Bool) → IsTrue (a && b) → a ≡ false → ⊥
both-true true b is e = absurd cc
both-true false b is e = absurd cc

still-front : (t : Bool) (line front : List ℕ) → IsTrue t → IsFront front line
    → IsFront front (cond t line [])
still-front t line front is f = grind arith

-- the line that was to be put behind these bytes wasn't
pub told-lost : {name bytes : List ℕ} {host now : HostState} (asked : Bool) (before count : ℕ)
    (old mid new : SinkState) (fault : LogFault)
    → HasTaken name host now bytes → length bytes ≡ before + count → count ≤ step
    → mid ≡ put (so_far asked name before) old
    → Loses (passes asked before (before + count)) (progress_line name ((before + count) / step))
    mid new fault
    → HasTold asked (λ files. lines_of_file name (files name)) host old new false (is_untold fault)
told-lost asked before count old mid new NoFile h long fits is lost = absurd lost
told-lost asked before count old mid new Failed h long fits is lost = absurd lost
told-lost asked before count old mid new TooLong h long fits is lost = absurd lost
told-lost {name} {bytes} asked before count old mid new NoMemory h long fits is lost = record {
  front = so_far asked name before;
  left = lost.1 ∙ is;
  later = not-less _ _ _ (lost.1 ∙ is);
  part = part-of-file (so_far asked name before) h
      (so-far-front asked name before (length bytes) (omega (arith, long)));
  all = λ whole. absurd cc;
  unasked = λ e. (unasked-far asked name before e, refl);
}
told-lost {name} {bytes} asked before count old mid new Untold h long fits is lost =
    let after = before + count in
    let line = progress_line name (after / step) in
    let put-front = lost.1 in
    let front = so_far asked name before ++ put-front.front in
    let here : IsFront front (so_far asked name (length bytes)) =
    subst (λ l. IsFront front l) (sym (ap (so_far asked name) long
    ∙ more-read asked name before count fits))
    (front-behind (so_far asked name before) put-front.front (passing asked name before after)
    (still-front (passes asked before after) line put-front.front lost.0
    (put-front.rest, put-front.split))) in
    record {
      front = front;
      left = (λ i. record { bytes = put-front.put i; faults = lost.2 i })
          ∙ ap (λ (s : SinkState). left_by true (put put-front.front s)) is
          ∙ ap (left_by true) (put-both old (so_far asked name before) put-front.front);
      later = omega (arith, not-less _ _ _ is, lost.3);
      part = part-of-file front h (front-then front (so_far asked name (length bytes))
          (progress_lines name (length bytes)) here
          (so-far-front asked name (length bytes) (length bytes) (omega arith)));
      all = λ whole. absurd cc;
      unasked = λ e. absurd (both-true asked _ lost.0 e);
    }
