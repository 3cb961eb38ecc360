use Rattle.std.proofs.Common.{◌≡◌, List, ℕ, ◌+◌, ◌^◌, ◌<◌, ◌∙◌, refl, sym, ap, subst, length}
use Rattle.std.proofs.Common.{Bool, false, arith}
use Rattle.std.proofs.lemmas.Result.{err_from_is_err_and}
use Rattle.rvs_base.proofs.Reading.{ReadsOnly-then}
use Rattle.rvs_base.specs.Faults.{raised}
use Rattle.rvs_base.specs.Host.{Files}
use Rattle.rvs_base.specs.declared.host.OpenFault.{OpenFault}
use Rattle.rvs_base.specs.declared.host.OpenFault.TheVariants as opening
use Rattle.rvs_log.specs.Feeds.{FeedCause, FeedsFront, fault_of}
use Rattle.rvs_log.specs.Progress.{HasTold, is_untold, lines_of_file}
use Rattle.rvs_log.specs.Taken.{Taken}
use Rattle.rvs_log.specs.declared.fault.LogFault.{LogFault}
use Rattle.rvs_log.proofs.Feeding.{HasFed-begun, HasFed-step, HasFed-whole, HasFed-front}
use Rattle.rvs_log.proofs.Feeding.{HasFed-long, cause-lost, cause-unopened, feeds-none}
use Rattle.rvs_log.proofs.Taking.{HasTaken-most, HasTaken-failed, HasTaken-whole, on-err}
use Rattle.rvs_log.proofs.Telling.{if-err, not-ok, told-nothing, told-part, told-whole, told-lost}
use Rattle.rvs_log.proofs.Telling.{told-at-first, told-further, told-now}
use Rattle.rvs_log.proofs.file.feed_file.Goals as goal

-- a file that isn't opened isn't for want of a line
opening-tells : (fault : OpenFault) → is_untold (fault_of fault) ≡ false
opening-tells opening.NoFile = refl
opening-tells opening.Failed = refl

pub pieces-init : goal.pieces-init
pieces-init g c =
    let begun = HasFed-begun c.args.reader.now c.open_read.ensures.reads_only
    c.in_ok-open_read.ensures.unfaulted
    c.in_ok-open_read.ensures.opened in
    record {
      fed = begun.0;
      count = sym begun.1;
      told = told-at-first c.args.progress c.args.name.now (g.E.Sink.state c.args.err.now);
    }

pub returns-in_err-open_read : goal.returns-in_err-open_read
returns-in_err-open_read g c =
    let r = c.from_residual.result in
    let p = err_from_is_err_and r c.from_residual.ensures.1 in
    let failed = c.in_err-open_read.ensures in
    let name = c.args.name.now in
    let lines : Files → List ℕ = λ files. lines_of_file name (files name) in
    let host = g.H.Host.state c.args.host.now in
    let sink = g.E.Sink.state c.args.err.now in
    let C : LogFault → Type 0 = λ fault. FeedCause name host
    (g.H.Host.state c.open_read.new.self) c.args.reader.now c.args.reader.now fault in
    let P : LogFault → Type 0 = λ fault.
    HasTold c.args.progress lines host sink sink false (is_untold fault) in
    let Q : Bool → Type 0 = λ lost. HasTold c.args.progress lines host sink sink false lost in
    record {
      reads_only = c.open_read.ensures.reads_only;
      whole = not-ok r p.0 _ p.1;
      unfaulted = not-ok r p.0 _ p.1;
      front = on-err r _ (feeds-none g.C.Consumer.step name host c.args.reader.now);
      cause = if-err r p.0 C p.1 (subst C (sym p.2) (cause-unopened name host _ c.args.reader.now
          c.in_err-open_read.field-0.0 failed.cause));
      at_most = record {
        opened = omega (arith, failed.unread.openings);
        taken = omega (arith, failed.unread.taken);
      };
      told = not-ok r p.0 _ p.1;
      untold = if-err r p.0 P p.1 (subst P (sym p.2)
          (subst Q (sym (opening-tells c.in_err-open_read.field-0.0))
          (told-nothing c.args.progress lines host sink)));
    }

pub returns-in_err-count : goal.returns-in_err-count
returns-in_err-count g c =
    let r = c.from_residual-in_err-count.result in
    let p = err_from_is_err_and r c.from_residual-in_err-count.ensures.1 in
    let fed = c.pieces.invariant.fed in
    let name = c.args.name.now in
    let host = g.H.Host.state c.args.host.now in
    let lines : Files → List ℕ = λ files. lines_of_file name (files name) in
    let C : LogFault → Type 0 = λ fault. FeedCause name host
    (g.H.Host.state c.take.new.self) c.args.reader.now c.pieces.reader fault in
    let P : LogFault → Type 0 = λ fault. HasTold c.args.progress lines
    (g.H.Host.state c.args.host.now) (g.E.Sink.state c.args.err.now) (g.E.Sink.state c.pieces.err)
    false (is_untold fault) in
    record {
      reads_only = ReadsOnly-then fed.took.reads c.take.ensures.reads_only;
      whole = not-ok r p.0 _ p.1;
      unfaulted = not-ok r p.0 _ p.1;
      front = on-err r _ (HasFed-front fed);
      cause = if-err r p.0 C p.1 (subst C (sym p.2)
          (c.in_err-count.ensures.cause ∙ ap raised fed.took.unfaulted));
      at_most = HasTaken-failed fed.took c.in_err-count.ensures.unread (omega (arith, fed.within));
      told = not-ok r p.0 _ p.1;
      untold = if-err r p.0 P p.1 (subst P (sym p.2)
          (told-part c.args.progress (g.E.Sink.state c.args.err.now) (g.E.Sink.state c.pieces.err)
          fed.took (told-now c.args.progress name _ _ _ _ c.pieces.invariant.count
          c.pieces.invariant.told)));
    }

pub returns-then-count-eq0 : goal.returns-then-count-eq0
returns-then-count-eq0 g c =
    let fed = c.pieces.invariant.fed in
    let taken = c.in_ok-count.ensures.taken in
    record {
      reads_only = ReadsOnly-then fed.took.reads c.take.ensures.reads_only;
      whole = HasFed-whole fed taken c.if-count-eq0.true;
      unfaulted = c.in_ok-count.ensures.unfaulted ∙ fed.took.unfaulted;
      front = tt;
      cause = tt;
      at_most = HasTaken-most fed.took taken (omega (arith, fed.within, taken.fits));
      told = told-whole c.args.progress (g.E.Sink.state c.args.err.now)
          (g.E.Sink.state c.pieces.err) fed.took
          (HasTaken-whole fed.took taken c.if-count-eq0.true)
          (told-now c.args.progress c.args.name.now _ _ _ _ c.pieces.invariant.count
          c.pieces.invariant.told);
      untold = tt;
    }

pub returns-in_err-feed : goal.returns-in_err-feed
returns-in_err-feed g c =
    let r = c.from_residual-in_err-feed.result in
    let p = err_from_is_err_and r c.from_residual-in_err-feed.ensures.1 in
    let fed = c.pieces.invariant.fed in
    let taken = c.in_ok-count.ensures.taken in
    let name = c.args.name.now in
    let host = g.H.Host.state c.args.host.now in
    let lines : Files → List ℕ = λ files. lines_of_file name (files name) in
    let F : Taken g.row.C.Denot → Type 0 =
    λ k. FeedsFront g.C.Consumer.step name host c.args.reader.now k in
    let L : List ℕ → Type 0 = λ l. 2 ^ 40 < c.pieces.reader.fed + length l in
    let long = HasFed-long fed c.take.ensures.reads_only taken
    (subst L c.front_of.ensures (c.in_err-feed.ensures.too_long.0 refl)) in
    let C : LogFault → Type 0 = λ fault. FeedCause name host
    (g.H.Host.state c.take.new.self) c.args.reader.now c.feed.new.self fault in
    let P : LogFault → Type 0 = λ fault. HasTold c.args.progress lines
    (g.H.Host.state c.args.host.now) (g.E.Sink.state c.args.err.now) (g.E.Sink.state c.pieces.err)
    false (is_untold fault) in
    record {
      reads_only = ReadsOnly-then fed.took.reads c.take.ensures.reads_only;
      whole = not-ok r p.0 _ p.1;
      unfaulted = not-ok r p.0 _ p.1;
      front = on-err r _ (subst F (sym c.in_err-feed.ensures.unchanged) (HasFed-front fed));
      cause = if-err r p.0 C p.1 (subst C (sym p.2)
          (long, c.in_ok-count.ensures.unfaulted ∙ fed.took.unfaulted));
      at_most = HasTaken-most fed.took taken (omega (arith, fed.within, taken.fits));
      told = not-ok r p.0 _ p.1;
      untold = if-err r p.0 P p.1 (subst P (sym p.2)
          (told-part c.args.progress (g.E.Sink.state c.args.err.now) (g.E.Sink.state c.pieces.err)
          fed.took (told-now c.args.progress name _ _ _ _ c.pieces.invariant.count
          c.pieces.invariant.told)));
    }

pub pieces-preserved : goal.pieces-preserved
pieces-preserved g c =
    let more = HasFed-step c.feed.new.self c.front_of.result.now c.pieces.invariant.fed
    c.take.ensures.reads_only c.in_ok-count.ensures.unfaulted c.in_ok-count.ensures.taken
    c.front_of.ensures c.in_ok-feed.ensures.fed
    (λ long. let passed = c.in_ok-feed.ensures.too_long.1 long in cc) in
    record {
      fed = more.0;
      count = c.in_ok-read.ensures.read
          ∙ ap (λ (k : ℕ). k + c.in_ok-count.count) c.pieces.invariant.count
          ∙ sym more.1;
      told = told-further c.args.progress c.args.name.now c.pieces.read c.in_ok-count.count
          c.in_ok-read.read (g.E.Sink.state c.args.err.now) (g.E.Sink.state c.pieces.err)
          (g.E.Sink.state c.tell_read.new.err) (omega (arith, c.in_ok-count.ensures.taken.fits))
          c.in_ok-read.ensures.read c.pieces.invariant.told c.in_ok-read.ensures.told;
    }

pub returns-in_err-read : goal.returns-in_err-read
returns-in_err-read g c =
    let r = c.from_residual-in_err-read.result in
    let p = err_from_is_err_and r c.from_residual-in_err-read.ensures.1 in
    let fed = c.pieces.invariant.fed in
    let taken = c.in_ok-count.ensures.taken in
    let name = c.args.name.now in
    let host = g.H.Host.state c.args.host.now in
    let more = HasFed-step c.feed.new.self c.front_of.result.now fed c.take.ensures.reads_only
    c.in_ok-count.ensures.unfaulted taken c.front_of.ensures c.in_ok-feed.ensures.fed
    (λ long. let passed = c.in_ok-feed.ensures.too_long.1 long in cc) in
    let lines : Files → List ℕ = λ files. lines_of_file name (files name) in
    let C : LogFault → Type 0 = λ fault. FeedCause name host
    (g.H.Host.state c.take.new.self) c.args.reader.now c.feed.new.self fault in
    let P : LogFault → Type 0 = λ fault. HasTold c.args.progress lines
    (g.H.Host.state c.args.host.now) (g.E.Sink.state c.args.err.now)
    (g.E.Sink.state c.tell_read.new.err) false (is_untold fault) in
    record {
      reads_only = ReadsOnly-then fed.took.reads c.take.ensures.reads_only;
      whole = not-ok r p.0 _ p.1;
      unfaulted = not-ok r p.0 _ p.1;
      front = on-err r _ (HasFed-front more.0);
      cause = if-err r p.0 C p.1 (subst C (sym p.2)
          (cause-lost _ _ _ _ _ _ _ _ _ c.in_err-read.field-0.0 c.in_err-read.ensures.lost
          (c.in_ok-count.ensures.unfaulted ∙ fed.took.unfaulted)));
      at_most = HasTaken-most fed.took taken (omega (arith, fed.within, taken.fits));
      told = not-ok r p.0 _ p.1;
      untold = if-err r p.0 P p.1 (subst P (sym p.2)
          (told-lost c.args.progress c.pieces.read c.in_ok-count.count
          (g.E.Sink.state c.args.err.now) (g.E.Sink.state c.pieces.err)
          (g.E.Sink.state c.tell_read.new.err) c.in_err-read.field-0.0 more.0.took
          (more.1 ∙ ap (λ (k : ℕ). k + c.in_ok-count.count) (sym c.pieces.invariant.count))
          (omega (arith, taken.fits)) c.pieces.invariant.told c.in_err-read.ensures.lost));
    }
