use Rattle.std.proofs.Common.{◌≡◌, ◌≤◌, ◌+◌, ℕ, false, true, List, Option, All, sym, ap, subst}
use Rattle.std.proofs.Common.{◌∙◌, arith}
use Rattle.std.proofs.Common.{length}
use Rattle.rvs_log.specs.Entries.{entry_at}
use Rattle.rvs_insn.specs.Fields.{Fields}
use Rattle.rvs_points.specs.declared.group.Label.{Label}
use Rattle.rvs_index.specs.Counting.{aims_in, decoded, is_in}
use Rattle.rvs_index.specs.Runs.{run_with}
use Rattle.rvs_count.specs.Sound.{tallied}
use Rattle.rvs_index.specs.State.{Tallied, added, any_cross, counts_with, ends_run, followed}
use Rattle.rvs_index.specs.State.{with_entry}
use Rattle.rvs_index.proofs.Crossing.{aims_sized}
use Rattle.rvs_index.proofs.Following.{followed_all, followed_nil, followed_none}
use Rattle.rvs_index.proofs.Hitting.{added_length, added_low, both_counted, entry_counted, none_hit}
use Rattle.rvs_index.proofs.Hitting.{one_counted}
use Rattle.rvs_count.proofs.tally.Tally.count.Goals as goal
use Rattle.rvs_count.proofs.tally.Tally.count.Given.{Over}
use Rattle.rvs_count.proofs.tally.Tally.count.Goals.{After-add_run, Else-is_any}

pub add_run-requires-clause-count : goal.add_run-requires-clause-count
add_run-requires-clause-count g c =
    ap (λ l. length l) c.add_insn.ensures
    ∙ added_length _ (aims_in c.self.inside.index) c.self.inside.counts.items c.self.invariant.count
    ∙ sym (ap (λ (ls : List Label). length (aims_in ls)) c.self.invariant.crosses)

pub add_run-requires-clause-low : goal.add_run-requires-clause-low
add_run-requires-clause-low g c =
    let P : List ℕ → Type 0 = λ l. All (λ (n : ℕ). n ≤ c.self.inside.instructions + 1) l in
    let low : P c.add_insn.new.counts.items =
    subst P (sym c.add_insn.ensures) (added_low _ (aims_in c.self.inside.index)
    c.self.inside.counts.items c.self.inside.instructions c.self.invariant.low) in
    let same = ap (λ (t : Tallied). t.instructions) c.self.view_is in
    λ k d l. omega (arith, low k d l, c.requires.low, same)

-- what both passes add
counted : (g : Over) (c : After-add_run g)
    → c.add_run.new.counts.items
    ≡ counts_with (aims_in c.self.inside.index)
    (run_with c.self.inside.run
    (decoded (entry_at c.self.inside.registers c.args.entry.now.pc c.args.entry.now.word)))
    (entry_at c.self.inside.registers c.args.entry.now.pc c.args.entry.now.word)
    c.self.inside.counts.items
counted g c =
    both_counted c.self.inside.index c.self.inside.crosses c.self.inside.run c.push.new.self
    c.self.inside.counts.items c.add_insn.new.counts.items c.add_run.new.counts.items
    c.self.inside.registers
    c.args.entry.now.pc c.args.entry.now.word c.in-Some.insn c.self.invariant.crosses
    (sym c.requires.decoded ∙ c.in-Some.is) c.push.ensures c.add_insn.ensures
    (c.add_run.ensures
    ∙ ap (λ (run : List Fields). added (λ a. ends_run a.point.meaning run)
    (aims_in c.self.inside.crosses) c.add_insn.new.counts.items)
    c.as_slice-then-is_any.ensures.items)

-- a label has a cross point
is_any : (g : Over) (c : After-add_run g) → any_cross (aims_in c.self.inside.index) ≡ true
is_any g c =
    sym (c.is_any.ensures
    ∙ ap (λ (ls : List Label). any_cross (aims_in ls)) c.self.invariant.crosses)
    ∙ c.if-is_any.true

-- none has
is_none : (g : Over) (c : Else-is_any g) → any_cross (aims_in c.self.inside.index) ≡ false
is_none g c =
    sym (c.is_any.ensures
    ∙ ap (λ (ls : List Label). any_cross (aims_in ls)) c.self.invariant.crosses)
    ∙ c.if-is_any.false

-- what the first pass adds is all
counted_once : (g : Over) (c : Else-is_any g)
    → c.add_insn.new.counts.items
    ≡ counts_with (aims_in c.self.inside.index)
    (run_with c.self.inside.run
    (decoded (entry_at c.self.inside.registers c.args.entry.now.pc c.args.entry.now.word)))
    (entry_at c.self.inside.registers c.args.entry.now.pc c.args.entry.now.word)
    c.self.inside.counts.items
counted_once g c =
    one_counted c.self.inside.index c.self.inside.run c.self.inside.counts.items
    c.add_insn.new.counts.items c.self.inside.registers c.args.entry.now.pc c.args.entry.now.word
    c.in-Some.insn (is_none g c) (sym c.requires.decoded ∙ c.in-Some.is)
    (ap (λ l. length l) c.add_insn.ensures
    ∙ added_length _ (aims_in c.self.inside.index) c.self.inside.counts.items
    c.self.invariant.count) c.add_insn.ensures

pub invariant_of-self-then-is_any : goal.invariant_of-self-then-is_any
invariant_of-self-then-is_any g c =
    let P : List ℕ → Type 0 = λ l. All (λ (n : ℕ). n ≤ c.self.inside.instructions + 1) l in
    record {
      crosses = c.self.invariant.crosses;
      count = ap (λ l. length l) (counted g c)
          ∙ added_length _ (aims_in c.self.inside.index) c.self.inside.counts.items
          c.self.invariant.count;
      low =
          subst P (sym (counted g c)) (added_low _ (aims_in c.self.inside.index)
          c.self.inside.counts.items c.self.inside.instructions c.self.invariant.low);
      follows = sym (followed_all c.self.inside.index c.push.new.self (is_any g c));
    }

pub invariant_of-self-else-is_any : goal.invariant_of-self-else-is_any
invariant_of-self-else-is_any g c =
    let P : List ℕ → Type 0 = λ l. All (λ (n : ℕ). n ≤ c.self.inside.instructions + 1) l in
    record {
      crosses = c.self.invariant.crosses;
      count = ap (λ l. length l) c.add_insn.ensures
          ∙ added_length _ (aims_in c.self.inside.index) c.self.inside.counts.items
          c.self.invariant.count;
      low =
          subst P (sym c.add_insn.ensures) (added_low _ (aims_in c.self.inside.index)
          c.self.inside.counts.items c.self.inside.instructions c.self.invariant.low);
      follows = c.self.invariant.follows;
    }

pub returns-then-is_any : goal.returns-then-is_any
returns-then-is_any g c =
    let pc = c.args.entry.now.pc in
    let word = c.args.entry.now.word in
    let b : is_in c.self.inside.windows pc ≡ true =
    sym (c.leaves.ensures ∙ ap (λ ws. is_in ws pc) c.as_slice.ensures)
    ∙ c.if-leaves.true in
    let run = run_with c.self.inside.run (decoded (entry_at c.self.inside.registers pc word)) in
    let r : c.push.new.self ≡ followed c.self.inside.index run =
    c.push.ensures
    ∙ ap (λ (o : Option Fields). run_with c.self.inside.run o)
    (sym (sym c.requires.decoded ∙ c.in-Some.is))
    ∙ sym (followed_all c.self.inside.index run (is_any g c)) in
    let P : Tallied
    → Type 0 =
    λ t. record {
      labels = c.self.inside.index;
      windows = c.self.inside.windows;
      counts = c.add_run.new.counts.items;
      instructions = c.self.inside.instructions + 1;
      run = c.push.new.self;
      heard = record { words = c.self.inside.registers; started = c.self.inside.started };
    }
    ≡ with_entry t (is_in t.windows pc) (entry_at t.heard.words pc word) in
    subst P c.self.view_is (entry_counted (tallied c.self.inside) (is_in c.self.inside.windows pc)
    (entry_at c.self.inside.registers pc word) c.add_run.new.counts.items c.push.new.self b
    r (counted g c))

pub returns-else-is_any : goal.returns-else-is_any
returns-else-is_any g c =
    let pc = c.args.entry.now.pc in
    let word = c.args.entry.now.word in
    let index = c.self.inside.index in
    let b : is_in c.self.inside.windows pc ≡ true =
    sym (c.leaves.ensures ∙ ap (λ ws. is_in ws pc) c.as_slice.ensures)
    ∙ c.if-leaves.true in
    let run = run_with c.self.inside.run (decoded (entry_at c.self.inside.registers pc word)) in
    let r : c.self.inside.run ≡ followed index run =
    c.self.invariant.follows ∙ followed_none index c.self.inside.run (is_none g c)
    ∙ sym (followed_none index run (is_none g c)) in
    let P : Tallied
    → Type 0 =
    λ t. record {
      labels = index;
      windows = c.self.inside.windows;
      counts = c.add_insn.new.counts.items;
      instructions = c.self.inside.instructions + 1;
      run = c.self.inside.run;
      heard = record { words = c.self.inside.registers; started = c.self.inside.started };
    }
    ≡ with_entry t (is_in t.windows pc) (entry_at t.heard.words pc word) in
    subst P c.self.view_is (entry_counted (tallied c.self.inside) (is_in c.self.inside.windows pc)
    (entry_at c.self.inside.registers pc word) c.add_insn.new.counts.items c.self.inside.run b r
    (counted_once g c))

pub returns-in-None : goal.returns-in-None
returns-in-None g c =
    let pc = c.args.entry.now.pc in
    let word = c.args.entry.now.word in
    let b : is_in c.self.inside.windows pc ≡ true =
    sym (c.leaves.ensures ∙ ap (λ ws. is_in ws pc) c.as_slice.ensures)
    ∙ c.if-leaves.true in
    let s = sym c.requires.decoded ∙ c.in-None.is in
    let r : c.clear.new.self
    ≡ followed c.self.inside.index
    (run_with c.self.inside.run (decoded (entry_at c.self.inside.registers pc word))) =
    c.clear.ensures ∙ sym (followed_nil c.self.inside.index)
    ∙ ap (λ (o : Option Fields). followed c.self.inside.index (run_with c.self.inside.run o))
    (sym s) in
    let e : c.self.inside.counts.items
    ≡ counts_with (aims_in c.self.inside.index)
    (run_with c.self.inside.run (decoded (entry_at c.self.inside.registers pc word)))
    (entry_at c.self.inside.registers pc word) c.self.inside.counts.items =
    none_hit (aims_in c.self.inside.index) c.self.inside.run c.self.inside.counts.items
    c.self.inside.registers pc word (aims_sized c.self.inside.index) s in
    let P : Tallied
    → Type 0 =
    λ t. record {
      labels = c.self.inside.index;
      windows = c.self.inside.windows;
      counts = c.self.inside.counts.items;
      instructions = c.self.inside.instructions + 1;
      run = c.clear.new.self;
      heard = record { words = c.self.inside.registers; started = c.self.inside.started };
    }
    ≡ with_entry t (is_in t.windows pc) (entry_at t.heard.words pc word) in
    subst P c.self.view_is (entry_counted (tallied c.self.inside) (is_in c.self.inside.windows pc)
    (entry_at c.self.inside.registers pc word) c.self.inside.counts.items c.clear.new.self b r
    e)
