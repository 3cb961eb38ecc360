use Rattle.std.proofs.Common.{◌≡◌, ◌+◌, ◌++◌, ◌∷◌, ◌∙◌, ℕ, Bool, true, false, List, [], suc, drop}
use Rattle.std.proofs.Common.{refl, ap, sym, append_assoc, append-nil, add-one}
use Rattle.std.proofs.lemmas.List.{drop_more, drop_all}
use Rattle.rvs_select.specs.declared.database.Entry.{Entry}
use Rattle.rvs_run.specs.RunDatabase.{chosen, chosen_if, chosen_one}
use Rattle.rvs_generate.specs.Tests.{to_read}
use Rattle.rvs_generate.specs.declared.sources.Given.{Given}
use Rattle.rvs_generate.specs.declared.sources.Source.{Source}
use Rattle.rvs_run.proofs.run_database.choose.Goals as goal

split : (b : Bool) (given : Given) (rest : List Given)
    → to_read (chosen_if b given []) ++ to_read rest ≡ to_read (chosen_if b given rest)
split true given rest = refl
split false given rest = refl

first : (place i : ℕ) (entry : Entry) (rest : List Entry) → place ≡ i
    → to_read (chosen_one place entry) ++ to_read (chosen (i + 1) rest)
    ≡ to_read (chosen i (entry ∷ rest))
first place i entry rest at =
    (λ k. to_read (chosen_one (at k) entry) ++ to_read (chosen (add-one i k) rest))
    ∙ split entry.selected (record { place = i; name = entry.name }) (chosen (suc i) rest)

pub loop-entry-preserved : goal.loop-entry-preserved
loop-entry-preserved c =
    let i = c.loop-entry.entry-index in
    let entry = c.entry-item.result in
    let place = c.loop-entry.place in
    let rest = drop (i + 1) c.args.entries.now in
    let before = c.loop-entry.sources in
    let at = c.loop-entry.invariant.place in
    let here : drop i c.args.entries.now ≡ entry ∷ rest =
    drop_more c.args.entries.now i _ c.loop-entry-test.true
    ∙ ap (λ (e : Entry). e ∷ rest) (sym c.entry-item.is) in
    record {
      chosen = ap (λ (ss : List Source). ss ++ to_read (chosen (i + 1) rest))
          c.in_ok-choose_one.ensures
          ∙ append_assoc before (to_read (chosen_one place entry)) (to_read (chosen (i + 1) rest))
          ∙ ap (λ (ss : List Source). before ++ ss) (first place i entry rest at)
          ∙ ap (λ (es : List Entry). before ++ to_read (chosen i es)) (sym here)
          ∙ c.loop-entry.invariant.chosen;
      place = ap (λ (n : ℕ). n + 1) at;
    }

pub returns : goal.returns
returns c =
    let i = c.loop-entry.entry-index in
    let over : drop i c.args.entries.now ≡ [] =
    drop_all i c.args.entries.now c.loop-entry-test.false in
    sym (append-nil c.loop-entry.sources)
    ∙ ap (λ (es : List Entry). c.loop-entry.sources ++ to_read (chosen i es)) (sym over)
    ∙ c.loop-entry.invariant.chosen
