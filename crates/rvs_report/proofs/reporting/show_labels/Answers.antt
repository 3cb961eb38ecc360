use Rattle.std.proofs.Common.{◌≡◌, ◌+◌, ◌∷◌, ◌++◌, ◌∙◌, List, [], ℕ, Result, Ok, Err, take, drop}
use Rattle.std.proofs.Common.{ap, sym, subst}
use Rattle.std.proofs.lemmas.List.{drop_more, drop_all}
use Rattle.std.proofs.lemmas.Result.{err_from_is_err_and}
use Rattle.rvs_plan.specs.World.{World, world, IsAnswer}
use Rattle.rvs_plan.specs.Plan.{Plan}
use Rattle.rvs_plan.specs.Meets.{MeetsWith}
use Rattle.rvs_plan.specs.declared.stop.Stop.{Stop}
use Rattle.rvs_plan.specs.declared.stop.Stop.TheVariants.{NoMemory}
use Rattle.rvs_plan.proofs.Sequence.{Meets-then, Meets-stop, Meets-gives, Meets-no_memory}
use Rattle.rvs_insn.specs.Isa.{Isa}
use Rattle.rvs_cgf.specs.Groups.{Label}
use Rattle.rvs_cgf.specs.GroupView.{label_view}
use Rattle.rvs_count.specs.Report.{width}
use Rattle.rvs_page.specs.declared.shown.Label.{Label as ShownLabel}
use Rattle.rvs_inputs.specs.GroupsView.{groups_view}
use Rattle.rvs_report.specs.Report.{shows_label, shows_labels}
use Rattle.rvs_report.proofs.reporting.show_labels.Goals as goal

-- what follows when a label is shown
abbrev next : Isa → List ℕ → List ShownLabel → List ℕ → Label → List Label → ShownLabel
    → Plan (List ShownLabel)
next isa work shown counts l ls one =
    shows_labels isa work (shown ++ one ∷ []) (drop (width l) counts) ls

-- by the counts of the label, as they are cut off
own_counts : (isa : Isa) (work counts own : List ℕ) (l : Label) (count : ℕ) (old new : World)
    (result : Result ShownLabel Stop) → own ≡ take count counts → count ≡ width l
    → MeetsWith IsAnswer (shows_label isa work own l) old new result
    → MeetsWith IsAnswer (shows_label isa work (take (width l) counts) l) old new result
own_counts isa work counts own l count old new result cut is met =
    subst (λ (ns : List ℕ). MeetsWith IsAnswer (shows_label isa work ns l) old new result)
    (cut ∙ ap (λ n. take n counts) is) met

pub returns-in_err-one : goal.returns-in_err-one
returns-in_err-one g c = λ out.
    let p = err_from_is_err_and c.from_residual.result c.from_residual.ensures.1 in
    let isa = c.args.isa in
    let work = c.args.work.now in
    let i = c.loop-label.label-index in
    let l = label_view c.label-item.result in
    let ls = groups_view (drop (i + 1) c.args.labels.now) in
    let shown = c.loop-label.shown in
    let counts = c.loop-label.rest.now in
    let old = world (g.H.Host.state c.loop-label.host) out in
    let new = world (g.H.Host.state c.show_label.new.host) out in
    let stop = c.in_err-one.field-0.0 in
    let here : groups_view (drop i c.args.labels.now) ≡ l ∷ ls =
    ap groups_view (drop_more c.args.labels.now i _ c.loop-label-test.true)
    ∙ ap (λ x. label_view x ∷ ls) (sym c.label-item.is) in
    let met = own_counts isa work counts c.cut.result.0.now l c.width.result old new (Err stop)
    c.cut.ensures.own c.width.ensures (c.in_err-one.ensures out) in
    rw (p.1, p.2) (c.loop-label.invariant.met out new (Err stop) (subst
    (λ (xs : List Label). MeetsWith IsAnswer (shows_labels isa work shown counts xs) old new
    (Err stop)) (sym here) (Meets-stop (next isa work shown counts l ls) met)))

pub returns-in_err-push : goal.returns-in_err-push
returns-in_err-push g c = λ out.
    let p = err_from_is_err_and c.from_residual-in_err-push.result
    c.from_residual-in_err-push.ensures.1 in
    let isa = c.args.isa in
    let work = c.args.work.now in
    let i = c.loop-label.label-index in
    let l = label_view c.label-item.result in
    let ls = groups_view (drop (i + 1) c.args.labels.now) in
    let shown = c.loop-label.shown in
    let counts = c.loop-label.rest.now in
    let one = c.in_ok-one.one in
    let old = world (g.H.Host.state c.loop-label.host) out in
    let new = world (g.H.Host.state c.show_label.new.host) out in
    let here : groups_view (drop i c.args.labels.now) ≡ l ∷ ls =
    ap groups_view (drop_more c.args.labels.now i _ c.loop-label-test.true)
    ∙ ap (λ x. label_view x ∷ ls) (sym c.label-item.is) in
    let met = own_counts isa work counts c.cut.result.0.now l c.width.result old new (Ok one)
    c.cut.ensures.own c.width.ensures (c.in_ok-one.ensures out) in
    rw (p.1, p.2) (c.loop-label.invariant.met out new (Err NoMemory) (subst
    (λ (xs : List Label). MeetsWith IsAnswer (shows_labels isa work shown counts xs) old new
    (Err NoMemory)) (sym here)
    (Meets-then (next isa work shown counts l ls) met
    (Meets-no_memory (next isa work shown counts l ls one) new))))

pub loop-label-preserved : goal.loop-label-preserved
loop-label-preserved g c =
    let isa = c.args.isa in
    let work = c.args.work.now in
    let i = c.loop-label.label-index in
    let l = label_view c.label-item.result in
    let ls = groups_view (drop (i + 1) c.args.labels.now) in
    let shown = c.loop-label.shown in
    let counts = c.loop-label.rest.now in
    let one = c.in_ok-one.one in
    let here : groups_view (drop i c.args.labels.now) ≡ l ∷ ls =
    ap groups_view (drop_more c.args.labels.now i _ c.loop-label-test.true)
    ∙ ap (λ x. label_view x ∷ ls) (sym c.label-item.is) in
    let others : c.cut.result.1.now ≡ drop (width l) counts =
    c.cut.ensures.others ∙ ap (λ n. drop n counts) c.width.ensures in
    record {
      met = λ out new result later.
          let old = world (g.H.Host.state c.loop-label.host) out in
          let mid = world (g.H.Host.state c.show_label.new.host) out in
          let met = own_counts isa work counts c.cut.result.0.now l c.width.result old mid (Ok one)
          c.cut.ensures.own c.width.ensures (c.in_ok-one.ensures out) in
          let after = subst (λ (ns : List ℕ). MeetsWith IsAnswer
          (shows_labels isa work (shown ++ one ∷ []) ns ls) mid new result) others
          (subst (λ (xs : List ShownLabel). MeetsWith IsAnswer
          (shows_labels isa work xs c.cut.result.1.now ls) mid new result)
          c.in_ok-push.ensures.added later) in
          c.loop-label.invariant.met out new result (subst
          (λ (xs : List Label). MeetsWith IsAnswer (shows_labels isa work shown counts xs) old new
          result) (sym here) (Meets-then (next isa work shown counts l ls) met after));
    }

pub returns : goal.returns
returns g c = λ out.
    let w = world (g.H.Host.state c.loop-label.host) out in
    let shown = c.loop-label.shown in
    let over : groups_view (drop c.loop-label.label-index c.args.labels.now) ≡ [] = ap groups_view
    (drop_all c.loop-label.label-index c.args.labels.now c.loop-label-test.false) in
    c.loop-label.invariant.met out w (Ok shown) (subst
    (λ (xs : List Label). MeetsWith IsAnswer (shows_labels c.args.isa c.args.work.now shown
    c.loop-label.rest.now xs) w w (Ok shown)) (sym over) (Meets-gives shown w))
