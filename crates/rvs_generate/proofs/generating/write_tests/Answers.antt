use Rattle.std.proofs.Common.{◌≡◌, ◌+◌, ◌++◌, ◌∷◌, ◌∙◌, ℕ, List, [], Ok, Err, drop}
use Rattle.std.proofs.Common.{flat_map, ap, sym, subst, append_assoc, append-nil}
use Rattle.std.proofs.lemmas.List.{drop_more, drop_all}
use Rattle.std.proofs.lemmas.Result.{err_from_is_err_and}
use Rattle.rvs_plan.specs.World.{world}
use Rattle.rvs_plan.specs.Plan.{gives}
use Rattle.rvs_plan.specs.Meets.{Meets}
use Rattle.rvs_plan.specs.declared.stop.Stop.TheVariants.{NoMemory}
use Rattle.rvs_plan.proofs.Sequence.{Meets-then, Meets-stop, Meets-gives, Meets-no_memory}
use Rattle.rvs_cgf.specs.Groups.{Label}
use Rattle.rvs_cgf.specs.GroupView.{label_view}
use Rattle.rvs_inputs.specs.GroupsView.{groups_view}
use Rattle.rvs_generate.specs.GenerateTexts.{Totals, label_text, with_labels, listing}
use Rattle.rvs_generate.specs.GenerateView.{totals_view}
use Rattle.rvs_generate.specs.Generate.{writes_tests, written_tests}
use Rattle.rvs_generate.proofs.Saying.{listed}
use Rattle.rvs_generate.proofs.generating.write_tests.Goals as goal

pub returns-in_err-write_test : goal.returns-in_err-write_test
returns-in_err-write_test g c = λ out.
    let p = err_from_is_err_and c.from_residual.result c.from_residual.ensures.1 in
    let stop = c.in_err-write_test.field-0.0 in
    let work = c.args.work.now in
    let isa = c.args.inputs.now.isa in
    let labels = c.as_slice-labels.result.now in
    let i = c.loop-label.label-index in
    let rest = groups_view (drop (i + 1) labels) in
    let first = world (g.H.Host.state c.args.host.now) out in
    let old = world (g.H.Host.state c.loop-label.host) out in
    let new = world (g.H.Host.state c.write_test.new.host) out in
    let here : groups_view (drop i labels) ≡ label_view c.label-item.result ∷ rest =
    ap groups_view (drop_more labels i _ c.loop-label-test.true)
    ∙ ap (λ l. label_view l ∷ rest) (sym c.label-item.is) in
    let stopped = subst (λ (ls : List Label). Meets (writes_tests work isa ls) old new (Err stop))
    (sym here) (Meets-stop (λ _. writes_tests work isa rest) (c.in_err-write_test.ensures.met out))
    in
    let all = c.loop-label.invariant.met out new (Err stop) stopped in
    rw (p.1, p.2) (subst (λ (ls : List Label). Meets (written_tests work isa ls) first new
    (Err stop)) (ap groups_view c.as_slice-labels.ensures)
    (Meets-stop (λ _. gives (listing isa (groups_view labels))) all))

pub loop-label-preserved : goal.loop-label-preserved
loop-label-preserved g c =
    let i = c.loop-label.label-index in
    let isa = c.args.inputs.now.isa in
    let labels = c.as_slice-labels.result.now in
    let rest = groups_view (drop (i + 1) labels) in
    let said = c.loop-label.said in
    let here : groups_view (drop i labels) ≡ label_view c.label-item.result ∷ rest =
    ap groups_view (drop_more labels i _ c.loop-label-test.true)
    ∙ ap (λ l. label_view l ∷ rest) (sym c.label-item.is) in
    record {
      met = λ out new result later. c.loop-label.invariant.met out new result
          (subst (λ (ls : List Label). Meets (writes_tests c.args.work.now isa ls)
          (world (g.H.Host.state c.loop-label.host) out) new result) (sym here)
          (Meets-then (λ _. writes_tests c.args.work.now isa rest)
          (c.in_ok-write_test.ensures.met out) later));
      text = ap (λ t. t ++ flat_map (label_text isa) rest) c.in_ok-write_test.ensures.text
          ∙ append_assoc said.text (label_text isa (label_view c.label-item.result))
          (flat_map (label_text isa) rest)
          ∙ ap (λ ls. said.text ++ flat_map (label_text isa) ls) (sym here)
          ∙ c.loop-label.invariant.text;
      totals = ap (λ (t : Totals). with_labels isa t rest) c.in_ok-write_test.ensures.totals
          ∙ ap (λ ls. with_labels isa (totals_view said.totals) ls) (sym here)
          ∙ c.loop-label.invariant.totals;
    }

pub returns-in_err-push_total : goal.returns-in_err-push_total
returns-in_err-push_total g c = λ out.
    let p = err_from_is_err_and c.from_residual-in_err-push_total.result
    c.from_residual-in_err-push_total.ensures.1 in
    let work = c.args.work.now in
    let isa = c.args.inputs.now.isa in
    let labels = c.as_slice-labels.result.now in
    let first = world (g.H.Host.state c.args.host.now) out in
    let w = world (g.H.Host.state c.loop-label.host) out in
    let over : groups_view (drop c.loop-label.label-index labels) ≡ [] = ap groups_view
    (drop_all c.loop-label.label-index labels c.loop-label-test.false) in
    let written = c.loop-label.invariant.met out w (Ok tt) (subst (λ (ls : List Label).
    Meets (writes_tests work isa ls) w w (Ok tt)) (sym over) (Meets-gives tt w)) in
    let said = gives (listing isa (groups_view labels)) in
    rw (p.1, p.2) (subst (λ (ls : List Label). Meets (written_tests work isa ls) first w
    (Err NoMemory)) (ap groups_view c.as_slice-labels.ensures)
    (Meets-then (λ _. said) written (Meets-no_memory said w)))

pub returns : goal.returns
returns g c = λ out.
    let work = c.args.work.now in
    let isa = c.args.inputs.now.isa in
    let labels = c.as_slice-labels.result.now in
    let said = c.loop-label.said in
    let first = world (g.H.Host.state c.args.host.now) out in
    let w = world (g.H.Host.state c.loop-label.host) out in
    let over : groups_view (drop c.loop-label.label-index labels) ≡ [] = ap groups_view
    (drop_all c.loop-label.label-index labels c.loop-label-test.false) in
    let written = c.loop-label.invariant.met out w (Ok tt) (subst (λ (ls : List Label).
    Meets (writes_tests work isa ls) w w (Ok tt)) (sym over) (Meets-gives tt w)) in
    let lines = sym (append-nil said.text)
    ∙ ap (λ ls. said.text ++ flat_map (label_text isa) ls) (sym over)
    ∙ c.loop-label.invariant.text in
    let counted = ap (λ ls. with_labels isa (totals_view said.totals) ls) (sym over)
    ∙ c.loop-label.invariant.totals in
    let text : c.push_total.new.text ≡ listing isa (groups_view labels) =
    c.in_ok-push_total.ensures
    ∙ listed isa (groups_view labels) said.text (totals_view said.totals) lines counted in
    subst (λ (ls : List Label). Meets (written_tests work isa ls) first w
    (Ok c.push_total.new.text)) (ap groups_view c.as_slice-labels.ensures)
    (subst (λ (t : List ℕ). Meets (written_tests work isa (groups_view labels)) first w (Ok t))
    (sym text) (Meets-then (λ _. gives (listing isa (groups_view labels))) written
    (Meets-gives (listing isa (groups_view labels)) w)))
