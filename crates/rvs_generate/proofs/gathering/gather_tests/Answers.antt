use Rattle.std.proofs.Common.{◌≡◌, ◌+◌, ◌++◌, ◌∷◌, ◌∙◌, List, [], drop, flat_map, ap, sym}
use Rattle.std.proofs.Common.{append_assoc, append-nil}
use Rattle.std.proofs.lemmas.List.{drop_more, drop_all, map-append}
use Rattle.rvs_cgf.specs.Groups.{Label}
use Rattle.rvs_cgf.specs.GroupView.{label_view}
use Rattle.rvs_inputs.specs.GroupsView.{groups_view}
use Rattle.rvs_generate.specs.GenerateTexts.{Totals, label_text, with_labels, listing}
use Rattle.rvs_generate.specs.GenerateView.{totals_view}
use Rattle.rvs_generate.specs.Tests.{held, tests_of_label, tests_of}
use Rattle.rvs_generate.specs.declared.gathering.Test.{Test}
use Rattle.rvs_generate.specs.declared.sources.Source.{Source}
use Rattle.rvs_generate.specs.declared.sources.Source.TheVariants.{Held}
use Rattle.rvs_generate.proofs.Saying.{listed}
use Rattle.rvs_generate.proofs.gathering.gather_tests.Goals as goal

pub loop-label-preserved : goal.loop-label-preserved
loop-label-preserved c =
    let i = c.loop-label.label-index in
    let isa = c.args.inputs.now.isa in
    let labels = c.as_slice-labels.result.now in
    let rest = groups_view (drop (i + 1) labels) in
    let said = c.loop-label.said in
    let label = label_view c.label-item.result in
    let here : groups_view (drop i labels) ≡ label ∷ rest =
    ap groups_view (drop_more labels i _ c.loop-label-test.true)
    ∙ ap (λ l. label_view l ∷ rest) (sym c.label-item.is) in
    record {
      text = ap (λ t. t ++ flat_map (label_text isa) rest) c.in_ok-gather_label.ensures.text
          ∙ append_assoc said.text (label_text isa label) (flat_map (label_text isa) rest)
          ∙ ap (λ ls. said.text ++ flat_map (label_text isa) ls) (sym here)
          ∙ c.loop-label.invariant.text;
      totals = ap (λ (t : Totals). with_labels isa t rest) c.in_ok-gather_label.ensures.totals
          ∙ ap (λ ls. with_labels isa (totals_view said.totals) ls) (sym here)
          ∙ c.loop-label.invariant.totals;
      tests = ap (λ (ts : List Source). ts ++ held (tests_of isa rest))
          c.in_ok-gather_label.ensures.tests
          ∙ append_assoc c.loop-label.tests (held (tests_of_label isa label))
          (held (tests_of isa rest))
          ∙ ap (λ (ss : List Source). c.loop-label.tests ++ ss)
          (sym (map-append (λ (t : Test). Held t) (tests_of_label isa label) (tests_of isa rest)))
          ∙ ap (λ (ls : List Label). c.loop-label.tests ++ held (tests_of isa ls)) (sym here)
          ∙ c.loop-label.invariant.tests;
    }

pub returns-clause-text : goal.returns-clause-text
returns-clause-text c =
    let isa = c.args.inputs.now.isa in
    let labels = c.as_slice-labels.result.now in
    let said = c.loop-label.said in
    let over : groups_view (drop c.loop-label.label-index labels) ≡ [] = ap groups_view
    (drop_all c.loop-label.label-index labels c.loop-label-test.false) in
    let lines = sym (append-nil said.text)
    ∙ ap (λ ls. said.text ++ flat_map (label_text isa) ls) (sym over)
    ∙ c.loop-label.invariant.text in
    let counted = ap (λ ls. with_labels isa (totals_view said.totals) ls) (sym over)
    ∙ c.loop-label.invariant.totals in
    c.in_ok-push_total.ensures
    ∙ listed isa (groups_view labels) said.text (totals_view said.totals) lines counted
    ∙ ap (λ ls. listing isa (groups_view ls)) c.as_slice-labels.ensures

pub returns-clause-tests : goal.returns-clause-tests
returns-clause-tests c =
    let isa = c.args.inputs.now.isa in
    let labels = c.as_slice-labels.result.now in
    let over : groups_view (drop c.loop-label.label-index labels) ≡ [] = ap groups_view
    (drop_all c.loop-label.label-index labels c.loop-label-test.false) in
    sym (append-nil c.loop-label.tests)
    ∙ ap (λ (ls : List Label). c.loop-label.tests ++ held (tests_of isa ls)) (sym over)
    ∙ c.loop-label.invariant.tests
    ∙ ap (λ ls. held (tests_of isa (groups_view ls))) c.as_slice-labels.ensures
