use Rattle.std.proofs.Common.{◌≡◌, ◌&&◌, ◌+◌, ◌∷◌, ◌∙◌, ℕ, Bool, true, false, List, Some, cond}
use Rattle.std.proofs.Common.{drop, ap, sym}
use Rattle.std.specs.Prelude.{find, not, option_map}
use Rattle.std.proofs.lemmas.List.{drop_more}
use Rattle.rvs_insn.specs.Isa.{Isa}
use Rattle.rvs_cgf.specs.Groups.{Label}
use Rattle.rvs_cgf.specs.GroupView.{label_view}
use Rattle.rvs_test.specs.Made.{has_room}
use Rattle.rvs_generate.specs.TestedInputs.{lacks_room, no_room}
use Rattle.rvs_inputs.specs.GroupsView.{groups_view}
use Rattle.rvs_generate.proofs.rooms.find_lacking.Goals.{else-label-via-else-label}
use Rattle.rvs_generate.proofs.rooms.find_lacking.Goals.{else-label-via-then-label+in_ok-has_room+else-not-branch}
use Rattle.rvs_generate.proofs.rooms.find_lacking.Goals as goal

unselected : (isa : Isa) (l : Label) → l.selected ≡ false → lacks_room isa l ≡ false
unfolding lacks_room
unselected isa l selected = λ i. selected i && not (has_room isa l)

selected-with : (isa : Isa) (l : Label) (room b : Bool) → l.selected ≡ true
    → room ≡ has_room isa l → room ≡ b → lacks_room isa l ≡ not b
unfolding lacks_room
selected-with isa l room b selected is has = λ i. selected i && not ((sym is ∙ has) i)

pub returns-then-not-branch : goal.returns-then-not-branch
returns-then-not-branch g c =
    let i = c.loop-label.label-index in
    let isa = c.args.isa.now in
    let rest = groups_view (drop (i + 1) c.args.labels.now) in
    let l = label_view c.label-item.result in
    let here : groups_view (drop i c.args.labels.now) ≡ l ∷ rest =
    ap groups_view (drop_more c.args.labels.now i _ c.loop-label-test.true)
    ∙ ap (λ x. label_view x ∷ rest) (sym c.label-item.is) in
    let lacks = selected-with isa l c.in_ok-has_room.field-0 false c.if-label.true
    c.in_ok-has_room.ensures.room c.if-not-branch.true in
    ap (λ (text : List ℕ). Some text) c.in_ok-no_room.ensures
    ∙ ap (option_map no_room) (sym (sym c.loop-label.invariant.first
    ∙ ap (find (lacks_room isa)) here
    ∙ ap (λ (b : Bool). cond b (Some l) (find (lacks_room isa) rest)) lacks))

pub loop-label-preserved : goal.loop-label-preserved
loop-label-preserved g c =
    let i = c.loop-label.label-index in
    let isa = c.args.isa.now in
    let rest = groups_view (drop (i + 1) c.args.labels.now) in
    let l = label_view c.label-item.result in
    let here : groups_view (drop i c.args.labels.now) ≡ l ∷ rest =
    ap groups_view (drop_more c.args.labels.now i _ c.loop-label-test.true)
    ∙ ap (λ x. label_view x ∷ rest) (sym c.label-item.is) in
    let has : lacks_room isa l ≡ false = elim c.else-label.branch [
      | else-label-via-then-label+in_ok-has_room+else-not-branch w ↦
          selected-with isa l w.in_ok-has_room.field-0 true w.if-label.true
          w.in_ok-has_room.ensures.room w.if-not-branch.false
      | else-label-via-else-label w ↦ unselected isa l w.if-label.false
    ] in
    record {
      first = sym (ap (find (lacks_room isa)) here
          ∙ ap (λ (b : Bool). cond b (Some l) (find (lacks_room isa) rest)) has)
          ∙ c.loop-label.invariant.first;
    }
