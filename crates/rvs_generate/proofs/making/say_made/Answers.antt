use Rattle.std.proofs.Common.{◌≡◌, ◌++◌, ◌∙◌, List, ℕ, ap, sym, subst}
use Rattle.rvs_insn.specs.Isa.{Isa}
use Rattle.rvs_cgf.specs.Groups.{Label}
use Rattle.rvs_cgf.specs.GroupView.{label_view}
use Rattle.rvs_test.specs.declared.made.Made.{Made}
use Rattle.rvs_generate.specs.GenerateTexts.{Totals, made_text, selected_text, with_made}
use Rattle.rvs_generate.specs.GenerateTexts.{with_selected}
use Rattle.rvs_generate.specs.GenerateView.{IsMade}
use Rattle.rvs_generate.proofs.making.say_made.Goals as goal

text_is : (isa : Isa) (l : Label) (m : Made) → IsMade isa l m
    → made_text l m.claims m.text m.steps ≡ selected_text isa l
text_is isa l m is = λ i. made_text l (is.claims i) (is.text i) (is.steps i)

totals_are : (isa : Isa) (l : Label) (m : Made) (t : Totals) → IsMade isa l m
    → with_made t l m.claims m.unsolved m.text ≡ with_selected isa t l
totals_are isa l m t is = λ i. with_made t l (is.claims i) (is.unsolved i) (is.text i)

pub returns-clause-text : goal.returns-clause-text
returns-clause-text c =
    let pushed = rw c.in_ok-made-2.ensures.both.0 at c.push_made.ensures in
    pushed ∙ ap (λ (t : List ℕ). c.args.said.now.text ++ t)
    (text_is c.args.isa.now (label_view c.args.label.now) c.in_ok-made.made c.in_ok-made.ensures)

pub returns-clause-totals : goal.returns-clause-totals
returns-clause-totals c =
    let isa = c.args.isa.now in
    let l = label_view c.args.label.now in
    c.add.ensures ∙ totals_are isa l c.in_ok-made-2.made _ (subst (λ (m : Made). IsMade isa l m)
    (sym c.in_ok-made-2.ensures.both.1) c.in_ok-made.ensures)
