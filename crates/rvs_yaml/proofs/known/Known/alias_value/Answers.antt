use Rattle.std.proofs.Common.{◌≡◌, ◌∙◌, sym, ap, subst, Ok}
use Rattle.std.specs.Prelude.{IfOk}
use Rattle.rvs_base.specs.Answers.{seen}
use Rattle.rvs_tree.specs.Value.{Value}
use Rattle.rvs_tree.specs.Standin.{formed_value, standin}
use Rattle.rvs_yaml.specs.Anchors.{known_alias}
use Rattle.rvs_yaml.specs.Checks.{Checked}
use Rattle.rvs_yaml.specs.StackView.{all_known}
use Rattle.rvs_tree.specs.ValueView.{value_view}
use Rattle.rvs_yaml.proofs.Deciding.{gave}
use Rattle.rvs_yaml.proofs.Thinning.{formed-alias}
use Rattle.rvs_yaml.proofs.known.Known.alias_value.Goals as goal
use Rattle.rvs_yaml.proofs.known.Known.alias_value.Goals.{then-self, else-self}

abbrev good : Value → Checked Value
good v = Ok v

pub returns-in_default-clause-given : goal.returns-in_default-clause-given
returns-in_default-clause-given c =
    let poor = c.args.self.now.poor in
    formed-alias poor c.args.name.now (all_known c.args.self.now)
    ∙ ap (λ o. seen (formed_value poor) (known_alias o)) (sym c.in_default.ensures.value)

pub returns-in_err-made-clause-refused : goal.returns-in_err-made-clause-refused
returns-in_err-made-clause-refused c =
    let poor = c.args.self.now.poor in
    gave _ _ (formed_value poor (value_view c.in-Some.value.now))
    (formed-alias poor c.args.name.now (all_known c.args.self.now)
    ∙ ap (λ o. seen (formed_value poor) (known_alias o)) (sym c.in-Some.ensures.value))

pub returns-clause-refused : goal.returns-clause-refused
returns-clause-refused c =
    let poor = c.args.self.now.poor in
    gave _ _ (formed_value poor (value_view c.in-Some.value.now))
    (formed-alias poor c.args.name.now (all_known c.args.self.now)
    ∙ ap (λ o. seen (formed_value poor) (known_alias o)) (sym c.in-Some.ensures.value))

pub returns-clause-given : goal.returns-clause-given
returns-clause-given c =
    let poor = c.args.self.now.poor in
    let v = value_view c.in-Some.value.now in
    let same : value_view c.in_ok-made.field-0 ≡ formed_value poor v = elim c.if-self.branch [
      | then-self u ↦
          subst (λ r. IfOk r (λ x. value_view x ≡ standin v))
          (sym u.made-is ∙ c.in_ok-made.was) u.thin_value-made.ensures
          ∙ sym (ap (λ b. formed_value b v) u.if-self.true)
      | else-self u ↦
          subst (λ r. IfOk r (λ x. value_view x ≡ v))
          (sym u.made-is ∙ c.in_ok-made.was) u.shared_value-made.ensures.value
          ∙ sym (ap (λ b. formed_value b v) u.if-self.false)
    ] in
    formed-alias poor c.args.name.now (all_known c.args.self.now)
    ∙ ap (λ o. seen (formed_value poor) (known_alias o)) (sym c.in-Some.ensures.value)
    ∙ ap good (sym same)
