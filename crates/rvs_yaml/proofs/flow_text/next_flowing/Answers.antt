use Rattle.std.proofs.Common.{◌≡◌, ◌∙◌, sym, ap, false, Ok}
use Rattle.std.proofs.lemmas.Result.{err_from_is_err_and}
use Rattle.rvs_yaml_text.specs.Bytes.{space_byte}
use Rattle.rvs_yaml_text.specs.Scalar.{starts_with}
use Rattle.rvs_yaml_text.specs.Tokens.{closes}
use Rattle.rvs_yaml_text.specs.TokenView.{first_view}
use Rattle.rvs_base.specs.Answers.{seen}
use Rattle.rvs_yaml.specs.Checks.{Checked}
use Rattle.rvs_yaml.specs.FlowSteps.{Reading}
use Rattle.rvs_yaml.specs.TokenParts.{Flowing, flowing}
use Rattle.rvs_yaml.specs.StackView.{known_view}
use Rattle.rvs_yaml.specs.FlowView.{reading_view}
use Rattle.rvs_yaml.proofs.Giving.{fails_to}
use Rattle.rvs_yaml.proofs.Tokens.{next-token}
use Rattle.rvs_yaml.proofs.flow_text.next_flowing.Goals as goal

pub returns-in_err-reading-in-Ok : goal.returns-in_err-reading-in-Ok
returns-in_err-reading-in-Ok c =
    let a = c.args in
    let f = a.flowing in
    let no_space : starts_with space_byte f.rest.now ≡ false =
    ap (starts_with space_byte) (sym c.as_bytes.ensures.value) ∙ sym c.starts_with.ensures
    ∙ c.if-starts_with.false in
    let t = first_view (c.in-Ok.token, c.in-Ok.behind) in
    let next = next-token a.known.now.poor (known_view a.known.now) a.line
    (reading_view f.reading) f.closed f.spaced f.rest.now t no_space
    c.in-Ok.ensures in
    let see : Reading → Flowing = λ s. flowing s (closes t.0) false t.1 in
    let p = err_from_is_err_and c.from_residual.result c.from_residual.ensures.1 in
    rw (p.1, p.2) (fails_to _ _ _ (λ kind is. sym next ∙ ap (seen see) is)
    c.in_err-reading-in-Ok.ensures.given)

pub returns-in_ok-reading-in-Ok : goal.returns-in_ok-reading-in-Ok
returns-in_ok-reading-in-Ok c =
    let a = c.args in
    let f = a.flowing in
    let no_space : starts_with space_byte f.rest.now ≡ false =
    ap (starts_with space_byte) (sym c.as_bytes.ensures.value) ∙ sym c.starts_with.ensures
    ∙ c.if-starts_with.false in
    let t = first_view (c.in-Ok.token, c.in-Ok.behind) in
    let next = next-token a.known.now.poor (known_view a.known.now) a.line
    (reading_view f.reading) f.closed f.spaced f.rest.now t no_space
    c.in-Ok.ensures in
    let see : Reading → Flowing = λ s. flowing s (closes t.0) false t.1 in
    sym next ∙ ap (seen see) c.in_ok-reading-in-Ok.ensures.given
    ∙ ap (λ b. let r : Checked Flowing =
    Ok (flowing (reading_view c.in_ok-reading-in-Ok.reading) b false t.1) in r)
    (sym c.closes-closed.ensures)
