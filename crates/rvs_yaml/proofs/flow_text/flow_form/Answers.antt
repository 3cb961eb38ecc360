use Rattle.std.proofs.Common.{◌≡◌, ◌-◌, zero, suc, ◌∙◌, sym, ap, arith, true, false}
use Rattle.std.proofs.lemmas.Result.{err_from_is_err_and}
use Rattle.rvs_yaml.specs.Checks.{◌>>=◌}
use Rattle.rvs_yaml_text.specs.Tokens.{tokens}
use Rattle.rvs_yaml.specs.TokenParts.{flowing, is_flow_end, next_flowing}
use Rattle.rvs_yaml.specs.FlowSteps.{flow_steps}
use Rattle.rvs_yaml.specs.FlowParts.{ended}
use Rattle.rvs_yaml.specs.StackView.{known_view}
use Rattle.rvs_yaml.specs.FlowView.{reading_view, flowing_view}
use Rattle.rvs_yaml.proofs.Giving.{decides_gives, fails_first}
use Rattle.rvs_yaml.proofs.Tokens.{tokens-end, tokens-next}
use Rattle.rvs_yaml.proofs.Outlined.{bind_assoc}
use Rattle.rvs_yaml.proofs.Stepping.{then-parts}
use Rattle.rvs_yaml.proofs.flow_text.flow_form.Goals as goal

pub returns-then-is_flow_end : goal.returns-then-is_flow_end
returns-then-is_flow_end c =
    let poor = c.args.known.now.poor in
    let known = known_view c.args.known.now in
    let line = c.args.line in
    let f = c.loop-left.flowing in
    let r = reading_view f.reading in
    let at_end : is_flow_end f.spaced f.rest.now ≡ true =
    ap (is_flow_end f.spaced) (sym c.as_bytes.ensures.value) ∙ sym c.is_flow_end.ensures
    ∙ c.if-is_flow_end.true in
    decides_gives _ _ _ _ (sym (ap (λ m. m >>= ended) (sym c.loop-left.invariant ∙ ap
    (flow_steps poor known line r)
    (tokens-end c.loop-left.left f.closed f.spaced f.rest.now at_end)))) c.flow_end.ensures

pub returns-in_err-flowing : goal.returns-in_err-flowing
returns-in_err-flowing c =
    let poor = c.args.known.now.poor in
    let known = known_view c.args.known.now in
    let line = c.args.line in
    let f = c.loop-left.flowing in
    let r = reading_view f.reading in
    let n = c.loop-left.left - 1 in
    let one : c.loop-left.left ≡ suc n = omega arith in
    let goes : is_flow_end f.spaced f.rest.now ≡ false =
    ap (is_flow_end f.spaced) (sym c.as_bytes.ensures.value) ∙ sym c.is_flow_end.ensures
    ∙ c.if-is_flow_end.false in
    let p = err_from_is_err_and c.from_residual.result c.from_residual.ensures.1 in
    rw (p.1, p.2) (fails_first _ (next_flowing poor known line
    (flowing r f.closed f.spaced f.rest.now))
    (λ g. flow_steps poor known line g.reading (tokens n g.closed g.spaced g.rest) >>= ended) _
    (sym (bind_assoc (next_flowing poor known line (flowing r f.closed f.spaced f.rest.now)) _ _)
    ∙ sym (ap (λ m. m >>= ended) (sym c.loop-left.invariant
    ∙ ap (λ k. flow_steps poor known line r (tokens k f.closed f.spaced f.rest.now)) one
    ∙ tokens-next poor known line r n f.closed f.spaced f.rest.now goes)))
    c.in_err-flowing.ensures)

pub loop-left-preserved : goal.loop-left-preserved
loop-left-preserved c =
    let poor = c.args.known.now.poor in
    let known = known_view c.args.known.now in
    let line = c.args.line in
    let f = c.loop-left.flowing in
    let r = reading_view f.reading in
    let n = c.loop-left.left - 1 in
    let one : c.loop-left.left ≡ suc n = omega arith in
    let goes : is_flow_end f.spaced f.rest.now ≡ false =
    ap (is_flow_end f.spaced) (sym c.as_bytes.ensures.value) ∙ sym c.is_flow_end.ensures
    ∙ c.if-is_flow_end.false in
    then-parts (next_flowing poor known line (flowing r f.closed f.spaced f.rest.now))
    (flowing_view c.in_ok-flowing.flowing)
    (λ g. flow_steps poor known line g.reading (tokens n g.closed g.spaced g.rest)) _
    (sym (tokens-next poor known line r n f.closed f.spaced f.rest.now goes)
    ∙ sym (ap (λ k. flow_steps poor known line r (tokens k f.closed f.spaced f.rest.now)) one)
    ∙ c.loop-left.invariant) c.in_ok-flowing.ensures

pub returns : goal.returns
returns c =
    let poor = c.args.known.now.poor in
    let known = known_view c.args.known.now in
    let line = c.args.line in
    let f = c.loop-left.flowing in
    let r = reading_view f.reading in
    let none : c.loop-left.left ≡ zero = omega arith in
    decides_gives _ _ _ _ (sym (ap (λ m. m >>= ended) (sym c.loop-left.invariant
    ∙ ap (λ k. flow_steps poor known line r (tokens k f.closed f.spaced f.rest.now)) none)))
    c.flow_end-2.ensures
