use Rattle.std.proofs.Common.{◌≡◌, List, ℕ, subst, ◌∙◌}
use Rattle.std.proofs.lemmas.Result.{err_from_is_err_and}
use Rattle.rvs_plan.specs.World.{world}
use Rattle.rvs_plan.specs.Plan.{writes}
use Rattle.rvs_plan.specs.Meets.{Meets}
use Rattle.rvs_plan.proofs.Sequence.{Meets-no_memory}
use Rattle.rvs_sig.specs.Words.{text_of_words}
use Rattle.rvs_reference.proofs.reference.write_signature.Goals as goal

pub returns-in_err-text : goal.returns-in_err-text
returns-in_err-text g c = λ out.
    let p = err_from_is_err_and c.from_residual.result c.from_residual.ensures.1 in
    rw (p.1, p.2) (Meets-no_memory (writes c.args.signature.now (text_of_words c.args.words.now))
    (world (g.H.Host.state c.args.host.now) out))

pub returns-in_err-name : goal.returns-in_err-name
returns-in_err-name g c = λ out.
    let p = err_from_is_err_and c.from_residual-in_err-name.result
    c.from_residual-in_err-name.ensures.1 in
    rw (p.1, p.2) (Meets-no_memory (writes c.args.signature.now (text_of_words c.args.words.now))
    (world (g.H.Host.state c.args.host.now) out))

pub returns : goal.returns
returns g c = λ out.
    let text : c.as_bytes.result.now ≡ text_of_words c.args.words.now =
    c.as_bytes.ensures.value ∙ c.as_str-2.ensures ∙ c.in_ok-text.ensures.text in
    let old = world (g.H.Host.state c.args.host.now) out in
    let new = world (g.H.Host.state c.write_output.new.host) out in
    subst (λ (bytes : List ℕ). Meets (writes c.args.signature.now bytes) old new
    c.write_output.result) text (subst
    (λ (name : List ℕ). Meets (writes name c.as_bytes.result.now) old new c.write_output.result)
    (c.in_ok-name.ensures ∙ c.as_str.ensures) (c.write_output.ensures out))
