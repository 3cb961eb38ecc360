use Rattle.std.proofs.Common.{◌≡◌, ◌∙◌, List, ℕ, subst}
use Rattle.std.proofs.lemmas.Result.{err_from_is_err_and}
use Rattle.rvs_plan.specs.World.{world}
use Rattle.rvs_plan.specs.Plan.{writes}
use Rattle.rvs_plan.specs.Meets.{Meets}
use Rattle.rvs_plan.proofs.Sequence.{Meets-gives, Meets-no_memory}
use Rattle.rvs_generate.specs.Generate.{path_of}
use Rattle.rvs_generate.proofs.generating.write_text.Goals as goal

pub returns-in-None : goal.returns-in-None
returns-in-None g c =
    λ out. rw c.in-None.is (Meets-gives tt (world (g.H.Host.state c.args.host.now) out))

pub returns-in_err-name-in-Some : goal.returns-in_err-name-in-Some
returns-in_err-name-in-Some g c = λ out.
    let p = err_from_is_err_and c.from_residual.result c.from_residual.ensures.1 in
    rw (c.in-Some.is, p.1, p.2) (Meets-no_memory
    (writes (path_of c.args.work.now c.args.name.now) c.in-Some.text)
    (world (g.H.Host.state c.args.host.now) out))

pub returns-in_ok-name-in-Some : goal.returns-in_ok-name-in-Some
returns-in_ok-name-in-Some g c = λ out.
    let old = world (g.H.Host.state c.args.host.now) out in
    let new = world (g.H.Host.state c.write_output.new.host) out in
    let bytes : c.as_bytes.result.now ≡ c.in-Some.text =
    c.as_bytes.ensures.value ∙ c.as_str.ensures in
    let here = subst
    (λ (path : List ℕ). Meets (writes path c.as_bytes.result.now) old new c.write_output.result)
    c.in_ok-name-in-Some.ensures (c.write_output.ensures out) in
    rw c.in-Some.is (subst (λ (text : List ℕ). Meets
    (writes (path_of c.args.work.now c.args.name.now) text) old new c.write_output.result) bytes
    here)
