use Rattle.std.proofs.Common.{subst, []}
use Rattle.std.proofs.lemmas.Result.{err_from_is_err_and}
use Rattle.rvs_tree.specs.Value.{scalar_value}
use Rattle.rvs_yaml.specs.Sketched.{SketchedAs}
use Rattle.rvs_yaml.proofs.Sketching.{no_last, top-err, top-ok}
use Rattle.rvs_yaml.proofs.front.sketch_front.Goals as goal

pub returns-in_default : goal.returns-in_default
returns-in_default c = (
  scalar_value [] 1,
  no_last c.args.blocks.now c.in_default.ensures.value,
  c.empty_sketch.ensures 1,
)

pub returns-in_err-first : goal.returns-in_err-first
returns-in_err-first c =
    let p = err_from_is_err_and c.from_residual.result c.from_residual.ensures.1 in
    rw (p.1, p.2) (top-err c.args.blocks.now c.in-Some.top.now _ c.in-Some.ensures.value
    c.in_err-first.ensures)

pub returns : goal.returns
returns c =
    let p = top-ok c.args.blocks.now c.in-Some.top.now c.in_ok-first.first
    c.in-Some.ensures.value c.in_ok-first.ensures in
    subst (SketchedAs c.sketch_with.result) p.2 (c.sketch_with.ensures p.0 p.1)
