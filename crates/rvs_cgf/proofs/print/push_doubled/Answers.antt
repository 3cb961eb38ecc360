use Rattle.std.proofs.Common.{rules, ◌++◌, ◌∷◌, [], ◌∙◌, ap, append_assoc}
use Rattle.std.specs.Prelude.{◌==◌}
use Rattle.std.specs.List.{before_first}
use Rattle.rvs_cgf.specs.Print.{doubled}
use Rattle.rvs_cgf.proofs.Quotes.{doubled_more}
use Rattle.rvs_cgf.proofs.print.push_doubled.Goals as goal

pub loop-front-preserved : goal.loop-front-preserved
loop-front-preserved c = (
  ap (λ t. t ++ doubled c.in-Some.after.now) (c.in_ok-push_str-2.ensures.added
      ∙ ap (λ t. t ++ (39 ∷ 39 ∷ [])) c.in_ok-push_str.ensures.added
      ∙ append_assoc c.loop-front.text c.in-Some.front.now (39 ∷ 39 ∷ []))
      ∙ ap (λ t. (c.loop-front.text ++ (t ++ (39 ∷ 39 ∷ []))) ++ doubled c.in-Some.after.now)
      c.in-Some.ensures.0
      ∙ ap (λ t. (c.loop-front.text ++ (before_first (λ b. b == 39) c.loop-front.rest.now
      ++ (39 ∷ 39 ∷ []))) ++ doubled t) c.in-Some.ensures.1
      ∙ doubled_more c.loop-front.text c.loop-front.rest.now c.in-Some.ensures.2
      ∙ c.loop-front.invariant.0,
  search rules,
)
