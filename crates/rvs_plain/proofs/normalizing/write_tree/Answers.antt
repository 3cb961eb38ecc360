use Rattle.std.proofs.Common.{◌≡◌, ℕ, List, Result, Ok, Err, refl, subst}
use Rattle.rvs_base.specs.Answers.{seen}
use Rattle.rvs_plan.specs.Plan.{Ends}
use Rattle.rvs_plan.specs.Meets.{Meets}
use Rattle.rvs_plan.specs.Refusing.{end_at}
use Rattle.rvs_plan.specs.declared.stop.Stop.{Stop}
use Rattle.rvs_tree.specs.TreeView.{view}
use Rattle.rvs_cgf.specs.GroupView.{refusal_view}
use Rattle.rvs_cgf.specs.Groups.{Found, Label, groups_of, ◌>>=◌}
use Rattle.rvs_cgf.specs.Print.{normal_text, refusal_text}
use Rattle.rvs_inputs.specs.GroupFiles.{checked_groups}
use Rattle.rvs_inputs.specs.GroupTexts.{groups_name}
use Rattle.rvs_inputs.proofs.Accepting.{Meets-stops_as}
use Rattle.rvs_plain.proofs.normalizing.write_tree.Goals as goal

text-end : (found : Found (List Label))
    → end_at refusal_text groups_name (found >>= (λ groups. Ok (normal_text groups)))
    ≡ seen normal_text (checked_groups found)
text-end (Ok groups) = refl
text-end (Err refusal) = refl

text-seen : (r : Result (List ℕ) Stop) → seen (λ (t : List ℕ). t) r ≡ r
text-seen (Ok text) = refl
text-seen (Err stop) = refl

pub returns : goal.returns
returns c = λ w.
    let found = groups_of c.args.isa.now c.args.families (view c.args.tree.now) in
    let told = found >>= (λ groups. Ok (normal_text groups)) in
    let result = c.accepted.result in
    subst (λ (end : Result (List ℕ) Stop). Meets (Ends end) w w result) (text-end found)
    (subst (Meets (Ends (end_at refusal_text groups_name told)) w w) (text-seen result)
    (Meets-stops_as (λ (t : List ℕ). t) refusal_view refusal_text groups_name told _ result w
    c.write_groups.ensures c.accepted.ensures))
