use Rattle.std.proofs.Common.{◌≡◌, Bool, true, false, ◌∙◌, ◌∷◌, ap, refl, bytes_eq, cond}
use Rattle.std.proofs.Common.{string_bytes}
use Rattle.std.specs.Prelude.{◌||◌}
use Rattle.std.specs.BTreeSet.{contains_text}
use Rattle.std.proofs.lemmas.Map.Text.{btree_set_updates_text}
use Rattle.rvs_points.specs.Kinds.{mark}
use Rattle.rvs_cgf.proofs.PointSets.{keys_more}
use Rattle.rvs_cgf.proofs.points.add_pair.Goals as goal

or_cond : (a b : Bool) → cond a true b ≡ (b || a)
or_cond true true = refl
or_cond true false = refl
or_cond false true = refl
or_cond false false = refl

pub returns : goal.returns
returns c =
    let point = c.args.point.now in
    let text = c.in_ok-text.text in
    keys_more c.args.known.now c.insert.new.self point (string_bytes text)
    (c.in_ok-text.ensures ∙ ap (λ key. mark point.kind ∷ key) c.as_str.ensures)
    (λ k. btree_set_updates_text (string_bytes text) c.args.known.now c.insert.new.self true
    c.in_ok-insert.ensures.updates k
    ∙ or_cond (bytes_eq (string_bytes text) k) (contains_text c.args.known.now k))
