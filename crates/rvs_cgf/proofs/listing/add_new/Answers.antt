use Rattle.std.proofs.Common.{◌≡◌, ◌∷◌, ◌++◌, [], List, None, ◌∙◌, ap, refl, string_bytes}
use Rattle.std.specs.Prelude.{String}
use Rattle.std.specs.String.{string_eq}
use Rattle.std.specs.Map.{values_of}
use Rattle.indexmap.specs.IndexMap.{get_by_text, values}
use Rattle.indexmap.proofs.CallerLemmas.{insert_entry-new}
use Rattle.rvs_points.specs.declared.group.Label.{Label}
use Rattle.rvs_cgf.proofs.listing.add_new.Goals as goal

values-push : {A : Type 0} (es : List (String A × Label)) (e : String A × Label)
    → values_of (es ++ e ∷ []) ≡ values_of es ++ e.1 ∷ []
values-push [] e = refl
values-push (x ∷ es) e = ap (λ l. x.1 ∷ l) (values-push es e)

pub returns : goal.returns
returns c =
    let m = c.args.labels.now in
    let key = c.in_ok-name.name in
    let label = c.in_ok-name.label in
    let same : string_bytes key ≡ c.args.name.now =
    rw c.in_ok-name.ensures.both.0 at c.from_str.ensures.ok in
    let none : get_by_text m (string_bytes key) ≡ None = ap (get_by_text m) same ∙ c.requires in
    ap values_of (c.in_ok-insert.ensures.entries ∙ insert_entry-new string_eq m key label none)
    ∙ values-push m.entries (key, label)
    ∙ ap (λ l. values m ++ l ∷ []) c.in_ok-name.ensures.both.1
