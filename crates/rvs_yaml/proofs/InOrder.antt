-- The stack of open blocks as the definition has it: the anchor of a node stands right before those
-- in it, so that of two with one name both are kept.
use Rattle.std.proofs.Common.{ℕ, List, [], ◌∷◌, ◌++◌, Ok}
use Rattle.std.specs.Prelude.{if◌then◌else◌}
use Rattle.rvs_tree.specs.Value.{Value, scalar_value, list_value, map_value}
use Rattle.rvs_yaml.specs.Checks.{Checked, ◌>>=◌, ◌>>◌, check}
use Rattle.rvs_yaml_text.specs.Word.{Name, Word, is_below, opens_block}
use Rattle.rvs_yaml.specs.Anchors.{Anchors}
use Rattle.rvs_yaml.specs.Entry.{written}
use Rattle.rvs_yaml.specs.Block.{Found, found, named, check_merge}
use Rattle.rvs_yaml.specs.Stack.{Done, done_items, done_entries, alone, Open, begins, advanced}
use Rattle.rvs_yaml_text.specs.declared.kind.YamlKind.TheVariants.{Unsupported}

abbrev pub own_found : Open → Found Value
own_found b = named b.head.anchor
    (found (if opens_block b.head.sort then scalar_value [] b.head.line else b.own) [])

abbrev pub closed_as : Done → ℕ → Anchors → Found Value → Checked (Found Value)
closed_as (done_items vs) line anchors g =
    Ok (found (list_value line (vs ++ g.value ∷ [])) (g.anchors ++ anchors))
closed_as (done_entries ws k) line anchors g = check_merge k g.value >> Ok
    (found (map_value line (ws ++ written k g.value ∷ [])) (g.anchors ++ anchors))
closed_as alone line anchors g = Ok g

abbrev pub closed : Open → Found Value → Checked (Found Value)
closed b g = closed_as b.done b.line b.anchors g

abbrev pub closed_into : Open → Found Value → Name → Checked (Found Value)
closed_into b g name = closed b g >>= λ h. Ok (named name h)

abbrev pub settled : Found Value → Open → List Open → Word → Checked (List Open)
settled g b [] w = advanced b g [] w
settled g b (outer ∷ bs) w =
    if is_below outer.head w then advanced b g (outer ∷ bs) w
    else closed_into b g outer.head.anchor >>= λ h. settled h outer bs w

abbrev pub step : List Open → Word → Checked (List Open)
step [] w = begins [] w
step (b ∷ bs) w =
    if is_below b.head w then (check (opens_block b.head.sort) Unsupported >> begins (b ∷ bs) w)
    else settled (own_found b) b bs w

-- the tree, where nothing more comes
abbrev pub unwound : Found Value → Open → List Open → Checked (Found Value)
unwound g b [] = closed b g
unwound g b (outer ∷ bs) = closed_into b g outer.head.anchor >>= λ h. unwound h outer bs

abbrev pub finished : List Open → Checked (Found Value)
finished [] = Ok (found (scalar_value [] 1) [])
finished (b ∷ bs) = unwound (own_found b) b bs

abbrev pub steps : List Open → List Word → Checked (List Open)
steps bs [] = Ok bs
steps bs (w ∷ ws) = step bs w >>= λ cs. steps cs ws
