-- A block on top of others, and a word that begins one.
use Rattle.std.proofs.Common.{◌≡◌, ◌-◌, Bool, true, false, List, ◌∷◌, length, take, Some, None, Ok}
use Rattle.std.proofs.Common.{refl, sym, ap, subst, ◌∙◌}
use Rattle.std.specs.Prelude.{slice_get, Option}
use Rattle.rvs_yaml.specs.Checks.{Checked, ◌>>◌, check}
use Rattle.rvs_yaml.specs.Stack as spec
use Rattle.rvs_yaml.specs.Stack.{begins, step}
use Rattle.rvs_yaml.specs.StepParts.{own_content, looked_up, placed}
use Rattle.rvs_yaml.specs.StackView.{open_at, anchored}
use Rattle.rvs_yaml.specs.declared.open.Anchor.{Anchor}
use Rattle.rvs_yaml.specs.declared.open.Open.{Open}
use Rattle.rvs_yaml_text.specs.Word.{Word, is_below, opens_block}
use Rattle.rvs_yaml_text.specs.WordView.{head_view}
use Rattle.rvs_yaml_text.specs.declared.kind.YamlKind.{YamlKind}
use Rattle.rvs_yaml_text.specs.declared.kind.YamlKind.TheVariants.{Unsupported}
use Rattle.rvs_yaml.proofs.Deciding.{placed-under}
use Rattle.rvs_yaml.proofs.Segments.{Closing, closing-false, last-whole, anchored-push}
use Rattle.rvs_yaml.proofs.Sketching.{none-last}

passed-check : {A B : Type 0} (t : Bool) (kind : YamlKind) (m : Checked A) (n : Checked B) (x : A)
    → (check t kind >> m) ≡ Ok x → (check t kind >> n) ≡ n
passed-check true kind m n x h = refl
passed-check false kind m n x h = absurd cc

step-under : (b : spec.Open) (bs : List spec.Open) (w : Word) → is_below b.head w ≡ true
    → step (b ∷ bs) w ≡ (check (opens_block b.head.sort) Unsupported >> begins (b ∷ bs) w)
step-under b bs w e = rw e refl

begins-under : (b : spec.Open) (bs : List spec.Open) (w : Word) → is_below b.head w ≡ true
    → placed (b ∷ bs) w ≡ Ok tt → step (b ∷ bs) w ≡ begins (b ∷ bs) w
begins-under b bs w e h =
    step-under b bs w e ∙ passed-check (opens_block b.head.sort) Unsupported
    (looked_up (spec.known_of (b ∷ bs)) (own_content w.shape)) (begins (b ∷ bs) w) tt
    (sym (placed-under b bs w e) ∙ h)

begins-by : (m : Option Open) (all : List Anchor) (bs : List Open) (w : Word)
    → m ≡ slice_get bs (length bs - 1) → Closing m w false → placed (anchored all bs) w ≡ Ok tt
    → step (anchored all bs) w ≡ begins (anchored all bs) w
begins-by None all bs w e h p =
    let P : List Open → Type 0 =
    λ xs. step (anchored all xs) w ≡ begins (anchored all xs) w in
    subst P (sym (none-last bs e)) refl
begins-by (Some o) all bs w e h p =
    let rest = take (length bs - 1) bs in
    let is = ap (anchored all) (last-whole bs o e) ∙ anchored-push all rest o in
    let P : List spec.Open → Type 0 = λ xs. step xs w ≡ begins xs w in
    subst P (sym is) (begins-under (open_at all o) (anchored (take o.block.before all) rest) w
    (closing-false (is_below (head_view o.head) w) h) (subst (λ xs. placed xs w ≡ Ok tt) is p))

-- where no block closes, a word that has its place begins one
pub step-begins : (all : List Anchor) (bs : List Open) (w : Word)
    → Closing (slice_get bs (length bs - 1)) w false → placed (anchored all bs) w ≡ Ok tt
    → step (anchored all bs) w ≡ begins (anchored all bs) w
step-begins all bs w h p = begins-by (slice_get bs (length bs - 1)) all bs w refl h p
