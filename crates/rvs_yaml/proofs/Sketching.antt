-- Sketches of collections with one member more, and how deep trees are.
use Rattle.std.proofs.Common.{◌≡◌, ℕ, ◌+◌, ◌-◌, ◌<◌, ◌≤◌, Bool, true, false, List, [], ◌∷◌, length}
use Rattle.std.proofs.Common.{take, slice_get, Some, None, Ok, Err, refl, sym, ap, ◌∙◌, arith}
use Rattle.std.specs.Prelude.{◌++◌, ◌&&◌, ◌||◌, not, nat_lt, min, if◌then◌else◌}
use Rattle.std.proofs.lemmas.Bool.Decides.{nat_tests}
use Rattle.rvs_yaml.specs.Checks.{Checked, ◌>>=◌, check}
use Rattle.rvs_tree.proofs.Growing.{own-more}
use Rattle.rvs_tree.proofs.Merging.{map-depth}
use Rattle.rvs_tree.specs.Data.{Data, mapping, entries_of, depth}
use Rattle.rvs_tree.specs.Value.{Value, Written, scalar_value, merged_pairs, is_map_or_empty}
use Rattle.rvs_tree.specs.Value.{explicit_keys, resolved}
use Rattle.rvs_tree.specs.Bound.{pairs_depth}
use Rattle.rvs_yaml.specs.StepParts.{closed_value}
use Rattle.rvs_yaml.specs.Front.{own_value, ends, front_value}
use Rattle.rvs_yaml.specs.Sketched.{IsSketch}
use Rattle.rvs_yaml.specs.declared.sketch.Sketch.{Sketch}
use Rattle.rvs_yaml_text.specs.declared.kind.YamlKind.{YamlKind}
use Rattle.std.proofs.lemmas.Option.{slice_get-get_or}
use Rattle.rvs_yaml.specs.StackView.{done_view, open_view, stack_view}
use Rattle.rvs_yaml.specs.declared.open.Open.{Open}
use Rattle.rvs_yaml_text.specs.declared.kind.YamlKind.TheVariants.{BadMerge}
use Rattle.rvs_tree.proofs.Sums.{list_shallower, take_whole}
use Rattle.rvs_yaml.proofs.Lookups.{stack-more}
use Rattle.std.proofs.Common.{get_or, rules}

-- what a list brings is less deep than the maps in it
pub list-shallower : (d : Data) → is_map_or_empty d ≡ false
    → pairs_depth (merged_pairs d) ≤ depth d - 2
list-shallower d h = search (rules, list_shallower)

pub check-bad : (a b : Bool) → (a && not b) ≡ true → check (not a || b) BadMerge ≡ Err BadMerge
check-bad a b h = grind arith

pub check-good : (a b : Bool) → (a && not b) ≡ false → check (not a || b) BadMerge ≡ Ok tt
check-good a b h = grind arith

pub ends-top : (bs : List Open) (m : ℕ) (b : Open) (v : Value) → m < length bs →
    ends v (stack_view (take (m + 1) bs))
    ≡ (closed_value (done_view (get_or bs m b).block.done) (get_or bs m b).block.line v
    >>= λ w. ends w (stack_view (take m bs)))
ends-top bs m b v h = ap (ends v) (stack-more bs m b h)

pub lt_test : (a b : ℕ) → a < b → true ≡ nat_lt a b
lt_test a b h = grind (arith, nat_tests)

-- no last block: no block
pub none-last : (bs : List Open) → None ≡ slice_get bs (length bs - 1) → bs ≡ []
none-last [] h = refl
none-last (x ∷ bs) h = let there : slice_get (x ∷ bs) (length (x ∷ bs) - 1)
    ≡ Some (get_or (x ∷ bs) (length (x ∷ bs) - 1) x) =
    slice_get-get_or (x ∷ bs) _ x (omega arith) in cc

pub no_last : (bs : List Open) → None ≡ slice_get bs (length bs - 1)
    → front_value (stack_view bs) ≡ Ok (scalar_value [] 1)
no_last bs h = ap (λ xs. front_value (stack_view xs)) (none-last bs h)

last-here : (bs : List Open) (top : Open) → Some top ≡ slice_get bs (length bs - 1)
    → length bs - 1 < length bs → get_or bs (length bs - 1) top ≡ top
last-here bs top h n = grind (arith, slice_get, slice_get-get_or)

pub some-last : (bs : List Open) (top : Open) → Some top ≡ slice_get bs (length bs - 1)
    → length bs - 1 < length bs
some-last [] top h = cc
some-last (b ∷ bs) top h = omega arith

abbrev pub top_closed : Open → Checked Value
top_closed top = closed_value (done_view top.block.done) top.block.line (own_value (open_view top))

-- the block on top, and those below it
pub stack-top : (bs : List Open) (top : Open) → Some top ≡ slice_get bs (length bs - 1)
    → stack_view bs ≡ open_view top ∷ stack_view (take (length bs - 1) bs)
stack-top bs top h =
    let m = length bs - 1 in
    let inside = some-last bs top h in
    let one : m + 1 ≡ length bs = omega arith in
    sym (ap stack_view (ap (λ n. take n bs) one ∙ take_whole bs)) ∙ stack-more bs m top inside
    ∙ ap (λ b. open_view b ∷ stack_view (take m bs)) (last-here bs top h inside)

-- the value of the open blocks, from the block on top
pub front-top : (bs : List Open) (top : Open) → Some top ≡ slice_get bs (length bs - 1)
    → (top_closed top >>= λ w. ends w (stack_view (take (length bs - 1) bs)))
    ≡ front_value (stack_view bs)
front-top bs top h = grind (arith, stack-top)

pub top-ok : (bs : List Open) (top : Open) (sk : Sketch) → Some top ≡ slice_get bs (length bs - 1)
    → ((v : Value) × (top_closed top ≡ Ok v) × IsSketch v sk) →
    (v : Value) × IsSketch v sk
    × (ends v (stack_view (take (length bs - 1) bs)) ≡ front_value (stack_view bs))
top-ok bs top sk h (v, e, s) = (
  v,
  s,
  sym (ap (λ m. m >>= λ w. ends w (stack_view (take (length bs - 1) bs))) e) ∙ front-top bs top h,
)

pub top-err : (bs : List Open) (top : Open) (kind : YamlKind)
    → Some top ≡ slice_get bs (length bs - 1) → top_closed top ≡ Err kind
    → front_value (stack_view bs) ≡ Err kind
top-err bs top kind h e =
    sym (front-top bs top h) ∙ ap (λ m. m >>= λ w. ends w (stack_view (take (length bs - 1) bs))) e

abbrev pub closing : Open → Value → Checked Value
closing b v = closed_value (done_view b.block.done) b.block.line v

pub sketch-err : (bs : List Open) (m : ℕ) (b : Open) (sk : Sketch) (t : Checked Value)
    (kind : YamlKind) → m < length bs →
    ((v : Value) × IsSketch v sk × (ends v (stack_view (take (m + 1) bs)) ≡ t))
    → ((v : Value) → IsSketch v sk → closing (get_or bs m b) v ≡ Err kind) → t ≡ Err kind
sketch-err bs m b sk t kind h (v, s, e) f =
    sym e ∙ ends-top bs m b v h ∙ ap (λ r. r >>= λ w. ends w (stack_view (take m bs))) (f v s)

sketch-next : (bs : List Open) (m : ℕ) (b : Open) (new : Sketch) (t : Checked Value) (v : Value)
    → m < length bs → ends v (stack_view (take (m + 1) bs)) ≡ t →
    ((w : Value) × (closing (get_or bs m b) v ≡ Ok w) × IsSketch w new)
    → (w : Value) × IsSketch w new × (ends w (stack_view (take m bs)) ≡ t)
sketch-next bs m b new t v h e (w, c, s) = (
  w,
  s,
  sym (ap (λ r. r >>= λ u. ends u (stack_view (take m bs))) c) ∙ sym (ends-top bs m b v h) ∙ e,
)

pub sketch-ok : (bs : List Open) (m : ℕ) (b : Open) (sk new : Sketch) (t : Checked Value)
    → m < length bs →
    ((v : Value) × IsSketch v sk × (ends v (stack_view (take (m + 1) bs)) ≡ t)) → ((v : Value)
    → IsSketch v sk → (w : Value) × (closing (get_or bs m b) v ≡ Ok w) × IsSketch w new) →
    (w : Value) × IsSketch w new × (ends w (stack_view (take m bs)) ≡ t)
sketch-ok bs m b sk new t h (v, s, e) f = sketch-next bs m b new t v h e (f v s)

-- with no block left, the value is what was looked at
pub ended-sketch : (bs : List Open) (n : ℕ) (sk : Sketch) (t : Checked Value) → n ≡ 0
    → ((w : Value) × IsSketch w sk × (ends w (stack_view (take n bs)) ≡ t))
    → (w : Value) × (t ≡ Ok w) × IsSketch w sk
ended-sketch bs n sk t z (w, s, e) = (w, sym e ∙ ap (λ m. ends w (stack_view (take m bs))) z, s)

least-by : (b : Bool) (ws : List Written) (w : Written) (n : ℕ) → w.merges ≡ b
    → n ≤ depth w.value.tree →
    (if b then 1 else min (n + 1) 33)
    ≤ depth (mapping (entries_of (resolved (explicit_keys (ws ++ w ∷ [])) [] (ws ++ w ∷ []))) 0)
least-by b ws w n e h = search (rules, map-depth, own-more)

-- a map is deeper than the value of its last entry, unless that is merged
pub least-map : (ws : List Written) (w : Written) (n : ℕ) → n ≤ depth w.value.tree →
    (if w.merges then 1 else min (n + 1) 33)
    ≤ depth (mapping (entries_of (resolved (explicit_keys (ws ++ w ∷ [])) [] (ws ++ w ∷ []))) 0)
least-map ws w n h = least-by w.merges ws w n refl h
