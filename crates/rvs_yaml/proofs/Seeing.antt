-- What is new in open blocks, from the innermost outwards.
use Rattle.std.proofs.Common.{◌≡◌, ℕ, ◌≤◌, min, Bool, true, false, cond, List, [], ◌∷◌}
use Rattle.std.proofs.Common.{◌++◌, ◌+◌, ◌-◌, ◌<◌, sym, ap, ◌∙◌, arith, length, take, get_or}
use Rattle.std.proofs.Common.{slice_get, Some, suc, append-nil, subst}
use Rattle.std.proofs.Common.{rules}
use Rattle.rvs_tree.specs.Data.{depth}
use Rattle.std.specs.Prelude.{◌||◌}
use Rattle.rvs_tree.specs.Value.{Value, Written, has_key}
use Rattle.rvs_yaml.specs.Chain.{in_chain, chain_keys}
use Rattle.rvs_yaml.specs.Stack.{done_items, done_entries}
use Rattle.rvs_yaml_text.specs.Word.{Key}
use Rattle.rvs_tree.specs.Shown.{Shown, Holds, shown_by, at_key, keys_so_far, left_by, visible}
use Rattle.rvs_yaml.specs.Front.{own_value}
use Rattle.rvs_yaml.specs.Reach.{passed, deepened, seen, sight}
use Rattle.rvs_yaml.specs.Seen.{Tells, TellsOf, TellsIn, TellsAt, Steps}
use Rattle.rvs_yaml.specs.StackView.{done_view, open_view, stack_view}
use Rattle.rvs_yaml.specs.declared.open.Open as code
use Rattle.rvs_yaml.specs.declared.seen.Seen.{Seen}
use Rattle.rvs_yaml.proofs.Chaining.{front-key}
use Rattle.rvs_yaml.proofs.Lookups.{stack-more}
use Rattle.rvs_yaml.proofs.Sketching.{stack-top}
use Rattle.rvs_tree.proofs.Sums.{take_whole}
use Rattle.rvs_tree.proofs.Sums.{has_key-append}
use Rattle.rvs_tree.proofs.Sifting.{in-more}
use Rattle.rvs_tree.proofs.Within.{at-behind-by}

abbrev Keys : Type 0
Keys = List (List ℕ)

-- where more keys are taken nothing is deeper
visible-less : (ps : List (List ℕ × ℕ)) (V U : List (List ℕ))
    → ((k : List ℕ) → has_key k V ≡ true → has_key k U ≡ true) → visible ps U ≤ visible ps V
visible-less [] V U h = omega arith
visible-less (p ∷ ps) V U h = grind (arith, at-behind-by, (visible-less ps V U h))

pub behind-more : (ps : List (List ℕ × ℕ)) (X T : List (List ℕ))
    → visible ps (X ++ T) ≤ visible ps T
behind-more ps X T = visible-less ps T (X ++ T) (λ k h. in-more k X T h)

or-either : (a b c : Bool) → (b ≡ true → c ≡ true) → (a || b) ≡ true → (a || c) ≡ true
or-either a b c g e = grind arith

or-cover : (a b c : Bool) → (c ≡ true → a ≡ true) → (b || c) ≡ true → (a || b) ≡ true
or-cover a b c g e = grind arith

behind-keys : (X K T : Keys) → Holds K T → Holds (X ++ K) (X ++ T)
behind-keys X K T h k i = grind (arith, has_key-append, or-either)

-- what a list keeps of what is new in its open item
pub list-step : (vs : List Value) (inside : Bool) (keys : Keys) (s new : Seen)
    → new.depth ≡ min (s.depth + 1) 33 → new.depths ≡ s.depths
    → Steps (done_items vs) inside keys s new
list-step vs inside keys s new d e = search (rules, behind-keys, behind-more)

map-told : (ws : List Written) (inside : Bool) (keys : Keys) (s new : Seen)
    → (inside ≡ false → keys ≡ []) → new.depth ≡ min (s.deepest + 1) 33 → new.depths ≡ s.depths
    → (f : Shown) (n : ℕ) → TellsIn true (keys_so_far ws ++ keys) s f n
    → TellsIn inside keys new (left_by ws f) (suc (f (keys_so_far ws)))
map-told ws inside keys s new none d e f n t =
    grind (arith, append-nil, visible-less, has_key-append, or-cover, in-more, front-key)

-- what a map keeps of what is new in what it merges
pub map-step : (ws : List Written) (k : Key) → k.merges ≡ true → (inside : Bool) (keys : Keys)
    → (inside ≡ false → keys ≡ []) → (s new : Seen) → new.depth ≡ min (s.deepest + 1) 33
    → new.depths ≡ s.depths → Steps (done_entries ws k) inside keys s new
map-step ws k m inside keys none s new d e f n t =
    let A = keys_so_far ws in
    let u : TellsIn true (A ++ keys) s f n =
    subst (λ b. TellsIn b (cond b (A ++ keys) []) s f n) m t in
    subst (λ b. TellsIn inside keys new (λ T. cond b (left_by ws f T) (at_key k.name n T))
    (cond b (suc (f A)) (suc n))) (sym m) (map-told ws inside keys s new none d e f n u)

-- a key that is taken brings nothing
pub at-taken : (b : Bool) (n : ℕ) → b ≡ true → cond b 0 n ≡ 0
at-taken b n e = grind arith

-- one open block more is passed
pub tells-next : (bs : List code.Open) (m : ℕ) (b : code.Open) (s new : Seen) (t : ℕ)
    → m < length bs
    → ((f : Shown) × (n : ℕ) × TellsAt (stack_view (take (m + 1) bs)) s f n
    × (seen f n (stack_view (take (m + 1) bs)) ≡ t))
    → Steps (done_view (get_or bs m b).block.done) (in_chain (stack_view (take m bs)))
    (chain_keys (stack_view (take m bs))) s new
    → (f : Shown) × (n : ℕ) × TellsAt (stack_view (take m bs)) new f n
    × (seen f n (stack_view (take m bs)) ≡ t)
tells-next bs m b s new t h (f, n, k, e) g =
    let d = done_view (get_or bs m b).block.done in
    let more = stack-more bs m b h in (
      passed d n f,
      deepened d f n,
      g f n (subst (λ os. TellsAt os s f n) more k),
      sym (ap (seen f n) more) ∙ e,
    )

-- what the last word has brought is what is new in its block
pub tells-first : (bs : List code.Open) (top : code.Open) (s new : Seen)
    → Some top ≡ slice_get bs (length bs - 1) → TellsOf s (own_value (open_view top))
    → ((f : Shown) (n : ℕ) → Tells s f n → TellsAt (stack_view (take (length bs) bs)) new f n)
    → (f : Shown) × (n : ℕ) × TellsAt (stack_view (take (length bs) bs)) new f n
    × (seen f n (stack_view (take (length bs) bs)) ≡ sight (stack_view bs))
tells-first bs top s new h k g =
    let d = (own_value (open_view top)).tree in (
      shown_by d,
      depth d,
      g (shown_by d) (depth d) k,
      ap (λ xs. seen (shown_by d) (depth d) (stack_view xs)) (take_whole bs)
          ∙ ap (seen (shown_by d) (depth d)) (stack-top bs top h)
          ∙ sym (ap sight (stack-top bs top h)),
    )
