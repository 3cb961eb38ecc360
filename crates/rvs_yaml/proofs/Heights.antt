-- No flow collection is deeper than its tokens reach.
use Rattle.std.proofs.lemmas.Bool.Decides.{nat_tests}
use Rattle.std.proofs.Common.{◌≡◌, ℕ, suc, ◌+◌, ◌≤◌, max, Bool, false, List, [], ◌∷◌, ◌++◌, length}
use Rattle.std.proofs.Common.{Option, Some, Ok, Err, sym, ap, subst, ◌∙◌, arith, rules}
use Rattle.std.specs.Prelude.{◌&&◌}
use Rattle.rvs_tree.specs.Data.{depth}
use Rattle.rvs_tree.specs.Value.{Value, Written}
use Rattle.rvs_tree.specs.Bound.{values_depth, written_depth}
use Rattle.rvs_tree.proofs.Sums.{values_depth-push, brought_small}
use Rattle.rvs_tree.proofs.Merging.{list-depth, map-depth}
use Rattle.rvs_tree.proofs.Depths.{written_depth-push}
use Rattle.rvs_yaml_text.specs.Word.{Key, Bracket, Token, opening, closing, comma}
use Rattle.rvs_yaml_text.specs.Word.{colon, scalar_token, key_token, cut_key, colon_scalar}
use Rattle.rvs_yaml_text.specs.Word.{alias_token, late_colon, fault}
use Rattle.rvs_yaml_text.specs.declared.kind.YamlKind.{YamlKind}
use Rattle.rvs_yaml_text.specs.declared.kind.YamlKind.TheVariants.{BadFlow, BadScalar}
use Rattle.rvs_yaml.specs.Checks.{Checked, ◌>>=◌, ◌>>◌}
use Rattle.rvs_yaml.specs.Anchors.{Anchors, lookup, known_alias}
use Rattle.rvs_yaml.specs.Entry.{written}
use Rattle.rvs_yaml.specs.Flow.{FlowState, member, behind_member, key_place, entry_value}
use Rattle.rvs_yaml.specs.Flow.{behind_entry}
use Rattle.rvs_yaml.specs.Flow.{new_key, with_value, with_comma, with_key}
use Rattle.rvs_yaml.specs.Flow.{with_cut_key, with_colon_scalar, with_alias, with_fault, with_token}
use Rattle.rvs_yaml.specs.Flow.{closes, ends_with, fits, flow_value}
use Rattle.rvs_yaml.specs.FlowSteps.{Reading, open_in, whole, into, moved, flow_step, flow_steps}
use Rattle.rvs_yaml.specs.FlowParts.{first_reading, ended}
use Rattle.rvs_yaml.specs.Heights.{found_depth, level_behind, reach, height}
use Rattle.rvs_yaml.proofs.FlowRuns.{flow-ended}

-- how deep the members of a place are
abbrev place_depth : FlowState → ℕ
place_depth (member vs) = values_depth vs
place_depth (behind_member vs) = values_depth vs
place_depth (key_place ws) = written_depth ws
place_depth (entry_value ws k) = written_depth ws
place_depth (behind_entry ws) = written_depth ws

-- the members on each level, with the levels around them, are no deeper than this
abbrev Levels : List (Bracket × FlowState) → ℕ → Type 0
Levels [] n = Unit {0}
Levels (o ∷ outer) n = (place_depth o.1 + suc (length outer) ≤ n) × Levels outer n

abbrev Within : Reading → ℕ → Type 0
Within (open_in good b p outer) n = (place_depth p + suc (length outer) ≤ n) × Levels outer n
Within (whole p) n = depth p.0.tree ≤ n

abbrev level_of : Reading → ℕ
level_of (open_in good b p outer) = suc (length outer)
level_of (whole p) = 0

bound : {A B : Type 0} (m : Checked A) (f : A → Checked B) (q : B) → (m >>= f) ≡ Ok q
    → (x : A) × (m ≡ Ok x) × (f x ≡ Ok q)
bound h = grind arith

follows : {A B : Type 0} (m : Checked A) (n : Checked B) (q : B) → (m >> n) ≡ Ok q → n ≡ Ok q
follows h = grind arith

entry-deep : (ws : List Written) (k : Key) (v : Value)
    → written_depth (ws ++ written k v ∷ []) ≤ max (written_depth ws) (depth v.tree)
entry-deep ws k v = grind (arith, written_depth-push, brought_small)

value-deep : (p q : FlowState) (v : Value) → with_value p v ≡ Ok q
    → place_depth q ≤ max (place_depth p) (depth v.tree)
value-deep p q v h = search (rules, values_depth-push, entry-deep)

comma-deep : (p q : FlowState) → with_comma p ≡ Ok q → place_depth q ≡ place_depth p
comma-deep p q h = grind arith

key-deep : (p q : FlowState) (k : Key) → with_key p k ≡ Ok q → place_depth q ≡ place_depth p
key-deep p q k h = grind arith

cut-deep : (p q : FlowState) (k : Key) → with_cut_key p k ≡ Ok q → ⊥
cut-deep (member vs) q k h = cc
cut-deep (behind_member vs) q k h = cc
cut-deep (key_place ws) q k h = let is =
    follows (new_key ws k) (let r : Checked FlowState = Err BadFlow in r) q h in cc
cut-deep (entry_value ws l) q k h = cc
cut-deep (behind_entry ws) q k h = cc

colon-deep : (p q : FlowState) (b : ℕ) → with_colon_scalar p b ≡ Ok q → ⊥
colon-deep (member vs) q b h = cc
colon-deep (behind_member vs) q b h = cc
colon-deep (key_place ws) q b h = cc
colon-deep (entry_value ws l) q b h = cc
colon-deep (behind_entry ws) q b h = cc

fault-deep : (p q : FlowState) (kind : YamlKind) → with_fault p kind ≡ Ok q → ⊥
fault-deep (member vs) q kind h = cc
fault-deep (behind_member vs) q kind h = cc
fault-deep (key_place ws) q kind h = cc
fault-deep (entry_value ws l) q kind h = cc
fault-deep (behind_entry ws) q kind h = cc

found-deep : (o : Option Value) (v : Value) → known_alias o ≡ Ok v → depth v.tree ≡ found_depth o
found-deep o v h = grind arith

alias-deep : (known : Anchors) (p q : FlowState) (name : List ℕ) → with_alias known p name ≡ Ok q
    → place_depth q ≤ max (place_depth p) (found_depth (lookup name known))
alias-deep known p q name h = search (rules, bound, value-deep, found-deep)

-- a token that is no bracket
token-deep : (known : Anchors) (line level : ℕ) (p q : FlowState) (m : Token) (n : ℕ)
    → with_token known line p m ≡ Ok q → place_depth p + level ≤ n → reach known level m ≤ n
    → place_depth q + level ≤ n
token-deep known line level p q (opening b) n h d r = cc
token-deep known line level p q (closing b) n h d r = cc
token-deep known line level p q comma n h d r = omega (arith, comma-deep p q h, d)
token-deep known line level p q colon n h d r = absurd (fault-deep p q BadScalar h)
token-deep known line level p q (scalar_token k) n h d r = omega (arith, value-deep)
token-deep known line level p q (key_token k) n h d r = omega (arith, key-deep p q k h, d)
token-deep known line level p q (cut_key k) n h d r = absurd (cut-deep p q k h)
token-deep known line level p q (colon_scalar b) n h d r = absurd (colon-deep p q b h)
token-deep known line level p q (alias_token name) n h d r = omega (arith, alias-deep)
token-deep known line level p q late_colon n h d r = cc
token-deep known line level p q (fault kind) n h d r = absurd (fault-deep p q kind h)

closes-deep : (line : ℕ) (p : FlowState) (v : Value) → closes line p ≡ Ok v
    → depth v.tree ≤ suc (place_depth p)
closes-deep line p v h = search (rules, list-depth, map-depth)

whole-reading : (v : Value) (good : Bool) (s : Reading) (n : ℕ)
    → (let r : Checked Reading = Ok (whole (v, good)) in r) ≡ Ok s → depth v.tree ≤ n → Within s n
whole-reading v good s n h d = let e : whole (v, good) ≡ s = cc in subst (λ x. Within x n) e d

open-reading : (good : Bool) (b : Bracket) (p : FlowState) (outer : List (Bracket × FlowState))
    (s : Reading) (n : ℕ) → (let r : Checked Reading = Ok (open_in good b p outer) in r) ≡ Ok s
    → Within (open_in good b p outer) n → Within s n
open-reading good b p outer s n h d = grind arith

into-deep : (v : Value) (good : Bool) (outer : List (Bracket × FlowState)) (s : Reading) (n : ℕ)
    → into (v, good) outer ≡ Ok s → depth v.tree + length outer ≤ n → Levels outer n → Within s n
into-deep v good [] s n h d l = whole-reading v good s n h (omega (arith, d))
into-deep v good (o ∷ outer) s n h d l =
    let (q, e, i) = bound (with_value o.1 v)
    (λ next. let r : Checked Reading = Ok (open_in (good && fits next) o.0 next outer) in r) s
    h in
    open-reading (good && fits q) o.0 q outer s n i
    (omega (arith, value-deep o.1 q v e, d, l.0), l.1)

moved-deep : (known : Anchors) (line : ℕ) (good : Bool) (b : Bracket) (p : FlowState)
    (outer : List (Bracket × FlowState)) (m : Token) (s : Reading) (n : ℕ) →
    moved good b outer (with_token known line p m) ≡ Ok s → Within (open_in good b p outer) n
    → reach known (suc (length outer)) m ≤ n → Within s n
moved-deep known line good b p outer m s n h d r =
    let (q, e, i) = bound (with_token known line p m)
    (λ next. let r : Checked Reading = Ok (open_in (good && fits next) b next outer) in r) s
    h in
    open-reading (good && fits q) b q outer s n i
    (token-deep known line (suc (length outer)) p q m n e d.0 r, d.1)

step-deep : (known : Anchors) (line : ℕ) (r s : Reading) (m : Token) (n : ℕ)
    → flow_step false known line r m ≡ Ok s → Within r n → reach known (level_of r) m ≤ n
    → Within s n
step-deep known line (open_in good b p outer) s (opening c) n h d r = grind (arith, nat_tests)
step-deep known line (open_in good b p outer) s (closing c) n h d r =
    let (v, e, i) = bound (closes line p) (λ v. ends_with b (Some c) >> into (v, good) outer) s h in
    let j = follows (ends_with b (Some c)) (into (v, good) outer) s i in
    into-deep v good outer s n j (omega (arith, closes-deep line p v e, d.0)) d.1
step-deep known line (open_in good b p outer) s comma n h d r = grind (arith, moved-deep)
step-deep known line (open_in good b p outer) s colon n h d r = grind (arith, moved-deep)
step-deep known line (open_in good b p outer) s (scalar_token k) n h d r =
    moved-deep known line good b p outer (scalar_token k) s n h d r
step-deep known line (open_in good b p outer) s (key_token k) n h d r = grind (arith, moved-deep)
step-deep known line (open_in good b p outer) s (cut_key k) n h d r = grind (arith, moved-deep)
step-deep known line (open_in good b p outer) s (colon_scalar k) n h d r = grind (arith, moved-deep)
step-deep known line (open_in good b p outer) s (alias_token k) n h d r = search (rules, moved-deep)
step-deep known line (open_in good b p outer) s late_colon n h d r = grind (arith, moved-deep)
step-deep known line (open_in good b p outer) s (fault k) n h d r = grind (arith, moved-deep)
step-deep known line (whole v) s (opening c) n h d r = cc
step-deep known line (whole v) s (closing c) n h d r = cc
step-deep known line (whole v) s comma n h d r = cc
step-deep known line (whole v) s colon n h d r = cc
step-deep known line (whole v) s (scalar_token k) n h d r = cc
step-deep known line (whole v) s (key_token k) n h d r = cc
step-deep known line (whole v) s (cut_key k) n h d r = cc
step-deep known line (whole v) s (colon_scalar k) n h d r = cc
step-deep known line (whole v) s (alias_token k) n h d r = cc
step-deep known line (whole v) s late_colon n h d r = cc
step-deep known line (whole v) s (fault k) n h d r = cc

step-level : (known : Anchors) (line : ℕ) (r s : Reading) (m : Token)
    → flow_step false known line r m ≡ Ok s → level_of s ≡ level_behind (level_of r) m
step-level known line r s m h = grind arith

steps-deep : (known : Anchors) (line : ℕ) (ms : List Token) (r s : Reading) (n : ℕ)
    → flow_steps false known line r ms ≡ Ok s → Within r n → height known (level_of r) ms ≤ n
    → Within s n
steps-deep known line [] r s n h d k = let e : r ≡ s = cc in subst (λ x. Within x n) e d
steps-deep known line (m ∷ ms) r s n h d k =
    let (q, e, i) =
    bound (flow_step false known line r m) (λ x. flow_steps false known line x ms) s h in
    steps-deep known line ms q s n i (step-deep known line r q m n e d (omega (arith, k)))
    (omega (arith, k, ap (λ l. height known l ms) (step-level known line r q m e)))

ended-deep : (r : Reading) (v : Value) (n : ℕ) → ended r ≡ Ok v → Within r n → depth v.tree ≤ n
ended-deep r v n h d = grind arith

first-within : (b : Bracket) (n : ℕ) → 1 ≤ n → Within (first_reading b) n
first-within b n h = grind arith

pub flow-height : (known : Anchors) (line : ℕ) (b : Bracket) (ms : List Token) (v : Value)
    → flow_value known line b ms ≡ Ok v → depth v.tree ≤ max 1 (height known 1 ms)
flow-height known line b ms v h =
    let (r, e, i) = bound (flow_steps false known line (first_reading b) ms) ended v
    (sym (flow-ended known line b ms) ∙ h) in
    let n = max 1 (height known 1 ms) in
    ended-deep r v n i (steps-deep known line ms (first_reading b) r n e
    (first-within b n (omega arith)) (omega arith))
