-- What is read where other values stand for those of the anchors.
use Rattle.std.proofs.Common.{◌≡◌, ℕ, Bool, true, false, cond, List, [], ◌∷◌, ◌++◌, map, Option}
use Rattle.std.proofs.Common.{Some, Ok, refl, sym, ap, ◌∙◌, arith, rules}
use Rattle.std.specs.Prelude.{◌&&◌, ◌||◌, not, option_map, if◌then◌else◌}
use Rattle.rvs_base.specs.Answers.{seen}
use Rattle.rvs_tree.specs.Data.{Data, scalar, sequence, no_items, items_of}
use Rattle.rvs_tree.specs.Value.{Value, Written, scalar_value, list_value, map_value, trees, plus}
use Rattle.rvs_tree.specs.Value.{nodes_from, written_nodes_from, text_nodes, is_map_or_empty}
use Rattle.rvs_tree.specs.Value.{are_maps_or_empty, is_mergeable, explicit_keys}
use Rattle.rvs_tree.specs.Standin.{thin, standin, formed_value}
use Rattle.rvs_tree.proofs.Sums.{map-append}
use Rattle.rvs_yaml_text.specs.Word.{Key, Bracket, Token, opening, closing, comma}
use Rattle.rvs_yaml_text.specs.Word.{colon, scalar_token, key_token, cut_key, colon_scalar}
use Rattle.rvs_yaml_text.specs.Word.{alias_token, late_colon, fault}
use Rattle.rvs_yaml.specs.Checks.{Checked, ◌>>=◌, ◌>>◌}
use Rattle.rvs_yaml.specs.Anchors.{Anchors, lookup, known_alias, thinned, formed}
use Rattle.rvs_yaml.specs.Entry.{written}
use Rattle.rvs_yaml.specs.Flow.{FlowState, member, behind_member, key_place, entry_value}
use Rattle.rvs_yaml.specs.Flow.{behind_entry}
use Rattle.rvs_yaml.specs.Flow.{first_place, new_key, with_value, with_comma, with_key}
use Rattle.rvs_yaml.specs.Flow.{with_cut_key, with_colon_scalar, with_alias, with_fault, with_token}
use Rattle.rvs_yaml.specs.Flow.{may_open, closes, ends_with, entry_fits, last_fits, fits}
use Rattle.rvs_yaml.specs.Flow.{flow_value}
use Rattle.rvs_yaml.specs.FlowSteps.{Reading, open_in, whole, closed_by, into, moved, flow_step}
use Rattle.rvs_yaml.specs.FlowSteps.{flow_steps}
use Rattle.rvs_yaml.specs.FlowParts.{first_reading, ended, formed_flow}
use Rattle.rvs_yaml_text.specs.declared.kind.YamlKind.{YamlKind}
use Rattle.rvs_yaml_text.specs.declared.kind.YamlKind.TheVariants.{BadScalar}
use Rattle.rvs_yaml.proofs.Outlined.{bind_same, then_same}
use Rattle.rvs_yaml.proofs.FlowRuns.{flow-ended}

-- what stands for a tree can be merged as the tree can
map-by : (b : Bool) (line : ℕ)
    → is_map_or_empty (if b then sequence no_items line else scalar (120 ∷ []) line) ≡ false
map-by b line = grind arith

pub thin-map : (d : Data) → is_map_or_empty (thin d) ≡ is_map_or_empty d
thin-map d = grind arith

pub thin-mergeable : (d : Data) → is_mergeable (thin d) ≡ is_mergeable d
thin-mergeable d = grind arith

thin-items : (vs : List Value) → are_maps_or_empty (items_of (trees (map standin vs)))
    ≡ are_maps_or_empty (items_of (trees vs))
thin-items [] = refl
thin-items (v ∷ vs) = simp (thin-map, (thin-items vs))

thin-nodes : (n : ℕ) (vs : List Value) → nodes_from n (map standin vs) ≡ nodes_from n vs
thin-nodes n [] = refl
thin-nodes n (v ∷ vs) = thin-nodes (plus n v.nodes) vs

abbrev pub thin_written : Written → Written
thin_written w = record { key = w.key; merges = w.merges; value = standin w.value }

written-nodes : (n : ℕ) (ws : List Written)
    → written_nodes_from n (map thin_written ws) ≡ written_nodes_from n ws
written-nodes n [] = refl
written-nodes n (w ∷ ws) = written-nodes (plus (plus n (text_nodes w.key)) w.value.nodes) ws

abbrev with_both : Data → ℕ → Value
with_both d n = record { tree = d; nodes = n }

thin-list : (line : ℕ) (vs : List Value)
    → standin (list_value line (map standin vs)) ≡ standin (list_value line vs)
thin-list line vs = simp (thin-items, thin-nodes)

thin-map_value : (line : ℕ) (ws : List Written)
    → standin (map_value line (map thin_written ws)) ≡ standin (map_value line ws)
thin-map_value line ws = ap (with_both (thin (map_value line ws).tree)) (written-nodes 1 ws)

thin-explicit : (ws : List Written) → explicit_keys (map thin_written ws) ≡ explicit_keys ws
thin-explicit [] = refl
thin-explicit (w ∷ ws) = ap (λ ks. cond w.merges [] (w.key ∷ []) ++ ks) (thin-explicit ws)

thin-fits : (w : Written) → entry_fits (thin_written w) ≡ entry_fits w
thin-fits w = ap (λ b. not w.merges || b) (thin-mergeable w.value.tree)

thin-last : (ws : List Written) → last_fits (map thin_written ws) ≡ last_fits ws
thin-last [] = refl
thin-last (w ∷ []) = thin-fits w
thin-last (w ∷ u ∷ ws) = thin-last (u ∷ ws)

-- places, with what stands for their values
abbrev pub thin_place : FlowState → FlowState
thin_place (member vs) = member (map standin vs)
thin_place (behind_member vs) = behind_member (map standin vs)
thin_place (key_place ws) = key_place (map thin_written ws)
thin_place (entry_value ws k) = entry_value (map thin_written ws) k
thin_place (behind_entry ws) = behind_entry (map thin_written ws)

place-fits : (p : FlowState) → fits (thin_place p) ≡ fits p
place-fits p = search (rules, thin-last)

abbrev thin_level : Bracket × FlowState → Bracket × FlowState
thin_level o = (o.0, thin_place o.1)

abbrev pub thin_reading : Reading → Reading
thin_reading (open_in good b place outer) = open_in good b (thin_place place) (map thin_level outer)
thin_reading (whole p) = whole (standin p.0, p.1)

seen-bind : {A B C : Type 0} (f : B → C) (m : Checked A) (g : A → Checked B)
    → seen f (m >>= g) ≡ (m >>= λ x. seen f (g x))
seen-bind = grind arith

seen-then : {A B C : Type 0} (f : B → C) (m : Checked A) (g : Checked B)
    → seen f (m >> g) ≡ (m >> seen f g)
seen-then = grind arith

bind-seen : {A B C : Type 0} (f : A → B) (m : Checked A) (g : B → Checked C)
    → (seen f m >>= g) ≡ (m >>= λ x. g (f x))
bind-seen = grind arith

-- a value comes next
thin-value : (p : FlowState) (v : Value)
    → with_value (thin_place p) (standin v) ≡ seen thin_place (with_value p v)
thin-value p v = search (rules, map-append)

thin-new : (ws : List Written) (k : Key) → new_key (map thin_written ws) k ≡ new_key ws k
thin-new ws k = simp thin-explicit

thin-lookup-by : (b : Bool) (v : Value) (o p : Option Value) → o ≡ option_map standin p
    → cond b (Some (standin v)) o ≡ option_map standin (cond b (Some v) p)
thin-lookup-by b v o p h = grind arith

thin-lookup : (name : List ℕ) (known : Anchors)
    → lookup name (thinned known) ≡ option_map standin (lookup name known)
thin-lookup name [] = refl
thin-lookup name (a ∷ more) = grind (arith, thin-lookup-by, (thin-lookup name more))

found-alias : (o : Option Value)
    → known_alias (option_map standin o) ≡ seen standin (known_alias o)
found-alias o = grind arith

thin-known : (name : List ℕ) (known : Anchors)
    → known_alias (lookup name (thinned known)) ≡ seen standin (known_alias (lookup name known))
thin-known name known = ap known_alias (thin-lookup name known) ∙ found-alias (lookup name known)

same-alias : (o : Option Value) → known_alias o ≡ seen (formed_value false) (known_alias o)
same-alias o = grind arith

pub formed-alias : (poor : Bool) (name : List ℕ) (known : Anchors)
    → known_alias (lookup name (formed poor known))
    ≡ seen (formed_value poor) (known_alias (lookup name known))
formed-alias poor name known = search (rules, same-alias, thin-known)

alias-into : (known : Anchors) (name : List ℕ) (f : Value → FlowState) (g : Value → FlowState)
    → ((v : Value) → f (standin v) ≡ thin_place (g v)) →
    (known_alias (lookup name (thinned known)) >>= λ v. Ok (f v))
    ≡ seen thin_place (known_alias (lookup name known) >>= λ v. Ok (g v))
alias-into known name f g h = grind (arith, thin-known, bind-seen, bind_same, seen-bind)

thin-alias : (known : Anchors) (p : FlowState) (name : List ℕ)
    → with_alias (thinned known) (thin_place p) name ≡ seen thin_place (with_alias known p name)
thin-alias known (member vs) [] = refl
thin-alias known (entry_value ws k) [] = refl
thin-alias known (member vs) (b ∷ bs) = alias-into known (b ∷ bs) _
    (λ v. behind_member (vs ++ v ∷ []))
    (λ v. ap (λ us. behind_member us) (sym (map-append standin vs (v ∷ []))))
thin-alias known (entry_value ws k) (b ∷ bs) = alias-into known (b ∷ bs) _
    (λ v. behind_entry (ws ++ written k v ∷ []))
    (λ v. ap (λ us. behind_entry us) (sym (map-append thin_written ws (written k v ∷ []))))
thin-alias known (key_place ws) [] = refl
thin-alias known (key_place ws) (b ∷ bs) = refl
thin-alias known (behind_member vs) [] = refl
thin-alias known (behind_member vs) (b ∷ bs) = refl
thin-alias known (behind_entry ws) [] = refl
thin-alias known (behind_entry ws) (b ∷ bs) = refl

thin-comma : (p : FlowState) → with_comma (thin_place p) ≡ seen thin_place (with_comma p)
thin-comma p = grind arith

thin-key : (p : FlowState) (k : Key) → with_key (thin_place p) k ≡ seen thin_place (with_key p k)
thin-key p k = search (rules, thin-new, seen-then)

thin-cut : (p : FlowState) (k : Key)
    → with_cut_key (thin_place p) k ≡ seen thin_place (with_cut_key p k)
thin-cut p k = search (rules, thin-new, seen-then)

thin-colon : (p : FlowState) (b : ℕ)
    → with_colon_scalar (thin_place p) b ≡ seen thin_place (with_colon_scalar p b)
thin-colon p b = grind arith

thin-fault : (p : FlowState) (kind : YamlKind)
    → with_fault (thin_place p) kind ≡ seen thin_place (with_fault p kind)
thin-fault p kind = grind arith

thin-token : (known : Anchors) (line : ℕ) (p : FlowState) (m : Token)
    → with_token (thinned known) line (thin_place p) m
    ≡ seen thin_place (with_token known line p m)
thin-token known line p (opening b) = refl
thin-token known line p (closing b) = refl
thin-token known line p comma = thin-comma p
thin-token known line p colon = thin-fault p BadScalar
thin-token known line p (scalar_token k) = thin-value p (scalar_value k.name line)
thin-token known line p (key_token k) = thin-key p k
thin-token known line p (cut_key k) = thin-cut p k
thin-token known line p (colon_scalar b) = thin-colon p b
thin-token known line p (alias_token name) = thin-alias known p name
thin-token known line p late_colon = refl
thin-token known line p (fault kind) = thin-fault p kind

thin-open : (p : FlowState) → may_open (thin_place p) ≡ may_open p
thin-open p = grind arith

thin-closes : (line : ℕ) (p : FlowState)
    → closed_by true line (thin_place p) ≡ seen standin (closes line p)
thin-closes line (member vs) = ap (λ v. Ok v) (thin-list line vs)
thin-closes line (behind_member vs) = ap (λ v. Ok v) (thin-list line vs)
thin-closes line (key_place ws) = ap (λ v. Ok v) (thin-map_value line ws)
thin-closes line (entry_value ws k) = refl
thin-closes line (behind_entry ws) = ap (λ v. Ok v) (thin-map_value line ws)

thin-moved : (known : Anchors) (good : Bool) (b : Bracket) (outer : List (Bracket × FlowState))
    (m : Checked FlowState) → moved good b (map thin_level outer) (seen thin_place m) ≡ seen
    thin_reading (moved good b outer m)
thin-moved known good b outer m = search (rules, place-fits)

into-by : (good : Bool) (b : Bracket) (outer : List (Bracket × FlowState)) (m : Checked FlowState) →
    (seen thin_place m >>= λ next. Ok (open_in (good && fits next) b next (map thin_level outer)))
    ≡ seen thin_reading (m >>= λ next. Ok (open_in (good && fits next) b next outer))
into-by good b outer m = search (rules, place-fits)

thin-into : (v : Value) (good : Bool) (outer : List (Bracket × FlowState))
    → into (standin v, good) (map thin_level outer) ≡ seen thin_reading (into (v, good) outer)
thin-into v good [] = refl
thin-into v good (o ∷ outer) = ap (λ m. m >>= λ next. let r : Checked Reading = Ok
    (open_in (good && fits next) o.0 next (map thin_level outer)) in r) (thin-value o.1 v) ∙ into-by
    good o.0 outer (with_value o.1 v)

thin-close : (line : ℕ) (good : Bool) (b c : Bracket) (outer : List (Bracket × FlowState))
    (m : Checked Value) →
    (seen standin m >>= λ v. ends_with b (Some c) >> into (v, good) (map thin_level outer))
    ≡ seen thin_reading (m >>= λ v. ends_with b (Some c) >> into (v, good) outer)
thin-close line good b c outer m = search (rules, then_same, thin-into, seen-then)

first-thin : (b : Bracket) → thin_place (first_place b) ≡ first_place b
first-thin b = grind arith

thin-opening : (good : Bool) (b c : Bracket) (p : FlowState) (outer : List (Bracket × FlowState)) →
    (may_open (thin_place p) >> (let r : Checked Reading = Ok
    (open_in good c (first_place c) ((b, thin_place p) ∷ map thin_level outer)) in r)) ≡ seen
    thin_reading (may_open p >> Ok (open_in good c (first_place c) ((b, p) ∷ outer)))
thin-opening good b c p outer = simp (thin-open, then_same, first-thin, seen-then)

thin-step : (known : Anchors) (line : ℕ) (r : Reading) (m : Token)
    → flow_step true (thinned known) line (thin_reading r) m
    ≡ seen thin_reading (flow_step false known line r m)
thin-step known line (open_in good b p outer) (opening c) = thin-opening good b c p outer
thin-step known line (open_in good b p outer) (closing c) = simp (thin-closes, thin-close)
thin-step known line (open_in good b p outer) comma = simp (thin-token, thin-moved)
thin-step known line (open_in good b p outer) colon = simp (thin-token, thin-moved)
thin-step known line (open_in good b p outer) (scalar_token k) = simp (thin-token, thin-moved)
thin-step known line (open_in good b p outer) (key_token k) = simp (thin-token, thin-moved)
thin-step known line (open_in good b p outer) (cut_key k) = simp (thin-token, thin-moved)
thin-step known line (open_in good b p outer) (colon_scalar k) = simp (thin-token, thin-moved)
thin-step known line (open_in good b p outer) (alias_token k) = simp (thin-token, thin-moved)
thin-step known line (open_in good b p outer) late_colon = grind (arith, thin-token, thin-moved)
thin-step known line (open_in good b p outer) (fault k) = simp (thin-token, thin-moved)
thin-step known line (whole v) (opening c) = refl
thin-step known line (whole v) (closing c) = refl
thin-step known line (whole v) comma = refl
thin-step known line (whole v) colon = refl
thin-step known line (whole v) (scalar_token k) = refl
thin-step known line (whole v) (key_token k) = refl
thin-step known line (whole v) (cut_key k) = refl
thin-step known line (whole v) (colon_scalar k) = refl
thin-step known line (whole v) (alias_token k) = refl
thin-step known line (whole v) late_colon = refl
thin-step known line (whole v) (fault k) = refl

thin-steps : (known : Anchors) (line : ℕ) (ms : List Token) (r : Reading)
    → flow_steps true (thinned known) line (thin_reading r) ms
    ≡ seen thin_reading (flow_steps false known line r ms)
thin-steps known line [] r = refl
thin-steps known line (m ∷ ms) r =
    ap (λ n. n >>= λ s. flow_steps true (thinned known) line s ms) (thin-step known line r m)
    ∙ bind-seen thin_reading (flow_step false known line r m)
    (λ s. flow_steps true (thinned known) line s ms)
    ∙ bind_same (flow_step false known line r m) _ _ (λ s. thin-steps known line ms s)
    ∙ sym (seen-bind thin_reading (flow_step false known line r m)
    (λ s. flow_steps false known line s ms))

ended-thin : (r : Reading) → ended (thin_reading r) ≡ seen standin (ended r)
ended-thin r = grind arith

first-reading : (b : Bracket) → first_reading b ≡ thin_reading (first_reading b)
first-reading b = grind arith

-- Where other values stand for those of the anchors, a collection has the same faults, and else
-- what stands for its value.
pub thin-flow : (known : Anchors) (line : ℕ) (b : Bracket) (ms : List Token)
    → formed_flow true (thinned known) line b ms ≡ seen standin (flow_value known line b ms)
thin-flow known line b ms =
    simp (first-reading, thin-steps, bind-seen, bind_same, ended-thin, seen-bind, flow-ended)
