-- The values of words have each key of a map once.
use Rattle.std.proofs.Common.{◌≡◌, ℕ, Bool, true, false, List, [], ◌∷◌, ◌++◌, refl, sym, ap, subst}
use Rattle.std.proofs.Common.{append-nil, Option, Ok, Err, arith, rules}
use Rattle.std.proofs.lemmas.Bool.{or_parts, or_from}
use Rattle.std.specs.Prelude.{◌&&◌, ◌||◌, not}
use mathlib.Core.Bool.{cond}
use Rattle.rvs_tree.specs.Value.{Value, scalar_value, list_value, map_value, Written, has_key}
use Rattle.rvs_tree.specs.Value.{explicit_keys}
use Rattle.rvs_yaml_text.specs.Word.{Key, Content, Shape, dash, key, leaf, refused}
use Rattle.rvs_yaml_text.specs.Word.{Word, Head, Token}
use Rattle.rvs_yaml_text.specs.Word.{opening, closing, comma, colon, scalar_token, key_token}
use Rattle.rvs_yaml_text.specs.Word.{cut_key, colon_scalar, alias_token, late_colon, fault, Bracket}
use Rattle.rvs_yaml_text.specs.declared.kind.YamlKind.{YamlKind}
use Rattle.rvs_yaml.specs.Anchors.{Anchors, lookup, known_alias}
use Rattle.rvs_yaml.specs.Checks.{◌>>=◌, ◌>>◌, Checked}
use Rattle.rvs_yaml.specs.Entry.{written}
use Rattle.rvs_yaml.specs.Flow.{Nest, none, one, group, FlowState}
use Rattle.rvs_yaml.specs.Flow.{member}
use Rattle.rvs_yaml.specs.Flow.{behind_member, key_place, entry_value, behind_entry, first_place}
use Rattle.rvs_yaml.specs.Flow.{with_value, with_comma, with_key, with_cut_key}
use Rattle.rvs_yaml.specs.Flow.{with_colon_scalar, with_alias, with_fault, with_token, may_open}
use Rattle.rvs_yaml.specs.Flow.{closes, ends_with, fits, collection}
use Rattle.rvs_yaml.specs.Flow.{flow_value}
use Rattle.rvs_yaml.specs.Block.{Outline, end, below, Found, found, named, content_value, own_value}
use Rattle.rvs_yaml.specs.Block.{value_over, value_of, item_at, only_leaf, key_at, spelled}
use Rattle.rvs_yaml.specs.Block.{check_merge, block, items, entries, tree_of, outline}
use Rattle.rvs_normal.specs.Once.{KeysOnce}
use Rattle.std.proofs.lemmas.List.Folds.{list_any-append}
use Rattle.rvs_normal.proofs.Truths.{or-true}
use Rattle.rvs_normal.proofs.Apart.{eq-back}
use Rattle.rvs_normal.proofs.KeysOnce.{WrittenOwned, Apart, ValuesOwned, values-append}
use Rattle.rvs_normal.proofs.KeysOnce.{written-append, map-owned, list-owned, IsNew, apart-written}

-- ---- checks in order
pub record Then {A B : Type 0} (a : Checked A) (f : A → Checked B) (b : B) : Type 0 where
  pub value : A
  pub first : a ≡ Ok value
  pub next : f value ≡ Ok b

pub steps : {A B : Type 0} (a : Checked A) (f : A → Checked B) (b : B) → (a >>= f) ≡ Ok b
    → Then a f b
steps h = grind arith

-- ---- anchors
abbrev pub AnchorsOwned : Anchors → Type 0
AnchorsOwned [] = Unit {0}
AnchorsOwned (a ∷ more) = KeysOnce a.1.tree × AnchorsOwned more

anchors-append : (a b : Anchors) → AnchorsOwned a → AnchorsOwned b → AnchorsOwned (a ++ b)
anchors-append [] b h k = k
anchors-append (x ∷ xs) b h k = (h.0, anchors-append xs b h.1 k)

known-owned : (name : List ℕ) (known : Anchors) (v : Value) → AnchorsOwned known
    → known_alias (lookup name known) ≡ Ok v → KeysOnce v.tree
known-owned name [] v a h = cc
known-owned name (x ∷ xs) v a h = grind (arith, (known-owned name xs v a.1))

-- ---- flow
abbrev pub PlaceOwned : FlowState → Type 0
PlaceOwned (member vs) = ValuesOwned vs
PlaceOwned (behind_member vs) = ValuesOwned vs
PlaceOwned (key_place ws) = WrittenOwned ws × Apart (explicit_keys ws)
PlaceOwned (entry_value ws k) = WrittenOwned ws × Apart (explicit_keys ws) × IsNew ws k
PlaceOwned (behind_entry ws) = WrittenOwned ws × Apart (explicit_keys ws)

-- what an answer that is there has
abbrev pub Has : {A : Type 0} → (A → Type 0) → Checked A → Type 0
Has P (Ok x) = P x
Has P (Err e) = Unit {0}

has-then : {A B : Type 0} (P : A → Type 0) (Q : B → Type 0) (a : Checked A) (f : A → Checked B)
    → Has P a → ((x : A) → P x → Has Q (f x)) → Has Q (a >>= f)
has-then h e = grind arith

has-behind : {A B : Type 0} (Q : B → Type 0) (a : Checked A) (b : Checked B) → Has Q b
    → Has Q (a >> b)
has-behind h = grind arith

abbrev pub TreeOwned : Value → Type 0
TreeOwned v = KeysOnce v.tree

value-owned : (p : FlowState) (v : Value) → PlaceOwned p → KeysOnce v.tree
    → Has PlaceOwned (with_value p v)
value-owned p v o t = search (rules, values-append, written-append, apart-written)

key-owned : (p : FlowState) (k : Key) → PlaceOwned p → Has PlaceOwned (with_key p k)
key-owned p k o = grind arith

comma-owned : (p : FlowState) → PlaceOwned p → Has PlaceOwned (with_comma p)
comma-owned p o = grind arith

cut-owned : (p : FlowState) (k : Key) → Has PlaceOwned (with_cut_key p k)
cut-owned p k = grind arith

colon-owned : (p : FlowState) (b : ℕ) → Has PlaceOwned (with_colon_scalar p b)
colon-owned p b = grind arith

fault-owned : (p : FlowState) (kind : YamlKind) → Has PlaceOwned (with_fault p kind)
fault-owned p kind = grind arith

has-known : (name : List ℕ) (known : Anchors) → AnchorsOwned known
    → Has TreeOwned (known_alias (lookup name known))
has-known name known a = grind (arith, known-owned)

alias-owned : (known : Anchors) (p : FlowState) (name : List ℕ) → AnchorsOwned known → PlaceOwned p
    → Has PlaceOwned (with_alias known p name)
alias-owned known (member vs) [] a o = tt
alias-owned known (member vs) (c ∷ cs) a o = grind (arith, has-then, has-known, values-append)
alias-owned known (entry_value ws k) [] a o = tt
alias-owned known (entry_value ws k) (c ∷ cs) a o =
    grind (arith, has-then, has-known, written-append, apart-written)
alias-owned known (key_place ws) name a o = tt
alias-owned known (behind_member vs) name a o = tt
alias-owned known (behind_entry ws) name a o = tt

token-owned : (known : Anchors) (line : ℕ) (p : FlowState) (t : Token) → AnchorsOwned known
    → PlaceOwned p → Has PlaceOwned (with_token known line p t)
token-owned known line p (opening b) a o = tt
token-owned known line p (closing b) a o = tt
token-owned known line p comma a o = comma-owned p o
token-owned known line p colon a o = fault-owned p _
token-owned known line p (scalar_token k) a o = value-owned p (scalar_value k.name line) o tt
token-owned known line p (key_token k) a o = key-owned p k o
token-owned known line p (cut_key k) a o = cut-owned p k
token-owned known line p (colon_scalar b) a o = colon-owned p b
token-owned known line p (alias_token name) a o = alias-owned known p name a o
token-owned known line p late_colon a o = tt
token-owned known line p (fault kind) a o = fault-owned p kind

closes-owned : (line : ℕ) (p : FlowState) → PlaceOwned p → Has TreeOwned (closes line p)
closes-owned line (member vs) o = list-owned line vs o
closes-owned line (behind_member vs) o = list-owned line vs o
closes-owned line (key_place ws) o = map-owned line ws o.1 o.0
closes-owned line (entry_value ws k) o = tt
closes-owned line (behind_entry ws) o = map-owned line ws o.1 o.0

first-owned : (b : Bracket) → PlaceOwned (first_place b)
first-owned b = grind arith

abbrev pub FlowOwned : Value × Bool → Type 0
FlowOwned v = KeysOnce v.0.tree

pub collection-owned : (known : Anchors) (line : ℕ) (good : Bool) (p : FlowState) (n : Nest)
    → AnchorsOwned known → PlaceOwned p → Has FlowOwned (collection known line good p n)
collection-owned known line good p none a o = grind (arith, has-then, closes-owned)
collection-owned known line good p (one m rest) a o =
    has-then PlaceOwned FlowOwned (with_token known line p m)
    (λ next. collection known line (good && fits next) next rest)
    (token-owned known line p m a o)
    (λ next t. collection-owned known line (good && fits next) next rest a t)
collection-owned known line good p (group b inner last rest) a o =
    has-behind FlowOwned (may_open p) _
    (has-then FlowOwned FlowOwned (collection known line good (first_place b) inner) _
    (collection-owned known line good (first_place b) inner a (first-owned b))
    (λ v t. has-behind FlowOwned (ends_with b last) _
    (has-then PlaceOwned FlowOwned (with_value p v.0) _ (value-owned p v.0 o t)
    (λ next u. collection-owned known line (v.1 && fits next) next rest a u))))

flow-owned : (known : Anchors) (line : ℕ) (b : Bracket) (tokens : List Token) → AnchorsOwned known
    → Has TreeOwned (flow_value known line b tokens)
flow-owned known line b tokens a =
    grind (arith, has-then, collection-owned, first-owned, has-behind)

-- ---- blocks
content-owned : (known : Anchors) (line : ℕ) (c : Content) → AnchorsOwned known
    → Has TreeOwned (content_value known line c)
content-owned known line c a = search (rules, has-then, has-known, has-behind, flow-owned)

own-value-owned : (known : Anchors) (line : ℕ) (s : Shape) → AnchorsOwned known
    → Has TreeOwned (own_value known line s)
own-value-owned known line s a = search (rules, content-owned)

abbrev pub FoundOwned : Found Value → Type 0
FoundOwned g = KeysOnce g.value.tree × AnchorsOwned g.anchors

named-owned : (n : Option (List ℕ)) (g : Found Value) → FoundOwned g → FoundOwned (named n g)
named-owned n g h = search (rules, anchors-append)

over-owned : (own : Value) (h : Head) (inner : Outline) (b : Checked (Found Value))
    → KeysOnce own.tree → Has FoundOwned b → Has FoundOwned (value_over own h inner b)
over-owned own h inner b o r = grind (arith, has-then, named-owned, has-behind)

pub word-owned : (known : Anchors) (w : Word) (inner : Outline) (b : Checked (Found Value))
    → AnchorsOwned known → Has FoundOwned b → Has FoundOwned (value_of known w inner b)
word-owned known w inner b a r = grind (arith, has-then, own-value-owned, over-owned)

abbrev pub ItemsOwned : Found (List Value) → Type 0
ItemsOwned g = ValuesOwned g.value × AnchorsOwned g.anchors

-- none of these keys was seen
abbrev pub NoneSeen : List (List ℕ) → List (List ℕ) → Type 0
NoneSeen seen [] = Unit {0}
NoneSeen seen (k ∷ ks) = (has_key k seen ≡ false) × NoneSeen seen ks

abbrev pub EntriesFound : List (List ℕ) → Found (List Written) → Type 0
EntriesFound seen g = WrittenOwned g.value × Apart (explicit_keys g.value)
    × NoneSeen seen (explicit_keys g.value) × AnchorsOwned g.anchors

pub key-new : {B : Type 0} (Q : B → Type 0) (column : ℕ) (seen : List (List ℕ)) (at : ℕ) (s : Shape)
    (f : Key → Checked B)
    → ((k : Key) → (k.merges || not (has_key k.name seen)) ≡ true → Has Q (f k))
    → Has Q (key_at column seen at s >>= f)
key-new h = grind arith

-- ---- lists and maps in blocks
none-seen-less : (seen : List (List ℕ)) (k : List ℕ) (ks : List (List ℕ))
    → NoneSeen (seen ++ (k ∷ [])) ks → NoneSeen seen ks × (has_key k ks ≡ false)
none-seen-less seen k [] n = (tt, refl)
none-seen-less seen k (j ∷ ks) n =
    grind (arith, or_parts, list_any-append, or_from, eq-back, (none-seen-less seen k ks n.1))

more-written : (seen : List (List ℕ)) (k : Key) (v : Value) (ws : List Written)
    → (k.merges || not (has_key k.name seen)) ≡ true
    → Apart (explicit_keys ws) → NoneSeen (seen ++ spelled k) (explicit_keys ws)
    → Apart (explicit_keys (written k v ∷ ws)) × NoneSeen seen (explicit_keys (written k v ∷ ws))
more-written seen k v ws new a n = grind (arith, append-nil, none-seen-less, or-true)

first-written : (k : Key) (v : Value) (ws : List Written) → Apart (explicit_keys ws)
    → NoneSeen (spelled k) (explicit_keys ws) → Apart (explicit_keys (written k v ∷ ws))
first-written k v ws a n = by-case k.merges refl
  where
    by-case : (b : Bool) → k.merges ≡ b → Apart (explicit_keys (written k v ∷ ws))
    by-case true e = subst Apart (sym (ap (λ b. cond b [] (k.name ∷ []) ++ explicit_keys ws) e)) a
    by-case false e =
        let less = none-seen-less [] k.name (explicit_keys ws)
        (subst (λ s. NoneSeen s (explicit_keys ws)) (ap (λ b. cond b [] (k.name ∷ [])) e) n) in
        subst Apart (sym (ap (λ b. cond b [] (k.name ∷ []) ++ explicit_keys ws) e)) (less.1, a)

first-owned-block : (known : Anchors) (line column : ℕ) (rest : Outline) (first : Found Value)
    (s : Shape)
    → AnchorsOwned known → FoundOwned first
    → Has ItemsOwned (items (first.anchors ++ known) column rest)
    → ((seen : List (List ℕ))
    → Has (EntriesFound seen) (entries (first.anchors ++ known) column seen rest))
    → Has FoundOwned (elim s [
      | dash b ↦ items (first.anchors ++ known) column rest >>= (λ m. Ok
          (found (list_value line (first.value ∷ m.value)) (m.anchors ++ first.anchors)))
      | key k b content ↦ check_merge k first.value >> (entries (first.anchors ++ known) column
          (spelled k) rest >>= (λ m. Ok
          (found (map_value line (written k first.value ∷ m.value)) (m.anchors ++ first.anchors))))
      | _ ↦ only_leaf rest >> Ok first
    ])
first-owned-block known line column rest first (dash b) a f is es =
    has-then ItemsOwned FoundOwned (items (first.anchors ++ known) column rest) _ is
    (λ m o. (
      list-owned line (first.value ∷ m.value) (f.0, o.0),
      anchors-append m.anchors first.anchors o.1 f.1,
    ))
first-owned-block known line column rest first (key k b content) a f is es =
    has-behind FoundOwned (check_merge k first.value) _
    (has-then (EntriesFound (spelled k)) FoundOwned
    (entries (first.anchors ++ known) column (spelled k) rest) _ (es (spelled k))
    (λ m o. (
      map-owned line (written k first.value ∷ m.value)
          (first-written k first.value m.value o.1 o.2) (
            f.0,
            o.0,
          ),
      anchors-append m.anchors first.anchors o.3 f.1,
    )))
first-owned-block known line column rest first (leaf c) a f is es = grind (arith, has-behind)
first-owned-block known line column rest first (refused kind) a f is es = grind (arith, has-behind)

mutual
  pub block-owned : (known : Anchors) (line : ℕ) (o : Outline) → AnchorsOwned known
      → Has FoundOwned (block known line o)
  block-owned known line end a = (tt, tt)
  block-owned known line (below w inner rest) a =
      has-then FoundOwned FoundOwned (value_of known w inner (block known w.line inner)) _
      (word-owned known w inner (block known w.line inner) a (block-owned known w.line inner a))
      (λ first f. first-owned-block known w.line w.column rest first w.shape a f
      (items-owned-block (first.anchors ++ known) w.column rest
      (anchors-append first.anchors known f.1 a))
      (λ seen. entries-owned-block (first.anchors ++ known) w.column seen rest
      (anchors-append first.anchors known f.1 a)))

  items-owned-block : (known : Anchors) (column : ℕ) (o : Outline) → AnchorsOwned known
      → Has ItemsOwned (items known column o)
  items-owned-block known column end a = (tt, tt)
  items-owned-block known column (below w inner rest) a =
      has-behind ItemsOwned (item_at column w) _
      (has-then FoundOwned ItemsOwned (value_of known w inner (block known w.line inner)) _
      (word-owned known w inner (block known w.line inner) a (block-owned known w.line inner a))
      (λ first f. has-then ItemsOwned ItemsOwned (items (first.anchors ++ known) column rest) _
      (items-owned-block (first.anchors ++ known) column rest
      (anchors-append first.anchors known f.1 a))
      (λ others o. ((f.0, o.0), anchors-append others.anchors first.anchors o.1 f.1))))

  entries-owned-block : (known : Anchors) (column : ℕ) (seen : List (List ℕ)) (o : Outline)
      → AnchorsOwned known → Has (EntriesFound seen) (entries known column seen o)
  entries-owned-block known column seen end a = (tt, tt, tt, tt)
  entries-owned-block known column seen (below w inner rest) a =
      key-new (EntriesFound seen) column seen w.column w.shape _
      (λ k new. has-then FoundOwned (EntriesFound seen)
      (value_of known w inner (block known w.line inner)) _ (word-owned known w inner
      (block known w.line inner) a (block-owned known w.line inner a))
      (λ first f. has-behind (EntriesFound seen) (check_merge k first.value) _
      (has-then (EntriesFound (seen ++ spelled k)) (EntriesFound seen)
      (entries (first.anchors ++ known) column (seen ++ spelled k) rest) _
      (entries-owned-block (first.anchors ++ known) column (seen ++ spelled k) rest
      (anchors-append first.anchors known f.1 a))
      (λ others o. let m = more-written seen k first.value others.value new o.1 o.2 in
      ((f.0, o.0), m.0, m.1, anchors-append others.anchors first.anchors o.3 f.1)))))

pub tree-owned : (ws : List Word) → Has TreeOwned (tree_of ws)
tree-owned ws = has-then FoundOwned TreeOwned (block [] 1 (outline ws)) (λ g. Ok g.value)
    (block-owned [] 1 (outline ws) tt) (λ g h. h.0)
