-- Each word of a line is below the one before it.
use Rattle.std.proofs.Common.{◌≡◌, ℕ, suc, ◌<◌, Bool, true, false, List, [], ◌∷◌, Option}
use Rattle.std.proofs.Common.{Ok, arith}
use Rattle.std.specs.Prelude.{◌&&◌, ◌==◌, if◌then◌else◌, cond}
use Rattle.rvs_tree.specs.Value.{Value}
use Rattle.rvs_yaml_text.specs.Word.{Shape, dash, refused, Word, Head, head_of, is_below}
use Rattle.rvs_yaml_text.specs.Word.{opens_block}
use Rattle.rvs_yaml_text.specs.Scalar.{is_blank, starts_with, ends_indicator}
use Rattle.rvs_yaml_text.specs.Text.{word_at, word_of, words_at, last_words, line_words, is_mark}
use Rattle.rvs_yaml_text.specs.Text.{item_name, anchored_shape, anchor_split, shape_from, key_of}
use Rattle.rvs_yaml.specs.Checks.{◌>>=◌, ◌>>◌, check}
use Rattle.rvs_yaml.specs.Block.{Found, check_merge}
use Rattle.rvs_yaml.specs.Stack.{Done, done_items, done_entries, alone, Open, begins, own_found}
use Rattle.rvs_yaml.specs.Stack.{closed_into, advanced_as, advanced, settled, steps}
use Rattle.rvs_yaml.specs.Front.{checked_front}
use Rattle.rvs_yaml.specs.Reach.{KeepsDepth}
use Rattle.rvs_yaml.proofs.Sketching.{lt_test}
use Rattle.rvs_yaml.proofs.Reaching.{then-ok, bind-ok, Below, Follows, Lined, words-kept}
use Rattle.rvs_yaml_text.specs.declared.kind.YamlKind.{YamlKind}
use Rattle.rvs_yaml_text.specs.declared.kind.YamlKind.TheVariants.{TabIndent, Unsupported}

-- a line that is refused wherever it stands
no-next : (d : Done) (column : ℕ) (v : Value) (line at : ℕ) (kind : YamlKind) (e : Done)
    → advanced_as d column v (word_at line at (refused kind)) ≡ Ok e → ⊥
no-next (done_items vs) column v line at kind e h = cc
no-next (done_entries ws k) column v line at kind e h = let parts =
    then-ok (check_merge k v) _ e h in let bad = parts.1 in cc
no-next alone column v line at kind e h = cc

no-advance : (b : Open) (g : Found Value) (bs : List Open) (line at : ℕ) (kind : YamlKind)
    (cs : List Open) → advanced b g bs (word_at line at (refused kind)) ≡ Ok cs → ⊥
no-advance b g bs line at kind cs h =
    let a = bind-ok (advanced_as b.done b.column g.value (word_at line at (refused kind))) _ cs h in
    no-next b.done b.column g.value line at kind a.value a.is

no-settling-by : (t : Bool) (b outer : Open) (g : Found Value) (bs : List Open) (line at : ℕ)
    (kind : YamlKind) (cs : List Open) →
    cond t (advanced b g (outer ∷ bs) (word_at line at (refused kind)))
    (closed_into b g outer.head.anchor
    >>= λ k. settled k outer bs (word_at line at (refused kind))) ≡ Ok cs →
    ((k : Found Value) → settled k outer bs (word_at line at (refused kind)) ≡ Ok cs → ⊥) → ⊥
no-settling-by true b outer g bs line at kind cs h next =
    no-advance b g (outer ∷ bs) line at kind cs h
no-settling-by false b outer g bs line at kind cs h next =
    let c = bind-ok (closed_into b g outer.head.anchor)
    (λ k. settled k outer bs (word_at line at (refused kind))) cs h in
    next c.value c.rest

no-settling : (bs : List Open) (b : Open) (g : Found Value) (line at : ℕ) (kind : YamlKind)
    (cs : List Open) → settled g b bs (word_at line at (refused kind)) ≡ Ok cs → ⊥
no-settling [] b g line at kind cs h = no-advance b g [] line at kind cs h
no-settling (outer ∷ bs) b g line at kind cs h =
    no-settling-by (is_below outer.head (word_at line at (refused kind))) b outer g bs line at kind
    cs h (λ k i. no-settling bs outer k line at kind cs i)

no-step-by : (t : Bool) (b : Open) (bs : List Open) (line at : ℕ) (kind : YamlKind) (cs : List Open)
    →
    cond t (check (opens_block b.head.sort) Unsupported >> begins (b ∷ bs)
    (word_at line at (refused kind))) (settled (own_found b) b bs
    (word_at line at (refused kind))) ≡ Ok cs → ⊥
no-step-by true b bs line at kind cs h = let bad =
    (then-ok (check (opens_block b.head.sort) Unsupported) _ cs h).1 in cc
no-step-by false b bs line at kind cs h = no-settling bs b (own_found b) line at kind cs h

no-below : (h : Head) (line at : ℕ) (kind : YamlKind) → Below h (word_at line at (refused kind))
no-below h line at kind bs b cs e s = grind (arith, no-step-by)

right-below : (h : Head) (line column : ℕ) (s : Shape) → h.column < column
    → Below h (word_at line column s)
right-below h line column s l bs b cs e k = grind (arith, lt_test)

choose : {A : Type 0} (P : A → Type 0) (t : Bool) (x y : A) → P x → P y
    → P (elim t as (λ _. A) [ true ↦ x | false ↦ y ])
choose h e = grind arith

follows-name : (h : Head) (line column : ℕ) (o : Option Shape) → h.column < column
    → Follows h (word_of line column o)
follows-name h line column o l = grind arith

-- a tab in the indentation
abbrev tab-word : ℕ → Bool → ℕ → Word
tab-word line item column = word_at line (if item then column else 0) (refused TabIndent)

follows-last : (h : Head) (line : ℕ) (item : Bool) (column : ℕ) (bytes : List ℕ)
    → h.column < column → Follows h (last_words line item column bytes)
follows-last h line item column bytes l =
    choose (Follows h) (is_blank true bytes) [] (elim (starts_with 9 bytes) as (λ _. List Word) [
      | true ↦ tab-word line item column ∷ []
      | false ↦ word_at line column (shape_from bytes (key_of bytes)) ∷ []
    ]) tt (
    choose (Follows h) (starts_with 9 bytes) (tab-word line item column ∷ [])
    (word_at line column (shape_from bytes (key_of bytes)) ∷ [])
    (no-below h line (if item then column else 0) TabIndent, tt)
    (right-below h line column (shape_from bytes (key_of bytes)) l, tt)
    )

abbrev named-or-last : ℕ → Bool → ℕ → ℕ → List ℕ → List Word
named-or-last line item column b bs = elim (item && b == 38) as (λ _. List Word) [
  | true ↦ word_of line column (anchored_shape (anchor_split bs))
  | false ↦ last_words line item column (b ∷ bs)
]

abbrev dash-or : ℕ → Bool → ℕ → ℕ → List ℕ → List Word
dash-or line item column b bs = elim (b == 45 && ends_indicator bs) as (λ _. List Word) [
  | true ↦ word_at line column (dash (item_name bs)) ∷ words_at line true (suc column) bs
  | false ↦ named-or-last line item column b bs
]

follows-words : (h : Head) (line : ℕ) (item : Bool) (column : ℕ) (bytes : List ℕ)
    → h.column < column → Follows h (words_at line item column bytes)
follows-words h line item column [] l = tt
follows-words h line item column (b ∷ bs) l =
    choose (Follows h) (b == 32) (words_at line item (suc column) bs)
    (dash-or line item column b bs) (follows-words h line item (suc column) bs (omega arith)) (
    choose (Follows h) (b == 45 && ends_indicator bs)
    (word_at line column (dash (item_name bs)) ∷ words_at line true (suc column) bs)
    (named-or-last line item column b bs) (
      right-below h line column (dash (item_name bs)) l,
      follows-words (head_of (word_at line column
          (dash (item_name bs)))) line true (suc column) bs (omega arith),
    ) (
    choose (Follows h) (item && b == 38) (word_of line column (anchored_shape (anchor_split bs)))
    (last_words line item column (b ∷ bs))
    (follows-name h line column (anchored_shape (anchor_split bs)) l)
    (follows-last h line item column (b ∷ bs) l)
    )
    )

lined-name : (line column : ℕ) (o : Option Shape) → Lined (word_of line column o)
lined-name line column o = grind arith

lined-last : (line : ℕ) (item : Bool) (column : ℕ) (bytes : List ℕ)
    → Lined (last_words line item column bytes)
lined-last line item column bytes = grind (arith, choose)

lined-words : (line : ℕ) (item : Bool) (column : ℕ) (bytes : List ℕ)
    → Lined (words_at line item column bytes)
lined-words line item column [] = tt
lined-words line item column (b ∷ bs) =
    choose Lined (b == 32) (words_at line item (suc column) bs) (dash-or line item column b bs)
    (lined-words line item (suc column) bs) (
    choose Lined (b == 45 && ends_indicator bs)
    (word_at line column (dash (item_name bs)) ∷ words_at line true (suc column) bs)
    (named-or-last line item column b bs)
    (follows-words (head_of (word_at line column (dash (item_name bs)))) line true (suc column) bs
    (omega arith)) (
    choose Lined (item && b == 38) (word_of line column (anchored_shape (anchor_split bs)))
    (last_words line item column (b ∷ bs))
    (lined-name line column (anchored_shape (anchor_split bs)))
    (lined-last line item column (b ∷ bs))
    )
    )

lined-mark : (started : Bool) (w : Word) → Lined (if started then w ∷ [] else [])
lined-mark started w = grind arith

abbrev unmarked : ℕ → List ℕ → List Word
unmarked line bytes = elim (is_mark 46 bytes) as (λ _. List Word) [
  | true ↦ word_at line 0 (refused Unsupported) ∷ []
  | false ↦ words_at line false 0 bytes
]

abbrev marked : ℕ → Bool → List ℕ → List Word
marked line started bytes = elim (is_mark 45 bytes) as (λ _. List Word) [
  | true ↦ (if started then word_at line 0 (refused Unsupported) ∷ [] else [])
  | false ↦ unmarked line bytes
]

lined-line : (line : ℕ) (started : Bool) (bytes : List ℕ) → Lined (line_words line started bytes)
lined-line line started bytes = grind (arith, choose, lined-mark, lined-words)

-- THE LAW: behind a line only what its last word has brought can be too deep
pub line-kept : (bs cs : List Open) (line : ℕ) (started : Bool) (bytes : List ℕ)
    → checked_front bs ≡ Ok tt → steps bs (line_words line started bytes) ≡ Ok cs → KeepsDepth cs
line-kept bs cs line started bytes k h = grind (arith, words-kept, lined-line)
