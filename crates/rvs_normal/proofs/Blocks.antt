-- The maps of parts and of keys with a text behind them.
use Rattle.std.proofs.Common.{◌≡◌, ℕ, true, false, List, [], ◌∷◌, ◌++◌, refl, ap, ◌∙◌, None, Ok}
use Rattle.std.proofs.Common.{arith}
use Rattle.std.specs.Prelude.{◌==◌, map}
use Rattle.rvs_tree.specs.Value.{Value, scalar_value, map_value, Written, has_key}
use Rattle.rvs_yaml_text.specs.Word.{Key, key, nothing, text}
use Rattle.rvs_yaml_text.specs.Scalar.{key_name, quoted_name}
use Rattle.rvs_yaml_text.specs.Text.{word_at}
use Rattle.rvs_yaml.specs.Anchors.{Anchors}
use Rattle.rvs_yaml.specs.Entry.{written}
use Rattle.rvs_yaml.specs.Checks.{Checked, ◌>>=◌}
use Rattle.rvs_yaml.specs.Block.{Outline, end, below, outline, Found, found, block, entries}
use Rattle.rvs_yaml.specs.Block.{value_of, named}
use Rattle.rvs_normal.proofs.Columns.{Col, first, others, words, behind, Part, parts_cols}
use Rattle.rvs_normal.proofs.Columns.{points_cols, IsDeeper, outline-parts, outline-points}

-- ---- one entry
opened : (known : Anchors) (c l : ℕ) (k : Key) (v : Value) (inner : Outline)
    → block known l inner ≡ Ok (found v [])
    → value_of known (word_at l c (key k None nothing)) inner (block known l inner)
    ≡ Ok (found v [])
opened known c l k v inner b = ap (λ r. r >>= (λ g. Ok (named None g))) b

pub entry-opened : (known : Anchors) (c : ℕ) (seen : List (List ℕ)) (l : ℕ) (k : Key) (v : Value)
    (inner rest : Outline) (vs : List Written)
    → (c == c) ≡ true → has_key k.name seen ≡ false → k.merges ≡ false
    → block known l inner ≡ Ok (found v [])
    → entries known c (seen ++ (k.name ∷ [])) rest ≡ Ok (found vs [])
    → entries known c seen (below (word_at l c (key k None nothing)) inner rest)
    ≡ Ok (found (written k v ∷ vs) [])
entry-opened known c seen l k v inner rest vs here fresh plain b r = grind (arith, opened)

pub block-opened : (known : Anchors) (line c l : ℕ) (k : Key) (v : Value) (inner rest : Outline)
    (vs : List Written)
    → k.merges ≡ false
    → block known l inner ≡ Ok (found v [])
    → entries known c (k.name ∷ []) rest ≡ Ok (found vs [])
    → block known line (below (word_at l c (key k None nothing)) inner rest)
    ≡ Ok (found (map_value l (written k v ∷ vs)) [])
block-opened known line c l k v inner rest vs plain b r = grind (arith, opened)

pub entry-text : (known : Anchors) (c : ℕ) (seen : List (List ℕ)) (l : ℕ) (k t : List ℕ)
    (rest : Outline) (vs : List Written)
    → (c == c) ≡ true → has_key k seen ≡ false
    → entries known c (seen ++ (k ∷ [])) rest ≡ Ok (found vs [])
    → entries known c seen (below (word_at l c (key (quoted_name k) None (text t))) end rest)
    ≡ Ok (found (written (quoted_name k) (scalar_value t l) ∷ vs) [])
entry-text known c seen l k t rest vs here fresh r = rw (here, fresh, entries, r) refl

pub block-text : (known : Anchors) (line c l : ℕ) (k t : List ℕ) (rest : Outline)
    (vs : List Written)
    → entries known c (k ∷ []) rest ≡ Ok (found vs [])
    → block known line (below (word_at l c (key (quoted_name k) None (text t))) end rest)
    ≡ Ok (found (map_value l (written (quoted_name k) (scalar_value t l) ∷ vs)) [])
block-text known line c l k t rest vs r = rw (block, r) refl

-- ---- keys with a text
abbrev pub AreFree : List (List ℕ) → List (List ℕ) → Type 0
AreFree seen [] = Unit {0}
AreFree seen (k ∷ ks) = (has_key k seen ≡ false) × AreFree (seen ++ (k ∷ [])) ks

-- a scalar with this text
abbrev pub IsText : List ℕ → Value → Type 0
IsText t v = (l : ℕ) × (v ≡ scalar_value t l)

abbrev pub SaysTexts : List ℕ → List (List ℕ) → List Written → Type 0
SaysTexts t [] [] = Unit {0}
SaysTexts t [] (w ∷ ws) = ⊥
SaysTexts t (k ∷ ks) [] = ⊥
SaysTexts t (k ∷ ks) (w ∷ ws) =
    (w.key ≡ k) × (w.merges ≡ false) × IsText t w.value × SaysTexts t ks ws

pub record Gives (says : List Written → Type 0) (found_so : Checked (Found (List Written))) : Type
    0 where
  pub list : List Written
  pub same : found_so ≡ Ok (found list [])
  pub says_so : says list

pub entries-texts : (known : Anchors) (c : ℕ) (t : List ℕ) (seen ks : List (List ℕ)) (ns : List ℕ)
    → (c == c) ≡ true → AreFree seen ks
    → Gives (SaysTexts t ks) (entries known c seen (outline (words ns (points_cols c t ks))))
entries-texts known c t seen [] ns here free = record { list = []; same = refl; says_so = tt }
entries-texts known c t seen (k ∷ ks) ns here free =
    let r = entries-texts known c t (seen ++ (k ∷ [])) ks (others ns) here free.1 in
    record {
      list = written (quoted_name k) (scalar_value t (first ns)) ∷ r.list;
      same = ap (entries known c seen) (outline-points c t ns k ks) ∙ entry-text known c seen
          (first ns) k t (outline (words (others ns) (points_cols c t ks))) r.list here free.0
          r.same;
      says_so = (refl, refl, (first ns, refl), r.says_so);
    }

-- a map of these written entries
pub record Maps (says : List Written → Type 0) (v : Value) : Type 0 where
  pub line : ℕ
  pub list : List Written
  pub same : v ≡ map_value line list
  pub says_so : says list

-- the block of these words is a value of this kind, wherever it stands
abbrev pub Blocks : (Value → Type 0) → List Col → Type 0
Blocks is cols = (known : Anchors) (line : ℕ) (ns : List ℕ)
    → (v : Value) × (block known line (outline (words ns cols)) ≡ Ok (found v [])) × is v

pub block-texts : (c : ℕ) (t k : List ℕ) (ks : List (List ℕ)) → (c == c) ≡ true
    → AreFree (k ∷ []) ks → Blocks (Maps (SaysTexts t (k ∷ ks))) (points_cols c t (k ∷ ks))
block-texts c t k ks here free known line ns =
    let r = entries-texts known c t (k ∷ []) ks (others ns) here free in
    let all = written (quoted_name k) (scalar_value t (first ns)) ∷ r.list in (
      map_value (first ns) all,
      ap (block known line) (outline-points c t ns k ks) ∙ block-text known line c (first ns) k t
          (outline (words (others ns) (points_cols c t ks))) r.list r.same,
      record {
        line = first ns;
        list = all;
        same = refl;
        says_so = (refl, refl, (first ns, refl), r.says_so);
      },
    )

-- ---- parts
abbrev pub AreBlocks : {X : Type 0} → ℕ → (X → Part) → (X → Value → Type 0) → List X → Type 0
AreBlocks c part is [] = Unit {0}
AreBlocks c part is (x ∷ xs) = IsDeeper c (part x).inner × Blocks (is x) (part x).inner
    × ((key_name (part x).name).merges ≡ false) × AreBlocks c part is xs

abbrev pub SaysParts : {X : Type 0} → (X → Part) → (X → Value → Type 0) → List X → List Written
    → Type 0
SaysParts part is [] [] = Unit {0}
SaysParts part is [] (w ∷ ws) = ⊥
SaysParts part is (x ∷ xs) [] = ⊥
SaysParts part is (x ∷ xs) (w ∷ ws) =
    (w.key ≡ (part x).name) × (w.merges ≡ false) × is x w.value × SaysParts part is xs ws

pub entries-parts : {X : Type 0} (known : Anchors) (c : ℕ) (part : X → Part)
    (is : X → Value → Type 0) (seen : List (List ℕ)) (xs : List X) (ns : List ℕ)
    → (c == c) ≡ true → AreBlocks c part is xs → AreFree seen (map (λ x. (part x).name) xs)
    → Gives (SaysParts part is xs)
    (entries known c seen (outline (words ns (parts_cols c (map part xs)))))
entries-parts known c part is seen [] ns here good free = grind arith
entries-parts known c part is seen (x ∷ xs) ns here good free =
    let b = good.1 known (first ns) (others ns) in
    let r = entries-parts known c part is (seen ++ ((part x).name ∷ [])) xs
    (behind (part x).inner (others ns)) here good.3 free.1 in
    record {
      list = written (key_name (part x).name) b.0 ∷ r.list;
      same = ap (entries known c seen) (outline-parts c ns (part x) (map part xs) good.0)
          ∙ entry-opened known c seen (first ns) (key_name (part x).name) b.0
          (outline (words (others ns) (part x).inner))
          (outline (words (behind (part x).inner (others ns)) (parts_cols c (map part xs))))
          r.list here free.0 good.2 b.1 r.same;
      says_so = (refl, good.2, b.2, r.says_so);
    }

pub block-parts : {X : Type 0} (c : ℕ) (part : X → Part) (is : X → Value → Type 0) (x : X)
    (xs : List X)
    → (c == c) ≡ true → AreBlocks c part is (x ∷ xs)
    → AreFree ((part x).name ∷ []) (map (λ y. (part y).name) xs)
    → Blocks (Maps (SaysParts part is (x ∷ xs))) (parts_cols c (map part (x ∷ xs)))
block-parts c part is x xs here good free known line ns =
    let b = good.1 known (first ns) (others ns) in
    let r = entries-parts known c part is ((part x).name ∷ []) xs
    (behind (part x).inner (others ns)) here good.3 free in
    let all = written (key_name (part x).name) b.0 ∷ r.list in (
      map_value (first ns) all,
      ap (block known line) (outline-parts c ns (part x) (map part xs) good.0)
          ∙ block-opened known line c (first ns) (key_name (part x).name) b.0
          (outline (words (others ns) (part x).inner))
          (outline (words (behind (part x).inner (others ns)) (parts_cols c (map part xs))))
          r.list good.2 b.1 r.same,
      record { line = first ns; list = all; same = refl; says_so = (refl, good.2, b.2, r.says_so) },
    )
