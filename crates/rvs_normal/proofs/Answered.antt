-- The answer for lines of which each front has a tree, and for lines of rows.
use Rattle.std.proofs.Common.{◌≡◌, ℕ, zero, suc, ◌+◌, ◌≤◌, Bool, true, false, List, [], ◌∷◌, ◌++◌}
use Rattle.std.proofs.Common.{refl, sym, ap, subst, ◌∙◌, arith, append_assoc, append-nil}
use Rattle.std.proofs.Common.{Ok}
use Rattle.std.specs.Prelude.{◌||◌, map, take, not}
use Rattle.rvs_tree.specs.Data.{Data, depth}
use Rattle.rvs_tree.specs.Value.{Value}
use Rattle.rvs_yaml_text.specs.Scalar.{is_blank}
use Rattle.rvs_yaml_text.specs.Text.{lines_of, words_of}
use Rattle.rvs_yaml.specs.Checks.{Checked, ◌>>=◌}
use Rattle.rvs_yaml.specs.Block.{tree_of}
use Rattle.rvs_yaml.specs.Parsed.{within_limits, front, answer_after, answer, HasTree}
use Rattle.rvs_normal.specs.Again.{KeepsLimit}
use Rattle.rvs_normal.proofs.Lines.{fed, AreInked, lines-fed}
use Rattle.rvs_normal.proofs.Rows.{Row, row_text, row_words, row-inked, line-words}
use Rattle.rvs_normal.proofs.Columns.{Col, words}
use Rattle.rvs_normal.proofs.Placed.{AreRows, rows_words, no-words, lines, cols, row_cols}
use Rattle.rvs_normal.proofs.Placed.{words-by-columns}
use Rattle.rvs_normal.proofs.Apart.{Distinct}
use Rattle.rvs_normal.proofs.Trees.{Group, all_cols, AreGroups, group_names, HasGroups}
use Rattle.rvs_normal.proofs.Trees.{groups-block, groups_count, groups-size}
use Rattle.rvs_normal.proofs.Cuts.{cut_groups, groups-cut, groups-distinct, are-groups}
use Rattle.rvs_normal.proofs.Cuts.{groups-count}

take-none : {X : Type 0} (xs : List X) → take 0 xs ≡ []
take-none = grind arith

take-nil : {X : Type 0} (n : ℕ) → ◌≡◌ {A = List X} (take n []) []
take-nil = grind arith

-- ---- from fronts to the answer
answered : (done ls : List (List ℕ)) (tree : Data) → ((m : ℕ) → HasTree (done ++ take m ls))
    → front (done ++ ls) ≡ Ok tree → answer_after done ls ≡ Ok tree
answered done [] tree trees whole = grind (arith, append-nil)
answered done (l ∷ ls) tree trees whole =
    let first : HasTree (done ++ (l ∷ [])) =
    subst (λ xs. HasTree (done ++ (l ∷ xs))) (take-none ls) (trees 1) in
    rw (first.1, answer_after)
    (answered (done ++ (l ∷ [])) ls tree
    (λ m. subst HasTree (sym (append_assoc done (l ∷ []) (take m ls))) (trees (suc m)))
    (ap front (append_assoc done (l ∷ []) ls) ∙ whole))

-- ---- the tree of rows, and of rows with an empty line behind them
abbrev pub IsTail : List (List ℕ) → Type 0
IsTail tail = (n : ℕ) (started : Bool) → words_of n started tail ≡ []

no-tail : IsTail []
no-tail n started = refl

empty-line : IsTail ([] ∷ [])
empty-line n started = ap (λ ws. ws ++ []) (no-words n started)

words-of : (n : ℕ) (started : Bool) (rs : List Row) (tail : List (List ℕ)) → AreRows rs
    → IsTail tail → words_of n started (map row_text rs ++ tail) ≡ rows_words n rs
words-of n started [] tail good is = is n started
words-of n started (r ∷ rs) tail good is =
    ap (λ ws. ws
    ++ words_of (suc n) (started || not (is_blank true (row_text r))) (map row_text rs ++ tail))
    (line-words n started r good.0)
    ∙ ap (λ ws. row_words n r ++ ws)
    (words-of (suc n) (started || not (is_blank true (row_text r))) rs tail good.1 is)

small-enough : (v : Value) → v.nodes ≤ 500000 → depth v.tree ≤ 4 → within_limits v ≡ Ok tt
small-enough v n d = grind arith

-- the rows are those of these groups, whose names are apart
pub record Shows (gs : List Group) (rs : List Row) : Type 0 where
  pub good : AreRows rs
  pub same : cols rs ≡ all_cols gs
  pub apart : Distinct (group_names gs)
  pub named : AreGroups gs

-- the lines have a value, and it is one of these groups
record Reads (gs : List Group) (ls : List (List ℕ)) : Type 0 where
  value : Value
  is : tree_of (words_of 1 false ls) ≡ Ok value
  has : HasGroups gs value

rows-read : (rs : List Row) (gs : List Group) (tail : List (List ℕ)) → IsTail tail → Shows gs rs
    → Reads gs (map row_text rs ++ tail)
rows-read rs gs tail is s =
    let b = groups-block gs s.apart s.named [] 1 (lines 1 rs) in
    record {
      value = b.0;
      is = ap tree_of (words-of 1 false rs tail s.good is ∙ words-by-columns 1 rs
          ∙ ap (words (lines 1 rs)) s.same) ∙ ap (λ f. f >>= (λ g. Ok g.value)) b.1;
      has = b.2;
    }

front-of : (gs : List Group) (ls : List (List ℕ)) (r : Reads gs ls) → 1 + groups_count gs ≤ 500000
    → front ls ≡ Ok r.value.tree
front-of gs ls r few = grind (arith, groups-size, small-enough)

-- ---- fronts of rows
are-rows-take : (n : ℕ) (rs : List Row) → AreRows rs → AreRows (take n rs)
are-rows-take zero [] good = tt
are-rows-take zero (r ∷ rs) good = tt
are-rows-take (suc n) [] good = tt
are-rows-take (suc n) (r ∷ rs) good = (good.0, are-rows-take n rs good.1)

-- so many and these
abbrev pub more : List Col → ℕ → ℕ
more [] n = n
more (x ∷ xs) n = suc (more xs n)

abbrev pub count : ℕ → List Row → ℕ
count zero rs = 0
count (suc n) [] = 0
count (suc n) (r ∷ rs) = more (row_cols r) (count n rs)

take-behind : (xs ys : List Col) (n : ℕ) → take (more xs n) (xs ++ ys) ≡ xs ++ take n ys
take-behind [] ys n = refl
take-behind (x ∷ xs) ys n = ap (λ r. x ∷ r) (take-behind xs ys n)

cols-take : (n : ℕ) (rs : List Row) → cols (take n rs) ≡ take (count n rs) (cols rs)
cols-take zero [] = refl
cols-take zero (r ∷ rs) = sym (take-none (cols (r ∷ rs)))
cols-take (suc n) [] = refl
cols-take (suc n) (r ∷ rs) = simp (row_cols, take-behind, cols, (cols-take n rs))

line-fronts : (P : List (List ℕ) → Type 0) (m : ℕ) (rs : List Row)
    → ((k : ℕ) → P (map row_text (take k rs))) → P (map row_text rs ++ ([] ∷ []))
    → P (take m (map row_text rs ++ ([] ∷ [])))
line-fronts P zero [] p q = p 0
line-fronts P zero (r ∷ rs) p q = p 0
line-fronts P (suc m) [] p q = subst (λ ls. P ([] ∷ ls)) (sym (take-nil m)) q
line-fronts P (suc m) (r ∷ rs) p q = line-fronts (λ ls. P (row_text r ∷ ls)) m rs (λ k. p (suc k)) q

front-shows : (k : ℕ) (rs : List Row) (gs : List Group) → Shows gs rs
    → Shows (cut_groups (count k rs) gs) (take k rs)
front-shows k rs gs s =
    grind (arith, are-rows-take, cols-take, groups-cut, groups-distinct, are-groups)

front-tree : (k : ℕ) (rs : List Row) (gs : List Group) → Shows gs rs
    → 1 + groups_count gs ≤ 500000 → HasTree (map row_text (take k rs))
front-tree k rs gs s few =
    let n = count k rs in
    let ls = map row_text (take k rs) in
    let r = rows-read (take k rs) (cut_groups n gs) [] no-tail (front-shows k rs gs s) in (
      r.value.tree,
      ap front (sym (append-nil ls))
          ∙ front-of (cut_groups n gs) (ls ++ []) r (omega (arith, groups-count n gs, few)),
    )

inked-rows : (rs : List Row) → AreRows rs → AreInked (map row_text rs)
inked-rows [] good = tt
inked-rows (r ∷ rs) good = (row-inked r good.0, inked-rows rs good.1)

-- ---- the answer, where the text keeps the limit on nodes
whole-read : (rs : List Row) (gs : List Group) → Shows gs rs
    → Reads gs (lines_of (fed (map row_text rs)))
whole-read rs gs s = grind (arith, lines-fed, row_text, inked-rows, rows-read, empty-line)

pub limit-few : (rs : List Row) (gs : List Group) → Shows gs rs
    → KeepsLimit (fed (map row_text rs)) → 1 + groups_count gs ≤ 500000
limit-few rs gs s keeps = grind (arith, whole-read, groups-size)

pub few-limit : (rs : List Row) (gs : List Group) → Shows gs rs → 1 + groups_count gs ≤ 500000
    → KeepsLimit (fed (map row_text rs))
few-limit rs gs s few v is =
    let r = whole-read rs gs s in
    let size = groups-size gs r.value r.has in
    omega (arith, size.nodes, ap (λ (u : Value). u.nodes) (same v r.value (sym is ∙ r.is)))
  where
    same : (v w : Value) → ◌≡◌ {A = Checked Value} (Ok v) (Ok w) → v ≡ w
    same v w e = cc

pub record Answers (gs : List Group) (bytes : List ℕ) : Type 0 where
  pub value : Value
  pub is : answer bytes ≡ Ok value.tree
  pub has : HasGroups gs value

pub rows-answered : (rs : List Row) (gs : List Group) → Shows gs rs → 1 + groups_count gs ≤ 500000
    → Answers gs (fed (map row_text rs))
rows-answered rs gs s few =
    let r = rows-read rs gs ([] ∷ []) empty-line s in
    let whole = front-of gs (map row_text rs ++ ([] ∷ [])) r few in
    record {
      value = r.value;
      is = ap (answer_after []) (lines-fed (map row_text rs) (inked-rows rs s.good))
          ∙ answered [] (map row_text rs ++ ([] ∷ [])) r.value.tree (λ m. line-fronts HasTree m rs
          (λ k. front-tree k rs gs s few) (r.value.tree, whole)) whole;
      has = r.has;
    }
