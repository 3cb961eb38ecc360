-- Outlines of words behind words.
use Rattle.std.proofs.Common.{◌≡◌, true, false, List, [], ◌∷◌, ◌++◌, refl, arith}
use Rattle.rvs_yaml_text.specs.Word.{Word, Head, head_of, is_below}
use Rattle.rvs_yaml.specs.Block.{Outline, end, below, children, after, outline}

-- one outline behind another
abbrev pub joined : Outline → Outline → Outline
joined end o = o
joined (below u inner rest) o = below u inner (joined rest o)

-- the first word isn't below this one
abbrev pub Stops : Head → Outline → Type 0
Stops h end = Unit {0}
Stops h (below u inner rest) = is_below h u ≡ false

abbrev pub AllStop : List Word → Outline → Type 0
AllStop [] o = Unit {0}
AllStop (u ∷ us) o = Stops (head_of u) o × AllStop us o

abbrev pub AllBelow : Head → List Word → Type 0
AllBelow h [] = Unit {0}
AllBelow h (u ∷ us) = (is_below h u ≡ true) × AllBelow h us

none-below : (h : Head) (o : Outline) → Stops h o → children h o ≡ end
none-below h o s = grind arith

all-after : (h : Head) (o : Outline) → Stops h o → after h o ≡ o
all-after h o s = grind arith

children-joined : (h : Head) (o p : Outline) → Stops h p → children h (joined o p) ≡ children h o
children-joined h end p s = none-below h p s
children-joined h (below u inner rest) p s = simp (children-joined h rest p s)

after-joined : (h : Head) (o p : Outline) → Stops h p → after h (joined o p) ≡ joined (after h o) p
after-joined h end p s = all-after h p s
after-joined h (below u inner rest) p s = grind (arith, (after-joined h rest p s))

outline-joined : (ws rest : List Word) → AllStop ws (outline rest)
    → outline (ws ++ rest) ≡ joined (outline ws) (outline rest)
outline-joined [] rest s = refl
outline-joined (u ∷ us) rest s =
    grind (arith, children-joined, after-joined, (outline-joined us rest s.1))

-- ---- all words below one
abbrev pub TopsBelow : Head → Outline → Type 0
TopsBelow h end = Unit {0}
TopsBelow h (below u inner rest) = (is_below h u ≡ true) × TopsBelow h rest

after-tops : (g h : Head) (o : Outline) → TopsBelow h o → TopsBelow h (after g o)
after-tops g h end t = tt
after-tops g h (below u inner rest) t = grind (arith, (after-tops g h rest t.1))

tops : (h : Head) (ws : List Word) → AllBelow h ws → TopsBelow h (outline ws)
tops h [] a = tt
tops h (u ∷ us) a = (a.0, after-tops (head_of u) h (outline us) (tops h us a.1))

children-all : (h : Head) (o : Outline) → TopsBelow h o → children h o ≡ o
children-all h end t = refl
children-all h (below u inner rest) t = grind (arith, (children-all h rest t.1))

after-all : (h : Head) (o : Outline) → TopsBelow h o → after h o ≡ end
after-all h end t = refl
after-all h (below u inner rest) t = rw (t.0, after) (after-all h rest t.1)

-- a word, the words below it, and words that aren't
pub section : (w : Word) (inner rest : List Word) → AllBelow (head_of w) inner
    → Stops (head_of w) (outline rest) → AllStop inner (outline rest)
    → outline (w ∷ (inner ++ rest)) ≡ below w (outline inner) (outline rest)
section w inner rest a s all =
    simp (outline-joined, children-joined, children-all, tops, after-joined, after-all)
