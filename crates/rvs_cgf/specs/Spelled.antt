-- Trees that spell groups as their normal text does, and groups that such a tree gives again.
use Rattle.std.specs.Prelude.{◌≡◌, ◌≤◌, Bool, true, false, not, ◌&&◌, List, [], ◌∷◌, length, filter}
use Rattle.std.specs.Prelude.{sum_by, if◌then◌else◌, bytes_eq, codes}
use Rattle.std.specs.List.{list_any, list_all}
use Rattle.rvs_insn.specs.Isa.{Isa}
use Rattle.rvs_insn.specs.Names.{is_admitted_op}
use Rattle.rvs_tree.specs.Data.{Data, Pairs, own_pairs, is_map, is_scalar}
use Rattle.rvs_cgf.specs.Groups.{Point, Label, same_kind, is_empty_scalar, ops_of, size_of}
use Rattle.rvs_points.specs.Kinds.{kind_name}
use Rattle.rvs_points.specs.Valid.{IsValid}
use Rattle.rvs_points.specs.declared.group.Kind.{Kind}
use Rattle.rvs_points.specs.Limits.{most_labels, most_pairs}

-- points of one kind side by side
pub record Block : Type 0 where
  pub kind : Kind
  pub points : List Point

-- the block of these points
abbrev pub block : Kind → List Point → Block
block k ps = record { kind = k; points = ps }

-- a point before blocks, in the first where that is of its kind
abbrev pub joined : Point → List Block → List Block
joined p [] = block p.kind (p ∷ []) ∷ []
joined p (b ∷ bs) = if same_kind b.kind p.kind then block p.kind (p ∷ b.points) ∷ bs
    else block p.kind (p ∷ []) ∷ b ∷ bs

-- the points by the lines of their kinds
abbrev pub blocks : List Point → List Block
blocks [] = []
blocks (p ∷ ps) = joined p (blocks ps)

-- ---- trees: lines are free, and so is what the scalars say
-- a key for each point
abbrev pub SpellsKeys : List Point → Pairs → Type 0
SpellsKeys [] [] = Unit {0}
SpellsKeys [] (e ∷ es) = ⊥
SpellsKeys (p ∷ ps) [] = ⊥
SpellsKeys (p ∷ ps) (e ∷ es) = (e.0 ≡ p.key) × (is_scalar e.1 ≡ true) × SpellsKeys ps es

-- a node for each block, with its name, and a map of its keys
abbrev pub SpellsNodes : List Block → Pairs → Type 0
SpellsNodes [] [] = Unit {0}
SpellsNodes [] (e ∷ es) = ⊥
SpellsNodes (b ∷ bs) [] = ⊥
SpellsNodes (b ∷ bs) (e ∷ es) = (e.0 ≡ kind_name b.kind) × (is_map e.1 ≡ true)
    × SpellsKeys b.points (own_pairs e.1) × SpellsNodes bs es

-- a map of nodes for each label
abbrev pub SpellsLabels : List Label → Pairs → Type 0
SpellsLabels [] [] = Unit {0}
SpellsLabels [] (e ∷ es) = ⊥
SpellsLabels (l ∷ ls) [] = ⊥
SpellsLabels (l ∷ ls) (e ∷ es) = (e.0 ≡ l.name) × (is_map e.1 ≡ true)
    × SpellsNodes (blocks l.points) (own_pairs e.1) × SpellsLabels ls es

-- a map of labels, or nothing where there is none
abbrev pub SpellsAll : List Label → Data → Type 0
SpellsAll [] d = is_empty_scalar d ≡ true
SpellsAll (l ∷ ls) d =
    (is_empty_scalar d ≡ false) × (is_map d ≡ true) × SpellsLabels (l ∷ ls) (own_pairs d)

-- the labels that are selected
abbrev pub selected : List Label → List Label
selected ls = filter (λ l. l.selected) ls

-- the tree has the selected labels alone
abbrev pub Spells : List Label → Data → Type 0
Spells ls d = SpellsAll (selected ls) d

-- ---- groups
-- no two blocks are of one kind
abbrev pub kinds_are_apart : List Block → Bool
kinds_are_apart [] = true
kinds_are_apart (b ∷ bs) = not (list_any (λ c. same_kind c.kind b.kind) bs) && kinds_are_apart bs

-- a valid label whose points of each kind stand together, and whose mnemonics are those of its
-- points
pub record IsPlain (isa : Isa) (l : Label) : Type 0 where
  pub valid : IsValid isa l
  pub apart : kinds_are_apart (blocks l.points) ≡ true
  pub ops_are : l.ops ≡ ops_of l.points
  pub own_name : bytes_eq l.name (codes "datasets") ≡ false

-- all labels are plain
abbrev pub ArePlain : Isa → List Label → Type 0
ArePlain isa [] = Unit {0}
ArePlain isa (l ∷ ls) = IsPlain isa l × ArePlain isa ls

-- plain labels within the limits of a file
pub record CanBeSpelled (isa : Isa) (ls : List Label) : Type 0 where
  pub plain : ArePlain isa (selected ls)
  pub few_labels : length (selected ls) ≤ most_labels
  pub few_points : sum_by size_of (selected ls) ≤ most_pairs

-- the core admits the mnemonics of the selected labels
abbrev pub are_admitted : Isa → List Label → Bool
are_admitted isa ls = list_all (λ l. list_all (is_admitted_op isa) l.ops) (selected ls)

-- the label with nothing skipped
abbrev pub bare : Label → Label
bare l = record { name = l.name; selected = true; ops = l.ops; points = l.points; skipped = [] }

-- ---- what a file's tree gives
-- no key comes twice
abbrev pub keys_are_own : Pairs → Bool
keys_are_own [] = true
keys_are_own (e ∷ es) = not (list_any (λ f. bytes_eq f.0 e.0) es) && keys_are_own es

-- no label has two nodes of one name
abbrev pub nodes_are_own : Data → Bool
nodes_are_own d = list_all (λ e. keys_are_own (own_pairs e.1)) (own_pairs d)
