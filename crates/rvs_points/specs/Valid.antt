-- Labels that a core admits.
use Rattle.std.specs.Prelude.{◌≡◌, ◌<◌, ◌≤◌, Bool, true, not, ◌&&◌, List, [], ◌∷◌, length, All}
use Rattle.std.specs.List.{list_any, list_all}
use Rattle.rvs_insn.specs.Isa.{Isa}
use Rattle.rvs_insn.specs.Names.{is_admitted_op}
use Rattle.rvs_insn.specs.declared.op.Op.{Op}
use Rattle.rvs_facts.specs.Mnemonics.{is_same}
use Rattle.rvs_points.specs.Keys.{is_label_name, is_printable}
use Rattle.rvs_points.specs.Points.{Point, Label, means, says, has}
use Rattle.rvs_points.specs.Limits.{most_points}

-- no two points have one kind and key
abbrev pub are_distinct : List Point → Bool
are_distinct [] = true
are_distinct (p ∷ ps) = not (has p.kind p.key ps) && are_distinct ps

-- no mnemonic comes twice
abbrev pub ops_are_distinct : List Op → Bool
ops_are_distinct [] = true
ops_are_distinct (op ∷ ops) = not (list_any (is_same op) ops) && ops_are_distinct ops

-- the point's key is printable, and says its meaning under its kind
pub record IsMeant (p : Point) : Type 0 where
  pub printable : is_printable p.key ≡ true
  pub said : says p.kind p.key ≡ means p.meaning

-- a selected label is valid for a core
pub record IsValid (isa : Isa) (l : Label) : Type 0 where
  pub named : is_label_name l.name ≡ true
  pub some_op : 0 < length l.ops
  pub own_ops : ops_are_distinct l.ops ≡ true
  pub admitted : list_all (is_admitted_op isa) l.ops ≡ true
  pub few : length l.points ≤ most_points
  pub distinct : are_distinct l.points ≡ true
  pub meant : All IsMeant l.points

-- a label that is selected is valid
abbrev pub IsValidIfSelected : Isa → Label → Type 0
IsValidIfSelected isa l = l.selected ≡ true → IsValid isa l
