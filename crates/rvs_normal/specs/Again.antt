-- Groups whose normal text is read again.
use Rattle.std.specs.Prelude.{◌≡◌, ◌≤◌, ℕ, Bool, true, false, not, ◌&&◌, List, [], ◌∷◌, map, Ok}
use Rattle.std.specs.Prelude.{bytes_eq}
use Rattle.std.specs.List.{list_any, list_all}
use Rattle.rvs_insn.specs.Isa.{Isa}
use Rattle.rvs_tree.specs.Data.{Data}
use Rattle.rvs_tree.specs.Value.{Value}
use Rattle.rvs_yaml_text.specs.Text.{lines_of, words_of}
use Rattle.rvs_yaml.specs.Block.{tree_of}
use Rattle.rvs_yaml.specs.Parsed.{answer}
use Rattle.rvs_abstract.specs.declared.families.Families.{Families}
use Rattle.rvs_points.specs.Keys.{is_printable}
use Rattle.rvs_cgf.specs.Groups.{Label, groups_of}
use Rattle.rvs_cgf.specs.Print.{normal_text}
use Rattle.rvs_cgf.specs.Spelled.{bare, selected}

-- no two labels have one name
abbrev pub names_are_apart : List Label → Bool
names_are_apart [] = true
names_are_apart (l ∷ ls) = not (list_any (λ m. bytes_eq l.name m.name) ls) && names_are_apart ls

-- what the comments on a label say is printable
abbrev pub notes_are_printable : Label → Bool
notes_are_printable l =
    is_printable l.name && list_all (λ s. is_printable s.node && is_printable s.key) l.skipped

-- for the tree of the whole text, where it has one, at most 500,000 nodes count
abbrev pub KeepsLimit : List ℕ → Type 0
KeepsLimit text = (v : Value) → tree_of (words_of 1 false (lines_of text)) ≡ Ok v → v.nodes ≤ 500000

-- the normal text is accepted, and gives for this core, whichever families are read, the selected
-- labels with the same mnemonics and points, and nothing skipped
pub record IsReadAgain (isa : Isa) (groups : List Label) : Type 0 where
  pub tree : Data
  pub is : answer (normal_text groups) ≡ Ok tree
  pub groups_are : (families : Families)
      → groups_of isa families tree ≡ Ok (map bare (selected groups))
