-- What a sketch says of a value.
use Rattle.std.specs.Prelude.{ℕ, ◌≡◌, ◌≤◌, min, Result, Ok, Err}
use Rattle.rvs_yaml.specs.Checks.{Checked}
use Rattle.rvs_tree.specs.Data.{depth}
use Rattle.rvs_tree.specs.Bound.{brought}
use Rattle.rvs_tree.specs.Value.{Value, explicit_keys, is_map_or_empty, is_mergeable}
use Rattle.rvs_tree.specs.ValueView.{entries_view}
use Rattle.rvs_tree.specs.declared.entry_list.EntryList.{EntryList}
use Rattle.rvs_yaml_text.specs.Word.{Key}
use Rattle.rvs_yaml_text.specs.declared.kind.YamlKind.{YamlKind}
use Rattle.rvs_yaml.specs.declared.sketch.Sketch.{Sketch}

pub record IsSketch (v : Value) (s : Sketch) : Type 0 where
  pub bounded : min (depth v.tree) 33 ≤ s.depth
  pub reached : s.least ≤ depth v.tree
  pub counted : v.nodes ≡ s.nodes
  pub map : is_map_or_empty v.tree ≡ s.is_map
  pub merging : is_mergeable v.tree ≡ s.mergeable

-- An entry with this key and this value brings values of at most this depth into a map that has
-- these entries.
abbrev pub Brings : EntryList → Key → Value → ℕ → Type 0
Brings entries k v deepest =
    min (brought (explicit_keys (entries_view entries.entries.items)) k.merges v.tree) 33 ≤ deepest

-- the sketch of the value that is given, or the same refusal
abbrev pub SketchedAs : Result Sketch YamlKind → Checked Value → Type 0
SketchedAs (Ok s) m = (v : Value) × (m ≡ Ok v) × IsSketch v s
SketchedAs (Err kind) m = m ≡ Err kind
