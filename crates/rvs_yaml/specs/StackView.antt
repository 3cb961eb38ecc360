-- What the open blocks of the code stand for.
use Rattle.std.specs.Prelude.{◌-◌, slice_get, if◌then◌else◌}
use Rattle.std.specs.Prelude.{◌≡◌, ◌≤◌, ℕ, List, [], ◌∷◌, map, reverse, take, drop, length, Option}
use Rattle.std.specs.Prelude.{Some, None, All}
use Rattle.rvs_yaml.specs.Anchors as anchors_spec
use Rattle.rvs_tree.specs.Value as value_spec
use Rattle.rvs_yaml.specs.Block as block_spec
use Rattle.rvs_yaml.specs.Stack as spec
use Rattle.rvs_yaml.specs.StepParts as parts
use Rattle.rvs_yaml_text.specs.Word.{opens_block}
use Rattle.rvs_yaml_text.specs.WordView.{head_view}
use Rattle.rvs_tree.specs.ValueView.{value_view, values_view, entries_view}
use Rattle.rvs_yaml_text.specs.KeyView.{key_view}
use Rattle.rvs_yaml.specs.declared.open.Anchor.{Anchor}
use Rattle.rvs_yaml.specs.declared.open.Done.{Done}
use Rattle.rvs_yaml.specs.declared.open.Done.TheVariants.{Items, Entries, Alone}
use Rattle.rvs_yaml.specs.declared.open.Block.{Block}
use Rattle.rvs_yaml.specs.declared.open.Open.{Open}
use Rattle.rvs_yaml.specs.declared.open_blocks.OpenBlocks.{OpenBlocks}
use Rattle.rvs_yaml_text.specs.Word.{Name}
use Rattle.rvs_yaml.specs.declared.known.Known.{Known}
use Rattle.std.specs.Global.{Box}
use Rattle.rvs_tree.specs.declared.counted.Value.{Value}

abbrev pub anchor_view : Anchor → List ℕ × value_spec.Value
anchor_view a = (a.name.now, value_view a.value)

-- the code has the earliest first, and the definition the latest
abbrev pub anchors_view : List Anchor → anchors_spec.Anchors
anchors_view anchors = reverse (map anchor_view anchors)

abbrev pub done_view : Done → spec.Done
done_view (Items l) = spec.done_items (values_view l.values.items)
done_view (Entries p) =
    spec.done_entries (entries_view p.value.list.entries.items) (key_view p.value.key)
done_view Alone = spec.alone

-- a block without the anchors in it
abbrev pub block_view : Block → parts.Block
block_view b = record {
  line = b.line;
  column = b.column;
  done = done_view b.done;
  anchors = [];
}

-- What a word on this line is by itself. With nothing behind it, it is an empty scalar.
abbrev pub own_view : ℕ → Option (Box Value) → value_spec.Value
own_view line None = value_spec.scalar_value [] line
own_view line (Some v) = value_view v.value

-- the depth that is kept with it
abbrev pub kept_depth : Option (Box Value) → ℕ
kept_depth None = 1
kept_depth (Some v) = v.value.depth

-- and that of what a last word is by itself
abbrev pub kept_own : Open → ℕ
kept_own b = if opens_block (head_view b.head).sort then 1 else kept_depth b.own

abbrev pub kept_at : Option Open → ℕ
kept_at None = 0
kept_at (Some b) = kept_own b

abbrev pub kept_on_top : List Open → ℕ
kept_on_top bs = kept_at (slice_get bs (length bs - 1))

abbrev pub open_view : Open → spec.Open
open_view b = parts.opened (block_view b.block) (head_view b.head) (own_view b.head.line b.own)

-- the top is the last of the code's list, and the first of the definition's
abbrev pub stack_view : List Open → List spec.Open
stack_view bs = reverse (map open_view bs)

-- a block with the anchors in it, where these are complete
abbrev pub block_at : List Anchor → Block → parts.Block
block_at all b = record {
  line = b.line;
  column = b.column;
  done = done_view b.done;
  anchors = anchors_view (drop b.before all);
}

abbrev pub open_at : List Anchor → Open → spec.Open
open_at all b =
    parts.opened (block_at all b.block) (head_view b.head) (own_view b.head.line b.own)

-- blocks with the anchors in them, the innermost first
abbrev pub over : List Anchor → List Open → List spec.Open
over all [] = []
over all (b ∷ bs) = open_at all b ∷ over (take b.block.before all) bs

abbrev pub anchored : List Anchor → List Open → List spec.Open
anchored all bs = over all (reverse bs)

abbrev pub open_blocks : OpenBlocks → List spec.Open
open_blocks s = anchored s.anchors.anchors.items s.blocks.items

-- What naming a node that has this value made of the anchors: those behind so many are in the node.
pub record Names (name : Name) (v : value_spec.Value) (before : ℕ) (all after : List Anchor) : Type
    0
  where
    pub inner : anchors_view (drop before after)
        ≡ (spec.noted name (block_spec.found v (anchors_view (drop before all)))).anchors
    pub outer : take before after ≡ take before all
    pub more : length all ≤ length after

-- the anchors that are complete
abbrev pub all_known : Known → anchors_spec.Anchors
all_known k = anchors_view k.anchors.now.anchors.items

-- no value of a complete anchor is kept with more than this depth
abbrev pub KeepsUpTo : ℕ → List Anchor → Type 0
KeepsUpTo most anchors = All (λ (a : Anchor). a.value.depth ≤ most) anchors

abbrev pub IsKeptUpTo : ℕ → Known → Type 0
IsKeptUpTo most k = KeepsUpTo most k.anchors.now.anchors.items

-- the anchors that are complete, or what stands for their values
abbrev pub known_view : Known → anchors_spec.Anchors
known_view k = anchors_spec.formed k.poor (all_known k)
