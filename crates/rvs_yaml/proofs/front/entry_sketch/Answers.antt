use Rattle.std.proofs.Common.{◌≡◌, ◌+◌, ◌++◌, ◌∷◌, [], ◌∙◌, sym, ap, arith, min, refl, false, Ok}
use Rattle.std.specs.Prelude.{◌&&◌, ◌||◌, not, if◌then◌else◌}
use Rattle.rvs_yaml.specs.Checks.{Checked, ◌>>◌, check}
use Rattle.rvs_tree.specs.Value.{Value, map_value, plus, text_nodes}
use Rattle.rvs_yaml.specs.Entry.{written}
use Rattle.rvs_tree.specs.ValueView.{entries_view}
use Rattle.rvs_yaml_text.specs.KeyView.{key_view}
use Rattle.rvs_yaml_text.specs.declared.kind.YamlKind.TheVariants.{BadMerge}
use Rattle.rvs_tree.proofs.Sums.{written_nodes_from-push}
use Rattle.rvs_tree.proofs.Depths.{written_depth-push}
use Rattle.rvs_tree.proofs.Merging.{map-depth}
use Rattle.rvs_yaml.proofs.Sketching.{check-bad, check-good, least-map}
use Rattle.rvs_yaml.proofs.front.entry_sketch.Goals as goal
use Rattle.rvs_yaml.proofs.front.entry_sketch.Goals.{then-key+else-not-last, else-key}

abbrev with_check : Value → Checked (Unit {0}) → Checked Value
with_check x m = m >> Ok x

pub returns-then-not-last : goal.returns-then-not-last
returns-then-not-last c = λ line v s d.
    let m = c.args.key.now.merges in
    let k = c.args.last.now.mergeable in
    let x = map_value line (entries_view c.args.entries.now.entries.items
    ++ written (key_view c.args.key.now) v ∷ []) in
    ap (λ b. with_check x (check (not m || b) BadMerge)) s.merging
    ∙ ap (with_check x) (check-bad m k
    (ap (λ t. t && not k) c.if-key.true ∙ ap not c.if-not-last.true))

pub returns : goal.returns
returns c = λ line v s b.
    let m = c.args.key.now.merges in
    let k = c.args.last.now.mergeable in
    let n = c.args.last.now.least in
    let ws = entries_view c.args.entries.now.entries.items in
    let w = written (key_view c.args.key.now) v in
    let all = ws ++ w ∷ [] in
    let x = map_value line all in
    let told : ((m && not k) ≡ false) × (c.if-key.least ≡ (if m then 1 else min (n + 1) 33)) =
    elim c.if-key.branch [
      | then-key+else-not-last u ↦ (
        ap (λ t. t && not k) u.if-key.true ∙ ap not u.if-not-last.false,
        u.least-is ∙ sym (ap (λ t. if t then 1 else min (n + 1) 33) u.if-key.true),
      )
      | else-key u ↦ (
        ap (λ t. t && not k) u.if-key.false,
        omega (
          arith,
          u.least-is,
          u.min-least.ensures,
          ap (λ t. if t then 1 else min (n + 1) 33) u.if-key.false,
        ),
      )
    ] in (
      x,
      ap (λ t. with_check x (check (not m || t) BadMerge)) s.merging
          ∙ ap (with_check x) (check-good m k told.0),
      record {
        bounded =
            omega (arith, map-depth all, written_depth-push ws w, b, c.args.entries.now.bounded);
        reached = omega (arith, told.1, least-map ws w n s.reached);
        counted = written_nodes_from-push 1 ws w
            ∙ ap (λ i. plus (plus i (text_nodes w.key)) v.nodes) (sym c.args.entries.now.added_up)
            ∙ ap (λ i. plus (plus c.args.entries.now.nodes i) v.nodes)
            (sym (c.text_nodes-name_nodes.ensures ∙ ap text_nodes c.as_str.ensures.value))
            ∙ ap (plus (plus c.args.entries.now.nodes c.text_nodes-name_nodes.result)) s.counted
            ∙ sym (c.plus-2.ensures ∙ ap (λ i. plus i c.args.last.now.nodes) c.plus.ensures);
        map = refl;
        merging = refl;
      },
    )
