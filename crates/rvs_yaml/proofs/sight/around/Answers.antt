use Rattle.std.proofs.Common.{◌≡◌, ◌+◌, ◌∙◌, Bool, List, ℕ, sym, ap, subst, arith, refl, take, min}
use Rattle.rvs_tree.specs.Value.{Value}
use Rattle.rvs_tree.specs.ValueView.{values_view}
use Rattle.rvs_yaml.specs.Chain.{in_chain, chain_keys}
use Rattle.rvs_yaml.specs.Seen.{Steps}
use Rattle.rvs_yaml.specs.Stack.{Done, done_items}
use Rattle.rvs_yaml.specs.StackView.{done_view, stack_view}
use Rattle.rvs_yaml.specs.declared.open.Open as code
use Rattle.rvs_yaml.specs.declared.seen.Seen.{Seen}
use Rattle.rvs_yaml.proofs.Chaining.{same-at}
use Rattle.rvs_yaml.proofs.Seeing.{list-step}
use Rattle.rvs_yaml.proofs.sight.around.Goals as goal

list-by : (d : Done) (vs : List Value) (inside : Bool) (keys : List (List ℕ)) (s new : Seen)
    → d ≡ done_items vs → new.depth ≡ min (s.depth + 1) 33 → new.depths ≡ s.depths
    → Steps d inside keys s new
list-by d vs inside keys s new e h k =
    subst (λ x. Steps x inside keys s new) (sym e) (list-step vs inside keys s new h k)

pub returns-in-Items : goal.returns-in-Items
returns-in-Items c = λ b is.
    let all = c.args.blocks.now in
    let bs = stack_view (take c.args.place all) in
    let vs = values_view c.in-Items.field-0.values.items in
    let d : done_view b.block.done ≡ done_items vs =
    ap (λ (o : code.Open). done_view o.block.done)
    (is ∙ same-at all c.args.place b c.index-blocks-place.result c.requires)
    ∙ ap done_view c.in-Items.is in
    let deep : c.min.result ≡ min (c.args.seen.depth + 1) 33 = omega (arith, c.min.ensures) in
    list-by (done_view b.block.done) vs (in_chain bs) (chain_keys bs) c.args.seen _ d deep refl
