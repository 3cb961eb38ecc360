use Rattle.std.proofs.Common.{◌≡◌, sym, ap, ◌∙◌, ◌++◌, ◌∷◌, [], List, ℕ}
use Rattle.rvs_tree.specs.Data.{members_of, text_of}
use Rattle.rvs_tree.specs.TreeView.{view}
use Rattle.rvs_device.proofs.Scalars.{no-texts, texts-more, scalars-more}
use Rattle.rvs_device.proofs.reading.scalar_texts.Goals as goal

pub returns-then-not-is_scalar : goal.returns-then-not-is_scalar
returns-then-not-is_scalar c =
    sym (no-texts (view c.args.entry.now) c.loop-i.i (view c.item-item.result.now)
    c.item-item.ensures (sym c.if-not-is_scalar.ensures))

pub loop-i-preserved : goal.loop-i-preserved
loop-i-preserved c =
    let members = members_of (view c.args.entry.now) in
    let item = view c.item-item.result.now in
    let text : c.from.result ≡ text_of item =
    c.from.ensures ∙ c.in_ok-from_str.ensures.ok ∙ c.text.ensures in
    record {
      texts = c.in_ok-push.ensures.added ∙ ap (λ (t : List ℕ). c.loop-i.texts ++ t ∷ []) text
          ∙ texts-more c.loop-i.texts members c.loop-i.i item c.item-item.ensures
          c.loop-i.invariant.texts;
      scalars = scalars-more members c.loop-i.i item c.item-item.ensures c.loop-i.invariant.scalars
          (sym c.if-not-is_scalar.ensures);
    }
