use Rattle.std.proofs.Common.{◌≡◌, ◌++◌, false, ◌∙◌, ap, append-nil, sym}
use Rattle.rvs_index.specs.Index.{admits, places}
use Rattle.rvs_index.proofs.Built.{places_barred}
use Rattle.rvs_index.proofs.slots.add_label.Goals as goal

pub returns-then-not-admits-clause-slots : goal.returns-then-not-admits-clause-slots
returns-then-not-admits-clause-slots c =
    let slots = places c.args.slots.now in
    let none : admits c.args.key c.args.label.now.ops ≡ false =
    ap (λ os. admits c.args.key os) (sym c.as_slice.ensures) ∙ sym c.if-not-admits.ensures in
    sym (ap (λ l. slots ++ l) (places_barred c.args.key c.args.label.now c.args.first
    c.if-not-label.false none) ∙ append-nil slots)
