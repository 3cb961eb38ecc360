use Rattle.std.proofs.Common.{◌≡◌, ◌+◌, ◌-◌, ◌<◌, ◌∙◌, true, false, sym, ap, subst, arith, length}
use Rattle.rvs_yaml.specs.Chain.{chained}
use Rattle.rvs_yaml.specs.StackView.{done_view}
use Rattle.rvs_yaml.specs.declared.open.Open as code
use Rattle.rvs_yaml.specs.declared.reading.Pending.{Pending}
use Rattle.rvs_yaml.proofs.Chaining.{Looked, looked-more, looked-root}
use Rattle.rvs_yaml.proofs.chain.root_of.Goals as goal

pub loop-i-preserved-in-Entries : goal.loop-i-preserved-in-Entries
loop-i-preserved-in-Entries c =
    let bs = c.args.blocks.now in
    let m = c.loop-i.i - 1 in
    let b = c.index-blocks-i.result in
    let one : c.loop-i.i ≡ m + 1 = omega arith in
    let here : m < length bs = omega (arith, c.loop-i.invariant.inside, c.requires) in
    let merges : chained (done_view b.block.done) false ≡ true =
    ap (λ (x : code.Open). chained (done_view x.block.done) false) c.index-blocks-i.is
    ∙ ap (λ d. chained (done_view d) false) c.in-Entries.is
    ∙ sym (ap (λ (p : Pending). p.key.merges) c.deref.ensures) ∙ c.if-not-deref.false in
    looked-root bs m c.loop-i.root c.args.end b here c.index-blocks-i.is
    (subst (λ i. Looked bs i c.loop-i.root c.args.end) one c.loop-i.invariant) merges

pub loop-i-preserved : goal.loop-i-preserved
loop-i-preserved c =
    let bs = c.args.blocks.now in
    let m = c.loop-i.i - 1 in
    let b = c.index-blocks-i.result in
    let one : c.loop-i.i ≡ m + 1 = omega arith in
    let here : m < length bs = omega (arith, c.loop-i.invariant.inside, c.requires) in
    let passes : chained (done_view b.block.done) true ≡ true =
    grind (arith, c.index-blocks-i.is) in
    looked-more bs m c.loop-i.root c.args.end b here c.index-blocks-i.is
    (subst (λ i. Looked bs i c.loop-i.root c.args.end) one c.loop-i.invariant) passes
