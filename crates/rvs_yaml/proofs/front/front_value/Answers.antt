use Rattle.std.proofs.Common.{◌≡◌, ◌∙◌, ◌+◌, ◌-◌, ◌<◌, Ok, sym, ap, arith, length, take, zero}
use Rattle.std.proofs.Common.{get_or}
use Rattle.std.proofs.lemmas.Result.{err_from_is_err_and}
use Rattle.rvs_tree.proofs.Sums.{take_whole}
use Rattle.rvs_tree.specs.Value.{scalar_value}
use Rattle.rvs_tree.specs.ValueView.{value_view}
use Rattle.rvs_yaml.specs.Checks.{◌>>=◌}
use Rattle.rvs_yaml.specs.Front.{own_value, ends, front_value}
use Rattle.rvs_yaml.specs.StackView.{done_view, open_view, stack_view}
use Rattle.rvs_yaml.specs.StepParts.{closed_value}
use Rattle.rvs_yaml.proofs.Giving.{fails_first}
use Rattle.rvs_yaml.proofs.Lookups.{stack-more}
use Rattle.rvs_yaml.proofs.Sketching.{no_last, stack-top}
use Rattle.rvs_yaml.proofs.front.front_value.Goals as goal

pub returns-in_default : goal.returns-in_default
returns-in_default c =
    no_last c.args.blocks.now c.in_default.ensures.value
    ∙ ap Ok (sym (c.in_ok-scalar_value.ensures.value
    ∙ ap (λ s. scalar_value s 1) c.new.ensures.bytes))

pub loop-i-init : goal.loop-i-init
loop-i-init c =
    let bs = c.args.blocks.now in
    let own = own_value (open_view c.in-Some.top.now) in
    let top = stack-top bs c.in-Some.top.now c.in-Some.ensures.value in
    record {
      inside = omega arith;
      same = ap (λ v. ends v (stack_view (take (length bs) bs))) c.in_ok-value.ensures
          ∙ ap (λ xs. ends own (stack_view xs)) (take_whole bs) ∙ ap (ends own) top
          ∙ sym (ap front_value top);
    }

pub returns-in_err-value-in-Ok : goal.returns-in_err-value-in-Ok
returns-in_err-value-in-Ok c =
    let bs = c.args.blocks.now in
    let m = c.loop-i.i - 1 in
    let one : c.loop-i.i ≡ m + 1 = omega arith in
    let here : m < length bs = omega (arith, c.loop-i.invariant.inside) in
    let b = get_or bs m c.index-blocks-i.result in
    let v = value_view c.loop-i.value in
    let rest = stack_view (take m bs) in
    let e = sym (ap (ends v) (stack-more bs m c.index-blocks-i.result here))
    ∙ sym (ap (λ n. ends v (stack_view (take n bs))) one) ∙ c.loop-i.invariant.same in
    let same : closed_value (done_view c.in-Ok.done) b.block.line v
    ≡ closed_value (done_view b.block.done) b.block.line v =
    ap (λ d. closed_value d b.block.line v) c.in-Ok.ensures in
    let p = err_from_is_err_and c.from_residual-in_err-value-in-Ok.result
    c.from_residual-in_err-value-in-Ok.ensures.1 in
    rw (p.1, p.2) (fails_first _ (closed_value (done_view c.in-Ok.done) b.block.line v)
    (λ w. ends w rest) _
    (ap (λ m. m >>= λ w. ends w rest) same ∙ e) c.in_err-value-in-Ok.ensures.given)

pub loop-i-preserved : goal.loop-i-preserved
loop-i-preserved c =
    let bs = c.args.blocks.now in
    let m = c.loop-i.i - 1 in
    let one : c.loop-i.i ≡ m + 1 = omega arith in
    let here : m < length bs = omega (arith, c.loop-i.invariant.inside) in
    let b = get_or bs m c.index-blocks-i.result in
    let v = value_view c.loop-i.value in
    let rest = stack_view (take m bs) in
    let same : closed_value (done_view c.in-Ok.done) b.block.line v
    ≡ closed_value (done_view b.block.done) b.block.line v =
    ap (λ d. closed_value d b.block.line v) c.in-Ok.ensures in
    record {
      inside = omega (arith, c.loop-i.invariant.inside);
      same = sym (ap (λ r. r >>= λ w. ends w rest) c.in_ok-value-in-Ok.ensures.given)
          ∙ ap (λ r. r >>= λ w. ends w rest) same
          ∙ sym (ap (ends v) (stack-more bs m c.index-blocks-i.result here))
          ∙ sym (ap (λ n. ends v (stack_view (take n bs))) one) ∙ c.loop-i.invariant.same;
    }

pub returns : goal.returns
returns c =
    let bs = c.args.blocks.now in
    let none : c.loop-i.i ≡ zero = omega arith in
    sym c.loop-i.invariant.same
    ∙ ap (λ n. ends (value_view c.loop-i.value) (stack_view (take n bs))) none
