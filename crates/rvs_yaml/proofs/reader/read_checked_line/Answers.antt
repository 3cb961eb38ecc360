use Rattle.std.proofs.Common.{◌≡◌, ◌∙◌, List, sym, ap, subst, Ok}
use Rattle.rvs_yaml.specs.Checks.{Checked, ◌>>=◌, ◌>>◌}
use Rattle.rvs_yaml.specs.Front.{checked_front}
use Rattle.rvs_yaml.specs.Reader.{kept}
use Rattle.rvs_yaml.specs.Stack.{Open}
use Rattle.rvs_yaml.proofs.Giving.{fails_to}
use Rattle.rvs_yaml.specs.Reach.{KeepsDepth}
use Rattle.rvs_yaml.specs.StackView.{stack_view, open_blocks}
use Rattle.rvs_yaml.proofs.Following.{line-kept}
use Rattle.rvs_yaml.proofs.Segments.{keeps-anchored, checked-anchored}
use Rattle.rvs_yaml.proofs.WholeLines.{line-blank, checked-nothing}
use Rattle.rvs_yaml.proofs.reader.read_checked_line.Goals as goal

pub returns-then-is_text : goal.returns-then-is_text
returns-then-is_text c =
    let blank = sym c.is_blank.ensures ∙ c.if-is_blank.true in
    let text = sym c.is_text.ensures ∙ c.if-is_text.true in
    checked-nothing (open_blocks c.args.stack) _ c.args.line c.args.started c.args.bytes.now
    (line-blank c.args.line c.args.started c.args.bytes.now text blank) c.requires
    c.in_ok-stack.ensures

pub check_front-requires : goal.check_front-requires
check_front-requires c =
    let s = c.in_ok-stack.stack in
    subst (λ bs. KeepsDepth (stack_view bs)) (sym c.as_slice.ensures.value)
    (keeps-anchored s.anchors.anchors.items s.blocks.items
    (line-kept (open_blocks c.args.stack) (open_blocks s) c.args.line c.args.started
    c.args.bytes.now c.requires c.in_ok-stack.ensures))

pub returns-in-Err : goal.returns-in-Err
returns-in-Err c =
    let s = c.in_ok-stack.stack in
    let same : checked_front (open_blocks s) ≡ checked_front (stack_view c.as_slice.result.now) =
    checked-anchored s.anchors.anchors.items s.blocks.items
    ∙ sym (ap (λ bs. checked_front (stack_view bs)) c.as_slice.ensures.value) in
    fails_to _ (checked_front (stack_view c.as_slice.result.now)) _
    (λ kind is. ap (λ m. m >>= kept) c.in_ok-stack.ensures
    ∙ ap (λ m. m >> (let r : Checked (List Open) = Ok (open_blocks s) in r)) (same ∙ is))
    c.in-Err.ensures.given

pub returns-in-Ok : goal.returns-in-Ok
returns-in-Ok c =
    let s = c.in_ok-stack.stack in
    let same : checked_front (open_blocks s) ≡ checked_front (stack_view c.as_slice.result.now) =
    checked-anchored s.anchors.anchors.items s.blocks.items
    ∙ sym (ap (λ bs. checked_front (stack_view bs)) c.as_slice.ensures.value) in
    ap (λ m. m >>= kept) c.in_ok-stack.ensures
    ∙ ap (λ m. m >> (let r : Checked (List Open) = Ok (open_blocks s) in r))
    (same ∙ c.in-Ok.ensures.given)
