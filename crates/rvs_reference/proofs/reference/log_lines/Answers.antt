use Rattle.std.proofs.Common.{◌≡◌, ◌∙◌, ◌+◌, List, ℕ, [], ◌∷◌, ◌++◌, take, ap, sym}
use Rattle.std.proofs.lemmas.List.{append_assoc, flat_map_more, take_more}
use Rattle.rvs_machine.specs.declared.event.Executed.{Executed}
use Rattle.rvs_log.specs.Logs.{log_of}
use Rattle.rvs_log.specs.Written.{line_of}
use Rattle.rvs_reference.proofs.reference.log_lines.Goals as goal

pub loop-executed-preserved : goal.loop-executed-preserved
loop-executed-preserved c =
    let trace = c.args.trace.now in
    let i = c.loop-executed.executed-index in
    let ran = c.executed-item.result in
    let told : c.as_bytes.result.now ≡ line_of ran =
    c.as_bytes.ensures.value ∙ c.as_str.ensures.value ∙ c.log_line.ensures.line in
    let more : take (i + 1) trace ≡ take i trace ++ ran ∷ [] =
    take_more trace i _ c.loop-executed-test.true
    ∙ ap (λ (e : Executed). take i trace ++ e ∷ []) (sym c.executed-item.is) in
    c.in_ok-push.ensures.items
    ∙ ap (λ (lines : List ℕ). lines ++ 10 ∷ [])
    (c.in_ok-extend_from_slice.ensures.items
    ∙ ap (λ (line : List ℕ). c.loop-executed.lines.items ++ line) told
    ∙ ap (λ (lines : List ℕ). lines ++ line_of ran) c.loop-executed.invariant)
    ∙ append_assoc (log_of (take i trace)) (line_of ran) (10 ∷ [])
    ∙ flat_map_more (λ (e : Executed). line_of e ++ 10 ∷ []) [] (take i trace) ran
    ∙ ap log_of (sym more)
