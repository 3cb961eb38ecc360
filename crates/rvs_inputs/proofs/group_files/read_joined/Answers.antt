use Rattle.std.proofs.Common.{◌≡◌, ◌+◌, ◌∷◌, ◌∙◌, List, ℕ, [], Some, Option, Ok, Err, drop, ap, sym}
use Rattle.std.proofs.Common.{subst}
use Rattle.std.proofs.lemmas.List.{drop_more, drop_all}
use Rattle.std.proofs.lemmas.Result.{err_from_is_err_and}
use Rattle.rvs_plan.specs.World.{world}
use Rattle.rvs_plan.specs.Plan.{gives}
use Rattle.rvs_plan.specs.Meets.{Meets}
use Rattle.rvs_plan.proofs.Sequence.{Meets-then, Meets-stop, Meets-gives}
use Rattle.rvs_inputs.specs.GroupFiles.{joins, joins_all}
use Rattle.rvs_inputs.proofs.group_files.read_joined.Goals as goal

pub returns-in_err-join_file : goal.returns-in_err-join_file
returns-in_err-join_file g c = λ out.
    let p = err_from_is_err_and c.from_residual.result c.from_residual.ensures.1 in
    let i = c.loop-name.name-index in
    let front = c.loop-name.front in
    let rest = drop (i + 1) c.args.names.now in
    let old = world (g.H.Host.state c.loop-name.host) out in
    let new = world (g.H.Host.state c.join_file.new.host) out in
    let here : drop i c.args.names.now ≡ c.as_str.result.now ∷ rest =
    drop_more c.args.names.now i _ c.loop-name-test.true
    ∙ ap (λ (x : List ℕ). x ∷ rest) (sym c.name-item.is ∙ sym c.as_str.ensures) in
    let stopped =
    Meets-stop {p = joins front c.as_str.result.now} (λ text. joins_all (Some text) rest)
    (c.in_err-join_file.ensures out) in
    rw (p.1, p.2) (c.loop-name.invariant out new _ (subst (λ (names : List (List ℕ)). Meets
    (joins_all front names) old new (Err c.in_err-join_file.field-0.0)) (sym here) stopped))

pub loop-name-preserved : goal.loop-name-preserved
loop-name-preserved g c = λ out new result later.
    let i = c.loop-name.name-index in
    let front = c.loop-name.front in
    let rest = drop (i + 1) c.args.names.now in
    let old = world (g.H.Host.state c.loop-name.host) out in
    let here : drop i c.args.names.now ≡ c.as_str.result.now ∷ rest =
    drop_more c.args.names.now i _ c.loop-name-test.true
    ∙ ap (λ (x : List ℕ). x ∷ rest) (sym c.name-item.is ∙ sym c.as_str.ensures) in
    let joined =
    Meets-then {p = joins front c.as_str.result.now} (λ text. joins_all (Some text) rest)
    (c.in_ok-join_file.ensures out) later in
    c.loop-name.invariant out new result (subst
    (λ (names : List (List ℕ)). Meets (joins_all front names) old new result) (sym here) joined)

pub returns-in-Some : goal.returns-in-Some
returns-in-Some g c = λ out.
    let w = world (g.H.Host.state c.loop-name.host) out in
    let read : Meets (joins_all c.loop-name.front []) w w (Ok c.in-Some.text) = subst
    (λ (front : Option (List ℕ)). Meets (joins_all front []) w w (Ok c.in-Some.text))
    (sym c.in-Some.is) (Meets-gives c.in-Some.text w) in
    c.loop-name.invariant out w (Ok c.in-Some.text) (subst (λ (names : List (List ℕ)). Meets
    (joins_all c.loop-name.front names) w w (Ok c.in-Some.text)) (sym
    (drop_all c.loop-name.name-index c.args.names.now c.loop-name-test.false)) read)

pub returns-in-None : goal.returns-in-None
returns-in-None g c = λ out.
    let w = world (g.H.Host.state c.loop-name.host) out in
    let none = subst (λ (text : List ℕ). Meets (gives []) w w (Ok text)) (sym c.new.ensures)
    (Meets-gives [] w) in
    let read : Meets (joins_all c.loop-name.front []) w w (Ok c.new.result) = subst
    (λ (front : Option (List ℕ)). Meets (joins_all front []) w w (Ok c.new.result))
    (sym c.in-None.is) none in
    c.loop-name.invariant out w (Ok c.new.result) (subst
    (λ (names : List (List ℕ)). Meets (joins_all c.loop-name.front names) w w (Ok c.new.result))
    (sym (drop_all c.loop-name.name-index c.args.names.now c.loop-name-test.false)) read)
