use Rattle.std.proofs.Common.{◌≡◌, ◌++◌, ◌∷◌, [], ℕ, List, replicate, ap, ◌∙◌, arith}
use Rattle.std.proofs.lemmas.List.{append_assoc, replicate_more}
use Rattle.rvs_elf.proofs.writing.put_zeros.Goals as goal

pub returns : goal.returns
returns c =
    let all : c.loop.counter ≡ c.args.count = omega arith in
    c.loop.invariant ∙ ap (λ (n : ℕ). c.args.out.now.items ++ replicate n 0) all

pub loop-preserved : goal.loop-preserved
loop-preserved c =
    let old = c.args.out.now.items in
    let n = c.loop.counter in
    c.in_ok-push.ensures.items ∙ ap (λ (l : List ℕ). l ++ 0 ∷ []) c.loop.invariant
    ∙ append_assoc old (replicate n 0) (0 ∷ [])
    ∙ ap (λ (l : List ℕ). old ++ l) (replicate_more n 0)
