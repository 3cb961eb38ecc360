use Rattle.std.proofs.Common.{◌≡◌, ◌≤◌, ℕ, [], All, List, ap, arith, length, subst, sym, ◌∙◌}
use Rattle.rvs_index.specs.Counting.{aims_in}
use Rattle.rvs_index.specs.Index.{added_lasts, lengths_to}
use Rattle.rvs_index.proofs.Lengths.{lengths_ends, lengths_few, lengths_some, none_there}
use Rattle.rvs_index.proofs.crosses.Crosses.add.Goals as goal

pub add_lasts-requires-clause-some : goal.add_lasts-requires-clause-some
add_lasts-requires-clause-some c =
    let all = aims_in c.self.inside.labels.now in
    let P : List ℕ → Type 0 = λ ns. All (λ (n : ℕ). 1 ≤ n) ns in
    subst P (sym (c.as_slice-lengths.ensures ∙ c.self.invariant.lengths)) (lengths_some all 6)

pub add_lasts-requires-clause-short : goal.add_lasts-requires-clause-short
add_lasts-requires-clause-short c =
    let all = aims_in c.self.inside.labels.now in
    let same = ap (λ ns. length ns) (c.as_slice-lengths.ensures ∙ c.self.invariant.lengths) in
    omega (arith, same, lengths_few all 6)

pub returns-then-not-is_empty : goal.returns-then-not-is_empty
returns-then-not-is_empty c =
    let run = c.args.run.now in
    let cs = c.args.counts.now in
    let aims = aims_in c.args.self.now in
    let all : c.as_slice-lengths.result.now ≡ lengths_to aims 6 =
    c.as_slice-lengths.ensures
    ∙ c.self.invariant.lengths
    ∙ ap (λ ls. lengths_to (aims_in ls) 6) c.self.view_is in
    c.add_lasts.ensures
    ∙ ap (λ ns. added_lasts ns run aims cs) all
    ∙ lengths_ends c.args.self.now run cs

pub returns-else-not-is_empty : goal.returns-else-not-is_empty
returns-else-not-is_empty c =
    let run = c.args.run.now in
    let cs = c.args.counts.now in
    let aims = aims_in c.args.self.now in
    let all : c.as_slice-lengths.result.now ≡ lengths_to aims 6 =
    c.as_slice-lengths.ensures
    ∙ c.self.invariant.lengths
    ∙ ap (λ ls. lengths_to (aims_in ls) 6) c.self.view_is in
    let none : c.as_slice-lengths.result.now ≡ [] =
    none_there c.as_slice-lengths.result.now (sym c.is_empty.ensures ∙ c.if-not-is_empty.false) in
    ap (λ ns. added_lasts ns run aims cs) (sym none ∙ all) ∙ lengths_ends c.args.self.now run cs
