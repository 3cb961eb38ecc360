use Rattle.std.proofs.Common.{◌≡◌, ◌+◌, ◌-◌, ◌<◌, ◌∷◌, ◌++◌, [], ◌∙◌, sym, ap, arith, length, take}
use Rattle.std.proofs.Common.{◌≤◌, List}
use Rattle.std.proofs.lemmas.List.{take_more}
use Rattle.std.specs.Prelude.{get_or}
use Rattle.rvs_yaml.specs.Flow.{last_fits, entry_fits}
use Rattle.rvs_tree.specs.ValueView.{written_view, entries_view}
use Rattle.rvs_tree.specs.declared.written.Written.{Written}
use Rattle.rvs_tree.proofs.Sums.{map-append, take_whole}
use Rattle.rvs_yaml.proofs.FlowRuns.{last_fits-push}
use Rattle.rvs_yaml.proofs.flow.last_fits.Goals as goal

-- the last of some entries tells
by_last : (es : List Written) (last : Written) → 1 ≤ length es
    → last ≡ get_or es (length es - 1) last
    → last_fits (entries_view es) ≡ entry_fits (written_view last)
by_last es last some is =
    let m = length es - 1 in
    let one : m + 1 ≡ length es = omega arith in
    let here : m < length es = omega arith in
    let cut : es ≡ take m es ++ last ∷ [] = sym (ap (λ n. take n es) one ∙ take_whole es)
    ∙ take_more es m last here ∙ ap (λ x. take m es ++ x ∷ []) (sym is) in
    ap (λ xs. last_fits (entries_view xs)) cut
    ∙ ap last_fits (map-append written_view (take m es) (last ∷ []))
    ∙ last_fits-push (entries_view (take m es)) (written_view last)

pub returns-then-not-last : goal.returns-then-not-last
returns-then-not-last c =
    let last = c.last-item.result in
    let told = by_last c.args.entries.now last c.in-len1-up.len_at_least c.last-item.is in
    grind (arith, told)

pub returns-else-not-last : goal.returns-else-not-last
returns-else-not-last c =
    let last = c.last-item.result in
    let told = by_last c.args.entries.now last c.in-len1-up.len_at_least c.last-item.is in
    grind (arith, told, last.value.merging)
