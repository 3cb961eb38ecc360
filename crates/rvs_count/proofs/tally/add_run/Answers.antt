use Rattle.std.proofs.Common.{◌≡◌, List, ℕ, length, drop, sym, ap, ◌∙◌}
use Rattle.rvs_index.specs.Counting.{aims_in}
use Rattle.rvs_index.specs.State.{added, ends_run}
use Rattle.rvs_index.proofs.Hitting.{added_length}
use Rattle.rvs_index.proofs.Marks.{lent_back}
use Rattle.rvs_count.proofs.tally.add_run.Goals as goal

pub returns : goal.returns
returns c =
    let cs = c.args.counts.now.items in
    let aims = aims_in c.args.crosses.now in
    let new = c.add.new.counts in
    let is : new ≡ added (λ a. ends_run a.point.meaning c.args.run.now) aims cs =
    c.add.ensures
    ∙ ap (λ (l : List ℕ). added (λ a. ends_run a.point.meaning c.args.run.now) aims l)
    c.as_mut_slice.ensures.value in
    let long : length new ≡ c.args.counts.now.len =
    ap (λ (l : List ℕ). length l) is
    ∙ added_length (λ a. ends_run a.point.meaning c.args.run.now) aims cs c.requires.count
    ∙ sym c.requires.count ∙ sym c.args.counts.now.ok.0 in
    lent_back c.args.counts.now.len new (drop (length new) cs) long ∙ is
