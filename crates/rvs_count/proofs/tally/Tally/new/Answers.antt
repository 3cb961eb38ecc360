use Rattle.std.proofs.Common.{◌≡◌, ◌≤◌, ◌<◌, ◌∙◌, ap, ℕ, List, [], All, length, replicate, subst}
use Rattle.std.proofs.Common.{sym, arith}
use Rattle.std.proofs.Common.{Global, Vec}
use Rattle.std.proofs.lemmas.List.{length-replicate}
use Rattle.std.proofs.lemmas.List.Elements.{All-replicate}
use Rattle.rvs_insn.specs.Fields.{Fields}
use Rattle.rvs_points.specs.declared.group.Label.{Label}
use Rattle.rvs_index.specs.Counting.{aims_in}
use Rattle.rvs_index.specs.State.{followed}
use Rattle.rvs_index.proofs.Built.{new_tally}
use Rattle.rvs_index.proofs.Following.{followed_nil}
use Rattle.rvs_count.proofs.tally.Tally.new.Goals as goal

-- counts that are there are fewer than a list may have
few : (labels : List Label) (counts : Vec ℕ Global)
    → counts.items ≡ replicate {A = ℕ} (length (aims_in labels)) 0
    → length (aims_in labels) < 9223372036854775808
few labels counts is =
    let all = length-replicate {A = ℕ} (length (aims_in labels)) 0 in
    let same = ap (λ (l : List ℕ). length l) is in
    omega (arith, all, same, counts.ok.0, counts.small)

low : (n : ℕ) (counts : List ℕ) → counts ≡ replicate {A = ℕ} n 0 → All (λ (n : ℕ). n ≤ 0) counts
low n counts is =
    let P : List ℕ → Type 0 = λ l. All (λ (n : ℕ). n ≤ 0) l in
    subst P (sym is) (All-replicate (λ (n : ℕ). n ≤ 0) n 0 (omega arith))

nothing : (labels : List Label) (run : List Fields) → run ≡ [] → run ≡ followed labels run
nothing labels run is =
    is ∙ sym (followed_nil labels) ∙ ap (λ (r : List Fields). followed labels r) (sym is)

pub new-requires : goal.new-requires
new-requires c =
    record {
      room = few c.as_slice-labels.result.now c.in_ok-counts.counts c.in_ok-counts.ensures;
    }

pub new-requires-2 : goal.new-requires-2
new-requires-2 c =
    record {
      room = few c.as_slice-labels.result.now c.in_ok-counts.counts c.in_ok-counts.ensures;
    }

pub returns : goal.returns
returns c =
    let labels = c.as_slice-labels.ensures in
    new_tally c.args.groups.now c.in_ok-index.index c.args.windows c.in_ok-counts.counts.items
    c.new-4.result c.new-3.result (c.in_ok-index.ensures ∙ labels)
    (c.in_ok-counts.ensures
    ∙ ap (λ (ls : List Label). replicate {A = ℕ} (length (aims_in ls)) 0) labels)
    c.new-4.ensures c.new-3.ensures

pub invariant_of-result : goal.invariant_of-result
invariant_of-result c =
    record {
      crosses = c.in_ok-crosses.ensures ∙ sym c.in_ok-index.ensures;
      count =
          ap (λ (l : List ℕ). length l) c.in_ok-counts.ensures ∙ length-replicate _ 0
          ∙ ap (λ (ls : List Label). length (aims_in ls)) (sym c.in_ok-index.ensures);
      low = low (length (aims_in c.as_slice-labels.result.now)) _ c.in_ok-counts.ensures;
      follows = nothing c.in_ok-index.index c.new-3.result c.new-3.ensures;
    }
