-- What a caller of `generate` gets for each point that a choice hits.
use Rattle.std.proofs.Common.{◌≡◌, ◌≤◌, ℕ, List, map, Some, sym, ap, subst, ◌∙◌, slice_get}
use Rattle.std.proofs.lemmas.List.Elements.{All-contains}
use Rattle.rvs_base.specs.Host.{Files}
use Rattle.rvs_insn.specs.Isa.{Isa}
use Rattle.rvs_cgf.specs.Groups.{Label, Point}
use Rattle.rvs_log.specs.Logs.{as_entry}
use Rattle.rvs_index.specs.Counting.{count}
use Rattle.rvs_solver.specs.Solving.{IsSolvableAt}
use Rattle.rvs_generate.specs.Tests.{run_on}
use Rattle.rvs_promises.specs.Headline.{IsKept, HasProvedTest}
use Rattle.rvs_uses.specs.Laws.{MakesTests}
use Rattle.rvs_uses.specs.Testing.{HitsPoint}

-- the header names the point, and the line that names it is kept
hits : (files : Files) (path : List ℕ) (isa : Isa) (l : Label) (k : ℕ) (p : Point)
    → HasProvedTest files path isa l → slice_get l.points k ≡ Some p → IsSolvableAt isa l k
    → HitsPoint files path isa l p
hits files path isa l k p t is solvable =
    let o = run_on isa t.proved.image t.proved.steps in
    let line = t.proved.others k p is solvable in
    let kept = All-contains (IsKept isa l t.proved.image o) t.proved.names line.0 t.proved.kept
    line.1 in
    let both : Some kept.point ≡ Some p =
    sym kept.is ∙ ap (slice_get l.points) (sym (kept.no_other k p is line.2)) ∙ is in
    let same : kept.point ≡ p = cc in
    record {
      bytes = t.bytes;
      there = t.there;
      image = t.proved.image;
      alone = t.proved.alone;
      steps = t.proved.steps;
      header = t.proved.header;
      halts = t.proved.halts;
      within = t.proved.within;
      counted = subst
          (λ (x : Point). 1 ≤ count (map as_entry o.trace) (record { ops = l.ops; point = x })) same
          kept.counted;
    }

pub makes-tests : MakesTests
makes-tests call files files' asked p told asks done new =
    let g = p.generate files asked told asks in
    let h = g.answered.done done in
    record {
      inputs = h.given;
      accepted = h.accepted;
      tests = λ l k point there selected is solvable. hits files' _ h.given.isa l k point
          (g.each h.given l k files' h.accepted there selected solvable done new) is solvable;
    }
