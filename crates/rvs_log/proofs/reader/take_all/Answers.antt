use Rattle.std.proofs.Common.{◌≡◌, ◌≤◌, ◌+◌, ◌∷◌, [], ◌∙◌, ap, sym, length, drop, take, arith}
use Rattle.std.proofs.Common.{length-drop}
use Rattle.std.specs.Option.{option_copied}
use Rattle.rvs_log.specs.Cutting.{held_after, lines_after, one_or_none}
use Rattle.rvs_log.specs.Grammar.{reading_of}
use Rattle.rvs_log.specs.Streams.{told_all}
use Rattle.rvs_log.proofs.Pieces.{rest_low, some_used}
use Rattle.rvs_log.proofs.Streams.{held_line, held_rest, line_low, told_line, told_rest}
use Rattle.rvs_log.proofs.reader.take_all.Goals as goal

pub returns-in-None-clause-told : goal.returns-in-None-clause-told
returns-in-None-clause-told g c =
    let used : c.next-cut.result.used
    ≡ length c.lines.rest.now = rw c.in-None.is at c.next-cut.ensures.whole in
    let none : lines_after c.lines.follow (take c.next-cut.result.used c.lines.rest.now) ≡ [] =
    c.next-cut.ensures.line ∙ ap (λ o. one_or_none (option_copied o)) c.in-None.is in
    c.lines.invariant.told
    ∙ told_rest g.C.Consumer.step g.met.C.Consumer.quiet c.lines.told c.lines.follow
    c.lines.rest.now c.next-cut.result.used used none

pub returns-in-None-clause-waits : goal.returns-in-None-clause-waits
returns-in-None-clause-waits g c =
    let used : c.next-cut.result.used
    ≡ length c.lines.rest.now = rw c.in-None.is at c.next-cut.ensures.whole in
    c.lines.invariant.waits
    ∙ held_rest c.lines.follow c.next-cut.follows.lender-at-none c.lines.rest.now
    c.next-cut.result.used used c.next-cut.follows.holds-at-none

pub returns-in-None-clause-low : goal.returns-in-None-clause-low
returns-in-None-clause-low g c =
    omega (
      arith,
      rest_low c.lines.follow c.next-cut.follows.lender-at-none c.lines.rest.now
          c.next-cut.result.used c.next-cut.follows.holds-at-none,
      c.lines.invariant.low,
    )

pub lines-smaller : goal.lines-smaller
lines-smaller g c =
    let line : lines_after c.lines.follow (take c.next-cut.result.used c.lines.rest.now)
    ≡ c.in-Some.line.now ∷ [] =
    c.next-cut.ensures.line ∙ ap (λ o. one_or_none (option_copied o)) c.in-Some.is in
    let left : length c.back_of-rest.result.now
    ≡ length (drop c.next-cut.result.used c.lines.rest.now) =
    ap (λ l. length l) c.back_of-rest.ensures in
    omega (
      arith,
      some_used c.lines.follow c.lines.rest.now c.in-Some.line.now c.next-cut.result.used line,
      left,
      length-drop c.next-cut.result.used c.lines.rest.now,
      c.next-cut.ensures.used,
    )

pub lines-preserved : goal.lines-preserved
lines-preserved g c =
    let line : lines_after c.lines.follow (take c.next-cut.result.used c.lines.rest.now)
    ≡ c.in-Some.line.now ∷ [] =
    c.next-cut.ensures.line ∙ ap (λ o. one_or_none (option_copied o)) c.in-Some.is in
    let count = g.C.Consumer.count in
    let few : count c.take_line.new.self ≤ count c.lines.told + 1 = omega (
      arith,
      ap count c.take_line.ensures,
      g.met.C.Consumer.adds c.lines.told (reading_of c.in-Some.line.now),
    ) in
    record {
      low =
          line_low (count c.lines.told) (count c.take_line.new.self) c.lines.follow
          c.next-cut.follows.lender-at-none
          c.lines.rest.now c.back_of-rest.result.now c.in-Some.line.now c.next-cut.result.used _
          line c.next-cut.follows.holds-at-none few c.back_of-rest.ensures
          c.lines.invariant.low;
      told =
          c.lines.invariant.told
          ∙ told_line g.C.Consumer.step g.met.C.Consumer.quiet c.lines.told c.lines.follow
          c.next-cut.follows.lender-at-none c.lines.rest.now c.in-Some.line.now
          c.next-cut.result.used line c.next-cut.follows.holds-at-none
          ∙ ap (λ t. told_all g.C.Consumer.step t c.next-cut.follows.lender-at-none
          (drop c.next-cut.result.used c.lines.rest.now)) (sym c.take_line.ensures)
          ∙ ap (λ l. told_all g.C.Consumer.step c.take_line.new.self
          c.next-cut.follows.lender-at-none l) (sym c.back_of-rest.ensures);
      waits =
          c.lines.invariant.waits
          ∙ held_line c.lines.follow c.next-cut.follows.lender-at-none c.lines.rest.now
          c.next-cut.result.used c.next-cut.follows.holds-at-none
          ∙ ap (λ l. held_after c.next-cut.follows.lender-at-none l) (sym c.back_of-rest.ensures);
    }
