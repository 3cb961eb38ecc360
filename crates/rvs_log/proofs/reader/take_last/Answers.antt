use Rattle.std.proofs.Common.{◌≡◌, ◌∙◌, Some, ap, arith, sym}
use Rattle.std.specs.Option.{option_copied}
use Rattle.rvs_log.specs.Cutting.{last_of}
use Rattle.rvs_log.proofs.Pieces.{some_waits}
use Rattle.rvs_log.proofs.Streams.{last_none, last_some}
use Rattle.rvs_log.proofs.reader.take_last.Goals as goal

pub returns-in-None-clause-told : goal.returns-in-None-clause-told
returns-in-None-clause-told g c =
    last_none g.C.Consumer.step g.met.C.Consumer.quiet c.args.told.now c.args.follow.now
    (sym c.last.ensures.line ∙ ap (λ o. option_copied o) c.in-None.is)

pub returns-in-Some-clause-told : goal.returns-in-Some-clause-told
returns-in-Some-clause-told g c =
    let line : last_of c.args.follow.now ≡ Some c.in-Some.rest.now = sym c.last.ensures.line
    ∙ ap (λ o. option_copied o) c.in-Some.is in
    c.take_line.ensures
    ∙ last_some g.C.Consumer.step c.args.told.now c.args.follow.now c.in-Some.rest.now line

pub take_line-requires : goal.take_line-requires
take_line-requires g c =
    let line : last_of c.args.follow.now ≡ Some c.in-Some.rest.now = sym c.last.ensures.line
    ∙ ap (λ o. option_copied o) c.in-Some.is in
    omega (arith, some_waits c.args.follow.now c.in-Some.rest.now line, c.requires)
