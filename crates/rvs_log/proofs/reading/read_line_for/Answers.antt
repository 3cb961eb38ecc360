use Rattle.std.proofs.Common.{ap, sym, ◌∙◌, arith}
use Rattle.std.proofs.lemmas.Bool.Decides.{nat_tests}
use Rattle.std.specs.Option.{option_map}
use Rattle.rvs_log.specs.Grammar.{Says, or_nothing, writes}
use Rattle.rvs_log.specs.declared.reading.Record.{Record}
use Rattle.rvs_log.proofs.Starts.{core_line, empty_line, no_line, sail_line, write_alone}
use Rattle.rvs_log.proofs.reading.read_line_for.Goals as goal

pub returns-in-empty-clause-said : goal.returns-in-empty-clause-said
returns-in-empty-clause-said _ c = empty_line c.args.line.now c.in-empty.len_below

pub returns-in-Some-clause-said : goal.returns-in-Some-clause-said
returns-in-Some-clause-said _ c =
    ap or_nothing (sym (ap (option_map (λ (r : Record). Says r.pc r.word r.commit)) c.in-Some.is)
    ∙ c.commit_log_line.ensures.said)
    ∙ core_line c.args.line.now c.in-len1-up.len_at_least c.in-99.is

pub returns-in-None-clause-said : goal.returns-in-None-clause-said
returns-in-None-clause-said _ c =
    ap or_nothing (sym (ap (option_map (λ (r : Record). Says r.pc r.word r.commit)) c.in-None.is)
    ∙ c.commit_log_line.ensures.said)
    ∙ core_line c.args.line.now c.in-len1-up.len_at_least c.in-99.is

pub returns-in-Some-sail_log_line-clause-said : goal.returns-in-Some-sail_log_line-clause-said
returns-in-Some-sail_log_line-clause-said _ c =
    ap or_nothing (sym (ap (option_map (λ (r : Record). Says r.pc r.word r.commit))
    c.in-Some-sail_log_line.is) ∙ c.sail_log_line.ensures.said)
    ∙ sail_line c.args.line.now c.in-len1-up.len_at_least c.in-91.is

pub returns-in-None-sail_log_line-clause-said : goal.returns-in-None-sail_log_line-clause-said
returns-in-None-sail_log_line-clause-said _ c =
    ap or_nothing (sym (ap (option_map (λ (r : Record). Says r.pc r.word r.commit))
    c.in-None-sail_log_line.is) ∙ c.sail_log_line.ensures.said)
    ∙ sail_line c.args.line.now c.in-len1-up.len_at_least c.in-91.is

pub returns-in-Some-commit_line-clause-said : goal.returns-in-Some-commit_line-clause-said
returns-in-Some-commit_line-clause-said _ c =
    ap (λ w. or_nothing (writes w)) (sym c.in-Some-commit_line.is ∙ c.commit_line.ensures)
    ∙ write_alone c.args.line.now c.in-len1-up.len_at_least c.in-120.is

pub returns-in-None-commit_line-clause-said : goal.returns-in-None-commit_line-clause-said
returns-in-None-commit_line-clause-said _ c =
    ap (λ w. or_nothing (writes w)) (sym c.in-None-commit_line.is ∙ c.commit_line.ensures)
    ∙ write_alone c.args.line.now c.in-len1-up.len_at_least c.in-120.is

pub returns-in_default-clause-said : goal.returns-in_default-clause-said
returns-in_default-clause-said _ c =
    no_line c.args.line.now c.in-len1-up.len_at_least (grind (arith, nat_tests, c.in_default))
    (grind (arith, nat_tests, c.in_default)) (grind (arith, nat_tests, c.in_default))
