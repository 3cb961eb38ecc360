use Rattle.std.proofs.Common.{◌+◌, sym, ap, ◌∙◌}
use Rattle.rvs_log.proofs.Logs.{commit_size, line_length}
use Rattle.rvs_log.proofs.written.log_line_length.Goals as goal

pub returns-in-None : goal.returns-in-None
returns-in-None c = sym (line_length c.args.e.now c.is_small.ensures
    ∙ ap (λ w. 35 + commit_size w) c.in-None.is)

pub returns-in-Some : goal.returns-in-Some
returns-in-Some c = sym (line_length c.args.e.now c.is_small.ensures
    ∙ ap (λ w. 35 + commit_size w) c.in-Some.is)
