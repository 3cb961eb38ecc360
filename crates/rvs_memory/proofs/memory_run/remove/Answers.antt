use Rattle.std.proofs.Common.{rules, ap, ◌∙◌}
use Rattle.std.proofs.lemmas.Fn.{filter_same}
use Rattle.rvs_memory.specs.Memory.{without}
use Rattle.rvs_memory.proofs.memory_run.remove.Goals as goal

pub returns : goal.returns
returns c = c.from.ensures
    ∙ filter_same _ _ _ (λ x b f' k. search rules) _ _ c.retain.ensures.filtered
    ∙ ap (without c.args.name.now) (c.into_vec-list.ensures ∙ c.replace.ensures.value)
