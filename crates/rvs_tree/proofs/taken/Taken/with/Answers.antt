use Rattle.std.proofs.Common.{◌∙◌, sym, ap, bytes_eq}
use Rattle.std.specs.Prelude.{◌||◌}
use Rattle.rvs_tree.specs.Value.{has_key}
use Rattle.rvs_tree.specs.GatheredView.{taken_view}
use Rattle.rvs_tree.proofs.Drafts.{taken-push, taken-has}
use Rattle.rvs_tree.proofs.taken.Taken.with.Goals as goal

pub invariant_of-result : goal.invariant_of-result
invariant_of-result c =
    let old = c.args.self in
    let key = c.args.key.now in
    let names = taken-push old.names.items c.push.new.self.items c.in_ok-name.name key
    c.in_ok-push.ensures.items c.in_ok-name.ensures.ok in
    record {
      known = λ k.
          c.in_ok-set.ensures k ∙ ap (λ b. b || bytes_eq key k) (old.known k)
          ∙ taken-has k key (taken_view old) ∙ sym (ap (has_key k) names);
    }

pub returns : goal.returns
returns c =
    taken-push c.args.self.names.items c.push.new.self.items c.in_ok-name.name c.args.key.now
    c.in_ok-push.ensures.items c.in_ok-name.ensures.ok
