use Rattle.std.proofs.Common.{◌≡◌, rules}
use Rattle.rvs_tree.specs.TreeView.{view}
use Rattle.rvs_isa.specs.Check.{tells_memory}
use Rattle.rvs_isa.proofs.Hart.{hart_says}
use Rattle.rvs_isa.proofs.checks.check_hart.Goals as goal

pub returns : goal.returns
returns c =
    let told : c.is_some.result ≡ tells_memory c.args.hart.now (view c.args.root.now)
    = search rules in
    hart_says c.args.hart.now (view c.args.root.now) _ _ _ _ _ _ c.in_ok-hart_entries.ensures
    c.in_ok-extensions.ensures c.in_ok-xlen_entry.ensures c.in_ok-address_bits.ensures
    c.in_ok-misaligned.ensures c.in_ok-misa_entry.ensures c.in_ok-spec-inside.ensures told
    c.in_ok-unread.ensures
