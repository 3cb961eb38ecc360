use Rattle.std.proofs.Common.{◌≡◌, ◌++◌, drop, flat_map}
use Rattle.rvs_isa.specs.Print.{said_lines, unread_line}
use Rattle.rvs_isa.proofs.print.print_checked.Given as goal

abbrev pub invariant-loop-path : goal.invariant-loop-path
invariant-loop-path l = l.text ++ flat_map unread_line (drop l.path-index l.path-items)
    ≡ said_lines l.c ++ flat_map unread_line l.c.unread
