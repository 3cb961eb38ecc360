-- What the search rests on: an expression depends on the facts that it names, and a whole that is
-- true makes its parts true.
use Rattle.std.proofs.Common.{◌≡◌, true, List, map, Some, None}
use Rattle.rvs_expr_text.specs.declared.lexeme.NumName.{NumName}
use Rattle.rvs_expr.specs.Typed.{Formula}
use Rattle.rvs_expr.specs.Meaning.{Table}
use Rattle.rvs_expr.specs.Only.{only_numbers}
use Rattle.rvs_expr.proofs.Frames as frames
use Rattle.rvs_solver.specs.Truth.{holds, uses, part_of, holds_within, num_at}

pub frame : (e : Formula) (t u : Table) → only_numbers e ≡ true
    → ((name : NumName) → uses e name ≡ true → num_at t name ≡ num_at u name)
    → holds e t ≡ holds e u
unfolding holds uses
frame e t u n h = frames.frame e t u n h

pub frame_within : (names : List NumName) (e : Formula) (t u : Table) → only_numbers e ≡ true
    → map (num_at t) names ≡ map (num_at u) names → holds_within names e t ≡ holds_within names e u
unfolding holds_within
frame_within names e t u n h = frames.frame_within names e t u n h

pub whole_within : (names : List NumName) (e : Formula) (t : Table) → holds e t ≡ true
    → holds_within names e t ≡ true
unfolding holds holds_within
whole_within names e t h = frames.whole_within names e t h

pub part_holds : (names : List NumName) (e p : Formula) (t : Table) → part_of names e ≡ Some p
    → holds p t ≡ holds_within names e t
unfolding holds holds_within part_of
part_holds names e p t h = frames.part_holds names e p t h

pub no_part : (names : List NumName) (e : Formula) (t : Table) → part_of names e ≡ None
    → holds_within names e t ≡ true
unfolding holds_within part_of
no_part names e t h = frames.no_part names e t h
