-- A variable of which no place says anything is assigned nowhere.
use Rattle.std.proofs.Common.{◌≡◌, Bool, false, List, map, None, sym, ◌∙◌}
use Rattle.rvs_insn.specs.Fields.{Fields}
use Rattle.rvs_cross.specs.declared.cross.Variable.{Variable}
use Rattle.rvs_cross.specs.declared.cross.Place.{Place}
use Rattle.rvs_cross.specs.CrossView.{place_view}
use Rattle.rvs_cross.specs.Assigned.{assigned}
use Rattle.rvs_cross.specs.Used.{is_used}
use Rattle.rvs_cross.proofs.Uses.{used_map}
use Rattle.rvs_cross.proofs.Binding.{nothing_where_unused}

pub none_found : (x : Variable) (ps : List Place) (is : List Fields) (used : Bool)
    → used ≡ is_used ps x → used ≡ false → None ≡ assigned x (map place_view ps) is
none_found x ps is used u f =
    sym (nothing_where_unused x (map place_view ps) is (sym (used_map x ps) ∙ sym u ∙ f))
