-- The register that the first assignment of a variable finds.
use Rattle.std.specs.Prelude.{ℕ, true, false, List, ◌∷◌, find, Option, Some, None, option_map}
use Rattle.rvs_insn.specs.Fields.{Fields}
use Rattle.rvs_cross.specs.declared.cross.Variable.{Variable}
use Rattle.rvs_cross.specs.declared.cross.Field.{Field}
use Rattle.rvs_cross.specs.declared.cross.Assignment.{Assignment}
use Rattle.rvs_cross.specs.Cross.{Place}
use Rattle.rvs_cross.specs.Windows.{register_in, same_variable, says_of}

abbrev pub assigned_field : Variable → List Assignment → Option Field
assigned_field x sets =
    option_map (λ (s : Assignment). s.field) (find (λ (s : Assignment). same_variable x s.variable)
    sets)

abbrev pub register_by : Fields → Option Field → Option ℕ
register_by i None = None
register_by i (Some f) = register_in i f

-- in one place
abbrev pub assigned_in : Variable → List Assignment → Fields → Option ℕ
assigned_in x sets i = register_by i (assigned_field x sets)

-- in the first place that says something of the variable
abbrev pub assigned : Variable → List Place → List Fields → Option ℕ
assigned x (p ∷ ps) (i ∷ is) =
    elim (says_of x p) [ true ↦ assigned_in x p.sets i | false ↦ assigned x ps is ]
assigned x _ _ = None
