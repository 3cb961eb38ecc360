-- Values, each read once.
use Rattle.std.proofs.Common.{◌≡◌, ℕ, Bool, cond, List, [], ◌∷◌, Option, Some, None}
use Rattle.std.proofs.Common.{Ok, Err, arith}
use Rattle.std.specs.Prelude.{ℤ}
use Rattle.std.specs.Option.{option_map, option_or}
use Rattle.std.specs.List.{list_any}
use Rattle.rvs_asm_text.specs.declared.bodies.Value.{Value}
use Rattle.rvs_asm_text.specs.declared.bodies.Body.TheVariants.{Values}
use Rattle.rvs_asm_text.specs.declared.bodies.LineFault.{LineFault}
use Rattle.rvs_asm_text.specs.declared.bodies.LineFault.TheVariants.{BadOperand, OutOfRange}
use Rattle.rvs_asm_text.specs.Directives.{data_value, is_no_value, wide, first_wide, unless_wide}
use Rattle.rvs_asm_text.specs.Directives.{values, values_fault}

-- the same behind values of which the first outside the size is this one
abbrev pub fault_after : ℕ → Option ℤ → List (List ℕ) → Option LineFault
fault_after size w args = cond (list_any (is_no_value size) args) (Some BadOperand)
    (option_map OutOfRange (option_or w (first_wide size args)))

or_or : (u v w : Option ℤ) → option_or (option_or u v) w ≡ option_or u (option_or v w)
or_or u v w = grind arith

pub fault_more : (size : ℕ) (w : Option ℤ) (t : List ℕ) (ts : List (List ℕ)) (v : Value)
    → Some v ≡ data_value size t
    → fault_after size (option_or w (wide size (Some v))) ts ≡ fault_after size w (t ∷ ts)
fault_more size w t ts v e = grind (arith, or_or)

pub fault_here : (size : ℕ) (w : Option ℤ) (t : List ℕ) (ts : List (List ℕ))
    → None ≡ data_value size t
    → Some BadOperand ≡ fault_after size w (t ∷ ts)
fault_here size w t ts e = grind arith

pub fault_end : (size : ℕ) (w : Option ℤ) → fault_after size w [] ≡ option_map OutOfRange w
fault_end size w = grind arith

good_by : (b : Bool) (o : Option ℤ) (size : ℕ) (args : List (List ℕ))
    → None ≡ cond b (Some BadOperand) (option_map OutOfRange o)
    → Ok (Values size args) ≡ cond b (Err BadOperand) (unless_wide o (Values size args))
good_by b o size args e = grind arith

pub values_good : (size : ℕ) (t : List ℕ) (ts : List (List ℕ)) → None ≡ values_fault size (t ∷ ts)
    → Ok (Values size (t ∷ ts)) ≡ values size (t ∷ ts)
values_good size t ts e = grind (arith, good_by)

bad_by : (b : Bool) (o : Option ℤ) (size : ℕ) (args : List (List ℕ)) (fault : LineFault)
    → Some fault ≡ cond b (Some BadOperand) (option_map OutOfRange o)
    → Err fault ≡ cond b (Err BadOperand) (unless_wide o (Values size args))
bad_by b o size args fault e = grind arith

pub values_bad : (size : ℕ) (t : List ℕ) (ts : List (List ℕ)) (fault : LineFault)
    → Some fault ≡ values_fault size (t ∷ ts) → Err fault ≡ values size (t ∷ ts)
values_bad size t ts fault e = grind (arith, bad_by)
