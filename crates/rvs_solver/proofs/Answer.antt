-- No answer says that nothing hits, and an answer that nothing before it does.
use Rattle.std.proofs.Common.{◌≡◌, ℕ, ◌<◌, Bool, true, false, cond, List, [], ◌∷◌, length, get_or}
use Rattle.std.proofs.Common.{Option, Some, None, refl, sym, ap, ◌∙◌, arith, zero, suc}
use Rattle.std.specs.Prelude.{find, slice_get}
use Rattle.rvs_insn.specs.declared.op.Op.{Op}
use Rattle.rvs_insn.specs.Isa.{Isa}
use Rattle.rvs_points.specs.declared.group.Kind.{Kind}
use Rattle.rvs_points.specs.Points.{Meaning}
use Rattle.rvs_solver.specs.Choices.{ChoiceValue}
use Rattle.rvs_solver.specs.Point.{hits, constants_of}
use Rattle.rvs_solver.specs.First.{all_choices, first_choice, IsFirstOf, IsLeast, Solvable}

passed : {X : Type 0} (t : Bool) (x : X) (o : Option X) → cond t (Some x) o ≡ None
    → (t ≡ false) × (o ≡ None)
passed h = grind arith

none_at : {X : Type 0} (p : X → Bool) (xs : List X) → find p xs ≡ None → (k : ℕ) (d : X)
    → k < length xs → p (get_or xs k d) ≡ false
none_at p [] h k d l = absurd (omega arith)
none_at p (x ∷ xs) h zero d l = (passed (p x) x (find p xs) h).0
none_at p (x ∷ xs) h (suc k) d l = none_at p xs (passed (p x) x (find p xs) h).1 k d (omega arith)

pub nothing_hits : (spec : Isa) (ops : List Op) (kind : Kind) (meaning : Meaning)
    → first_choice spec ops kind meaning ≡ None → Solvable spec ops kind meaning → ⊥
nothing_hits spec ops kind meaning none (c, (k, l, at), hit) =
    let fails : hits kind meaning c ≡ false =
    ap (hits kind meaning) (sym at)
    ∙ none_at (hits kind meaning) (all_choices spec ops (constants_of meaning)) none k c l in
    cc

later : {X : Type 0} (p : X → Bool) (y : X) (ys : List X) (n : ℕ) → p y ≡ false
    → ((k : ℕ) (z : X) → k < n → slice_get ys k ≡ Some z → p z ≡ false) → (k : ℕ) (z : X)
    → k < suc n → slice_get (y ∷ ys) k ≡ Some z → p z ≡ false
later p y k z e h = grind arith

first_here : {X : Type 0} (p : X → Bool) (y x : X) (ys : List X) (t : Bool)
    → (find p ys ≡ Some x → IsFirstOf p ys x) → p y ≡ t → cond t (Some y) (find p ys) ≡ Some x
    → IsFirstOf p (y ∷ ys) x
first_here p y x ys true h e f = grind arith
first_here p y x ys false h e f = let rest =
    h f in record {
      place = suc rest.place;
      here = rest.here;
      passes = rest.passes;
      before =
          later p y ys rest.place e rest.before;
    }

first_of : {X : Type 0} (p : X → Bool) (xs : List X) (x : X) → find p xs ≡ Some x → IsFirstOf p xs x
first_of p [] x h = cc
first_of p (y ∷ ys) x h = first_here p y x ys (p y) (first_of p ys x) refl h

pub is_least : (spec : Isa) (ops : List Op) (kind : Kind) (meaning : Meaning) (c : ChoiceValue)
    → first_choice spec ops kind meaning ≡ Some c → IsLeast spec ops kind meaning c
is_least spec ops kind meaning c h = grind (arith, first_of)
