-- What is found was kept, and hits.
use Rattle.std.proofs.Common.{◌≡◌, Bool, true, not, ◌&&◌, ◌||◌, cond, List, [], ◌∷◌, Option}
use Rattle.std.proofs.Common.{Some, refl, arith}
use Rattle.std.specs.Prelude.{ℤ, find, filter, flat_map}
use Rattle.std.proofs.lemmas.Bool.{eqb-true, eq-eqb}
use Rattle.rvs_insn.specs.declared.op.Op.{Op}
use Rattle.rvs_insn.specs.Isa.{Isa}
use Rattle.rvs_insn.specs.Table.{row}
use Rattle.rvs_points.specs.declared.group.Kind.{Kind}
use Rattle.rvs_points.specs.Points.{Meaning}
use Rattle.rvs_solver.specs.Choices.{ChoiceValue, is_kept, registers}
use Rattle.rvs_solver.specs.Choices.{with_registers, choices}
use Rattle.rvs_solver.specs.Point.{hits, constants_of}
use Rattle.rvs_solver.specs.First.{all_choices, first_choice, HasOneWordEach}
use Rattle.rvs_solver.proofs.Search.{Each}
use Rattle.rvs_solver.proofs.Product.{each_flat, each_any}

-- ---- what a search finds

hits_here : {X : Type 0} (p : X → Bool) (y x : X) (o : Option X) (t : Bool)
    → (o ≡ Some x → p x ≡ true) → p y ≡ t → cond t (Some y) o ≡ Some x → p x ≡ true
hits_here p y x = grind arith

pub found_hits : {X : Type 0} (p : X → Bool) (xs : List X) (x : X) → find p xs ≡ Some x → p x ≡ true
found_hits p [] x h = cc
found_hits p (y ∷ ys) x h = hits_here p y x (find p ys) (p y) (found_hits p ys x) refl h

holds_here : {X : Type 0} (P : X → Type 0) (y x : X) (o : Option X) (t : Bool) → P y
    → (o ≡ Some x → P x) → cond t (Some y) o ≡ Some x → P x
holds_here h y x = grind arith

pub found_each : {X : Type 0} (p : X → Bool) (P : X → Type 0) (xs : List X) (x : X) → Each P xs
    → find p xs ≡ Some x → P x
found_each p P [] x a h = cc
found_each p P (y ∷ ys) x a h = holds_here P y x (find p ys) (p y) a.0 (found_each p P ys x a.1) h

kept_here : {X : Type 0} (q : X → Bool) (x : X) (rest : List X) (t : Bool)
    → Each (λ y. q y ≡ true) rest → q x ≡ t → Each (λ y. q y ≡ true) (cond t (x ∷ rest) rest)
kept_here q x = grind arith

each_kept : {X : Type 0} (q : X → Bool) (xs : List X) → Each (λ x. q x ≡ true) (filter q xs)
each_kept q [] = tt
each_kept q (x ∷ xs) = kept_here q x (filter q xs) (q x) (each_kept q xs) refl

choices_kept : (spec : Isa) (op : Op) (constants : List ℤ)
    → Each (λ c. is_kept c ≡ true) (choices spec op constants)
unfolding choices
choices_kept spec op constants =
    each_kept is_kept (flat_map (with_registers spec op constants) (registers spec.e (row op).form))

pub first_is_kept : (spec : Isa) (ops : List Op) (kind : Kind) (meaning : Meaning) (c : ChoiceValue)
    → first_choice spec ops kind meaning ≡ Some c → is_kept c ≡ true
first_is_kept spec ops kind meaning c h =
    found_each (hits kind meaning) (λ x. is_kept x ≡ true)
    (all_choices spec ops (constants_of meaning)) c
    (each_flat (λ op. choices spec op (constants_of meaning)) (λ x. Unit {0})
    (λ x. is_kept x ≡ true) (λ op u. choices_kept spec op (constants_of meaning)) ops
    (each_any ops)) h

-- ---- one word each

three : (a b d : Bool) → (a && b && d) ≡ true → (a ≡ true) × (b ≡ true) × (d ≡ true)
three a b d h = grind arith

asked : (z t : Bool) → (not z || t) ≡ true → z ≡ true → t ≡ true
asked z t h e = grind arith

pub one_word_each : (c : ChoiceValue) → is_kept c ≡ true → HasOneWordEach c
one_word_each c h = grind (arith, three, not, eqb-true, asked, Some, eq-eqb)
