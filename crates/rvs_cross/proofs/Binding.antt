-- The registers that make instructions match are those that the first assignments find.
use Rattle.std.proofs.Common.{◌≡◌, ℕ, Bool, true, false, ◌&&◌, ◌||◌, cond, List, [], ◌∷◌}
use Rattle.std.proofs.Common.{Option, Some, None, refl, sym, ap, ◌∙◌, subst, arith}
use Rattle.std.specs.Prelude.{find, option_map}
use Rattle.std.specs.List.{list_any, list_all, range_with_len}
use Rattle.std.proofs.lemmas.Bool.{and_parts}
use Rattle.rvs_insn.specs.Fields.{Fields, IsRegister}
use Rattle.rvs_cross.specs.declared.cross.Variable.{Variable}
use Rattle.rvs_cross.specs.declared.cross.Variable.TheVariants.{First, Second, Third}
use Rattle.rvs_cross.specs.declared.cross.Assignment.{Assignment}
use Rattle.rvs_cross.specs.Cross.{Place}
use Rattle.rvs_cross.specs.Windows.{Values, value_of, register_in, same_register, is_set, is_listed}
use Rattle.rvs_cross.specs.Windows.{meets, fits, all_fit, same_variable, says_of, is_used}
use Rattle.rvs_cross.specs.Windows.{choices_for, with_third, with_second, values_among, matches}
use Rattle.rvs_cross.specs.Assigned.{register_by, assigned_in, assigned}
use Rattle.rvs_cross.proofs.Members.{In, by_test, or_rest, in_any, any_in, in_map, map_in, in_flat}
use Rattle.rvs_cross.proofs.Members.{flat_in}
use Rattle.rvs_cross.proofs.Turns.{some_of}

pub same_is : (x y : Variable) → same_variable x y ≡ true → y ≡ x
same_is x y h = grind arith

-- ---- one place

-- a variable stands for a register, and that is what the first assignment finds
pub record Bound (value found : Option ℕ) : Type 0 where
  pub register : ℕ
  pub value_is : value ≡ Some register
  pub found_is : found ≡ Some register

one_register : (a b : Option ℕ) → same_register a b ≡ true → Bound a b
one_register a b h = grind arith

bound_in : (v : Values) (i : Fields) (x : Variable) (sets : List Assignment)
    → list_all (is_set v i) sets ≡ true
    → list_any (λ (s : Assignment). same_variable x s.variable) sets ≡ true
    → Bound (value_of v x) (assigned_in x sets i)
bound_in v i x [] a h = cc
bound_in v i x (s ∷ sets) a h =
    let parts = and_parts (is_set v i s) (list_all (is_set v i) sets) a in
    let others : Option Assignment = find (λ (t : Assignment). same_variable x t.variable) sets in
    let found = λ (o : Option Assignment).
    register_by i (option_map (λ (t : Assignment). t.field) o) in
    by_test (same_variable x s.variable)
    (λ t. let b = one_register (value_of v s.variable) (register_in i s.field) parts.0 in record {
      register = b.register;
      value_is = ap (value_of v) (sym (same_is x s.variable t)) ∙ b.value_is;
      found_is = ap (λ c. found (cond c (Some s) others)) t ∙ b.found_is;
    })
    (λ f. let b = bound_in v i x sets parts.1 (or_rest _ _ f h) in record {
      register = b.register;
      value_is = b.value_is;
      found_is = ap (λ c. found (cond c (Some s) others)) f ∙ b.found_is;
    })

-- ---- all places

abbrev pub next : Bool → Option ℕ → Option ℕ → Option ℕ
next b here after = elim b [ true ↦ here | false ↦ after ]

pub bound_where_used : (v : Values) (x : Variable) (ps : List Place) (is : List Fields)
    → all_fit v ps (some_of is) ≡ true → is_used ps x ≡ true
    → Bound (value_of v x) (assigned x ps is)
bound_where_used v x [] is a h = cc
bound_where_used v x (p ∷ ps) [] a h = cc
bound_where_used v x (p ∷ ps) (i ∷ is) a h =
    let parts = and_parts (fits v p i) (all_fit v ps (some_of is)) a in
    let inner =
    and_parts (is_listed p.ops i.op) (list_all (is_set v i) p.sets && meets v i p.condition)
    parts.0 in
    let sets = and_parts (list_all (is_set v i) p.sets) (meets v i p.condition) inner.1 in
    by_test (says_of x p)
    (λ t. let b = bound_in v i x p.sets sets.0 t in record {
      register = b.register;
      value_is = b.value_is;
      found_is = ap (λ c. next c (assigned_in x p.sets i) (assigned x ps is)) t ∙ b.found_is;
    })
    (λ f. let b = bound_where_used v x ps is parts.1 (or_rest (says_of x p) (is_used ps x) f h) in
    record {
      register = b.register;
      value_is = b.value_is;
      found_is = ap (λ c. next c (assigned_in x p.sets i) (assigned x ps is)) f ∙ b.found_is;
    })

neither : {P : Type 0} (a b : Bool) → (a || b) ≡ false → (a ≡ false → b ≡ false → P) → P
neither h b = grind arith

pub nothing_where_unused : (x : Variable) (ps : List Place) (is : List Fields)
    → is_used ps x ≡ false → assigned x ps is ≡ None
nothing_where_unused x [] is h = refl
nothing_where_unused x (p ∷ ps) [] h = refl
nothing_where_unused x (p ∷ ps) (i ∷ is) h =
    neither (says_of x p) (is_used ps x) h
    (λ f u. ap (λ c. next c (assigned_in x p.sets i) (assigned x ps is)) f
    ∙ nothing_where_unused x ps is u)

-- ---- values among registers

pub record Among (registers : List ℕ) (ps : List Place) (v : Values) : Type 0 where
  pub first : In v.first (choices_for registers (is_used ps First))
  pub second : In v.second (choices_for registers (is_used ps Second))
  pub third : In v.third (choices_for registers (is_used ps Third))

abbrev at_second : List ℕ → List Place → Option ℕ → Option ℕ → List Values
at_second registers ps a b = with_third (choices_for registers (is_used ps Third)) a b

abbrev at_first : List ℕ → List Place → Option ℕ → List Values
at_first registers ps a =
    with_second (choices_for registers (is_used ps Second))
    (choices_for registers (is_used ps Third)) a

pub in_values : (registers : List ℕ) (ps : List Place) (v : Values) → Among registers ps v
    → In v (values_among registers ps)
unfolding values_among
in_values registers ps v a =
    in_flat (at_first registers ps) v.first v (choices_for registers (is_used ps First)) a.first
    (in_flat (at_second registers ps v.first) v.second v
    (choices_for registers (is_used ps Second)) a.second
    (in_map (λ c. record { first = v.first; second = v.second; third = c }) v.third
    (choices_for registers (is_used ps Third)) a.third))

pub values_in : (registers : List ℕ) (ps : List Place) (v : Values)
    → In v (values_among registers ps) → Among registers ps v
unfolding values_among
values_in registers ps v i =
    let a = flat_in (at_first registers ps) (choices_for registers (is_used ps First)) v i in
    let b = flat_in (at_second registers ps a.item) (choices_for registers (is_used ps Second)) v
    a.inner in
    let c = map_in (λ c. record { first = a.item; second = b.item; third = c })
    (choices_for registers (is_used ps Third)) v b.inner in
    let P : Values → Type 0 = λ w. Among registers ps w in
    subst P c.is (record { first = a.among; second = b.among; third = c.among })

-- ---- what makes all fit is what the first assignments find

abbrev pub bound_values : List Place → List Fields → Values
bound_values ps is = record {
  first = assigned First ps is;
  second = assigned Second ps is;
  third = assigned Third ps is;
}

only_none : (registers : List ℕ) (used : Bool) (o : Option ℕ) → used ≡ false
    → In o (choices_for registers used) → o ≡ None
only_none registers used o h i = grind arith

one_value : (registers : List ℕ) (v : Values) (x : Variable) (ps : List Place) (is : List Fields)
    → all_fit v ps (some_of is) ≡ true
    → In (value_of v x) (choices_for registers (is_used ps x)) → value_of v x ≡ assigned x ps is
one_value registers v x ps is a i =
    by_test (is_used ps x)
    (λ u. let b = bound_where_used v x ps is a u in b.value_is ∙ sym b.found_is)
    (λ u. only_none registers (is_used ps x) (value_of v x) u i
    ∙ sym (nothing_where_unused x ps is u))

pub values_are : (registers : List ℕ) (v : Values) (ps : List Place) (is : List Fields)
    → all_fit v ps (some_of is) ≡ true → Among registers ps v → v ≡ bound_values ps is
values_are registers v ps is a among =
    let one = one_value registers v First ps is a among.first in
    let two = one_value registers v Second ps is a among.second in
    let three = one_value registers v Third ps is a among.third in
    ap (λ x. record { first = x; second = v.second; third = v.third }) one
    ∙ ap (λ x. record { first = assigned First ps is; second = x; third = v.third }) two
    ∙ ap (λ x. record { first = assigned First ps is; second = assigned Second ps is; third = x })
    three

choice_in : (o : Option ℕ) (used : Bool) → IsRegister o → (used ≡ true → (r : ℕ) × (o ≡ Some r))
    → (used ≡ false → o ≡ None) → In o (choices_for (range_with_len 0 32) used)
choice_in o used low a b = grind arith

bound_choice : (x : Variable) (ps : List Place) (is : List Fields)
    → IsRegister (assigned x ps is) → all_fit (bound_values ps is) ps (some_of is) ≡ true
    → In (assigned x ps is) (choices_for (range_with_len 0 32) (is_used ps x))
bound_choice x ps is low a =
    choice_in (assigned x ps is) (is_used ps x) low
    (λ u. let b = bound_where_used (bound_values ps is) x ps is a u in (b.register, b.found_is))
    (λ u. nothing_where_unused x ps is u)

pub record Low (ps : List Place) (is : List Fields) : Type 0 where
  pub first : IsRegister (assigned First ps is)
  pub second : IsRegister (assigned Second ps is)
  pub third : IsRegister (assigned Third ps is)

all_that_match : (ps : List Place) (is : List Fields)
    → matches ps (some_of is) ≡ true → all_fit (bound_values ps is) ps (some_of is) ≡ true
unfolding matches
all_that_match ps is m =
    let fit = λ (v : Values). all_fit v ps (some_of is) in
    let registers = range_with_len 0 32 in
    let p = any_in fit (values_among registers ps) m in
    sym (ap fit
    (values_are registers p.item ps is p.passes (values_in registers ps p.item p.among)))
    ∙ p.passes

they_match : (ps : List Place) (is : List Fields) → Low ps is
    → all_fit (bound_values ps is) ps (some_of is) ≡ true → matches ps (some_of is) ≡ true
unfolding matches
they_match ps is low a =
    in_any (λ v. all_fit v ps (some_of is)) (bound_values ps is)
    (values_among (range_with_len 0 32) ps)
    (in_values (range_with_len 0 32) ps (bound_values ps is) (record {
      first = bound_choice First ps is low.first a;
      second = bound_choice Second ps is low.second a;
      third = bound_choice Third ps is low.third a;
    })) a

same_tests : (a b : Bool) → (a ≡ true → b ≡ true) → (b ≡ true → a ≡ true) → a ≡ b
same_tests a b h k = grind arith

-- instructions match exactly where these registers make all fit
pub matches_is : (ps : List Place) (is : List Fields) (fit : Bool) → Low ps is
    → fit ≡ all_fit (bound_values ps is) ps (some_of is) → fit ≡ matches ps (some_of is)
matches_is ps is fit low h =
    h ∙ same_tests (all_fit (bound_values ps is) ps (some_of is)) (matches ps (some_of is))
    (they_match ps is low) (all_that_match ps is)

-- the same for registers that were found to be these
pub found_match : (ps : List Place) (is : List Fields) (v : Values) (fit : Bool)
    → v ≡ bound_values ps is → IsRegister v.first → IsRegister v.second → IsRegister v.third
    → fit ≡ all_fit v ps (some_of is) → fit ≡ matches ps (some_of is)
found_match ps is v fit e one two three h = grind (arith, matches_is, some_of)

pub values_from : (ps : List Place) (is : List Fields) (a b c : Option ℕ) → a ≡ assigned First ps is
    → b ≡ assigned Second ps is → c ≡ assigned Third ps is
    → ◌≡◌ {A = Values} (record { first = a; second = b; third = c }) (bound_values ps is)
values_from ps is a b c one two three = grind arith
