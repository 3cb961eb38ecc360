-- Where no variable has two assignments, they all hold once each variable stands for a register.
use Rattle.std.proofs.Common.{◌≡◌, ℕ, Bool, true, false, not, ◌&&◌, cond, List, [], ◌∷◌, map}
use Rattle.std.proofs.Common.{Option, Some, None, refl, sym, ap, ◌∙◌, arith}
use Rattle.std.specs.Prelude.{find, option_map}
use Rattle.std.specs.List.{list_all}
use Rattle.std.proofs.lemmas.Bool.{and_parts, or_left, or_right, and_from}
use Rattle.rvs_insn.specs.Fields.{Fields, IsRegister}
use Rattle.rvs_expr.specs.TypedView as typed
use Rattle.rvs_cross.specs.declared.cross.Variable.{Variable}
use Rattle.rvs_cross.specs.declared.cross.Variable.TheVariants.{First, Second, Third}
use Rattle.rvs_cross.specs.declared.cross.Assignment.{Assignment}
use Rattle.rvs_cross.specs.declared.cross.Place.{Place}
use Rattle.rvs_cross.specs.CrossView.{place_view}
use Rattle.rvs_cross.specs.Bare.{bare_view}
use Rattle.rvs_cross.specs.Windows.{Values, value_of, register_in, same_register, is_set, is_listed}
use Rattle.rvs_cross.specs.Windows.{meets, all_fit, same_variable, matches}
use Rattle.rvs_cross.specs.Assigned.{register_by, assigned_in, assigned}
use Rattle.rvs_cross.specs.Used.{says_in, sets_variable, is_used, once_among, used_by}
use Rattle.rvs_cross.specs.Used.{assigns_once, is_bound}
use Rattle.rvs_cross.proofs.Members.{by_test, any_in, in_any}
use Rattle.rvs_cross.proofs.Turns.{some_of}
use Rattle.rvs_cross.proofs.Uses.{used_map}
use Rattle.rvs_cross.proofs.Binding.{same_is, next, bound_values, bound_where_used, found_match}

same_self : (x : Variable) → same_variable x x ≡ true
same_self x = grind arith

clash : {P : Type 0} (b : Bool) → b ≡ true → b ≡ false → P
clash h t = grind arith

not_true : (b : Bool) → not b ≡ true → b ≡ false
not_true b h = grind arith

abbrev is_there : Option ℕ → Bool
is_there None = false
is_there (Some r) = true

same_there : (a b : Option ℕ) → a ≡ b → is_there a ≡ true → same_register a b ≡ true
same_there a b e h = grind arith

-- ---- one place
abbrev found_in : Fields → Option Assignment → Option ℕ
found_in i o = register_by i (option_map (λ (s : Assignment). s.field) o)

abbrev others : Variable → List Assignment → Option Assignment
others x sets = find (λ (s : Assignment). same_variable x s.variable) sets

other_variable : (x : Variable) (s : Assignment) (sets : List Assignment)
    → says_in s.variable sets ≡ false → says_in x sets ≡ true → same_variable x s.variable ≡ false
other_variable x s sets f h = grind (arith, by_test, clash, same_is)

sets_hold : (v : Values) (i : Fields) (sets : List Assignment) → once_among sets ≡ true
    → ((x : Variable) → says_in x sets ≡ true → value_of v x ≡ assigned_in x sets i)
    → ((x : Variable) → says_in x sets ≡ true → is_there (value_of v x) ≡ true)
    → list_all (is_set v i) sets ≡ true
sets_hold v i [] o e h = refl
sets_hold v i (s ∷ sets) o e h =
    let parts = and_parts (not (says_in s.variable sets)) (once_among sets) o in
    let alone = not_true (says_in s.variable sets) parts.0 in
    let here : says_in s.variable (s ∷ sets) ≡ true =
    or_left (same_variable s.variable s.variable) (says_in s.variable sets)
    (same_self s.variable) in
    and_from (is_set v i s) (list_all (is_set v i) sets)
    (same_there (value_of v s.variable) (register_in i s.field)
    (e s.variable here
    ∙ ap (λ c. found_in i (cond c (Some s) (others s.variable sets))) (same_self s.variable))
    (h s.variable here))
    (sets_hold v i sets parts.1
    (λ x says. e x (or_right (same_variable x s.variable) (says_in x sets) says)
    ∙ ap (λ c. found_in i (cond c (Some s) (others x sets))) (other_variable x s sets alone says))
    (λ x says. h x (or_right (same_variable x s.variable) (says_in x sets) says)))

-- ---- all places
other_place : (x : Variable) (p : Place) (ps : List Place) → used_by ps p.sets ≡ false
    → is_used ps x ≡ true → sets_variable x p ≡ false
other_place x p ps f h =
    by_test (sets_variable x p)
    (λ said. let w = any_in (λ (s : Assignment). same_variable x s.variable) p.sets said in
    clash (used_by ps p.sets)
    (in_any (λ (s : Assignment). is_used ps s.variable) w.item p.sets w.among
    (ap (is_used ps) (same_is x w.item.variable w.passes) ∙ h)) f)
    (λ other. other)

fit_bare : (v : Values) (ps : List Place) (is : List Fields) → assigns_once ps ≡ true
    → ((x : Variable) → is_used ps x ≡ true → value_of v x ≡ assigned x (map place_view ps) is)
    → ((x : Variable) → is_used ps x ≡ true → is_there (value_of v x) ≡ true)
    → all_fit v (map place_view ps) (some_of is) ≡ all_fit v (map bare_view ps) (some_of is)
fit_bare v [] [] o e h = refl
fit_bare v [] (i ∷ is) o e h = refl
fit_bare v (p ∷ ps) [] o e h = refl
fit_bare v (p ∷ ps) (i ∷ is) o e h =
    let parts =
    and_parts (once_among p.sets) (not (used_by ps p.sets) && assigns_once ps) o in
    let rest = and_parts (not (used_by ps p.sets)) (assigns_once ps) parts.1 in
    let alone = not_true (used_by ps p.sets) rest.0 in
    let listed = is_listed p.ops i.op in
    let met = meets v i (option_map typed.view p.condition) in
    ap (λ b. (listed && (b && met)) && all_fit v (map place_view ps) (some_of is))
    (sets_hold v i p.sets parts.0
    (λ x says. e x (or_left (sets_variable x p) (is_used ps x) says)
    ∙ ap (λ c. next c (assigned_in x p.sets i) (assigned x (map place_view ps) is)) says)
    (λ x says. h x (or_left (sets_variable x p) (is_used ps x) says)))
    ∙ ap (λ b. (listed && met) && b)
    (fit_bare v ps is rest.1
    (λ x used. e x (or_right (sets_variable x p) (is_used ps x) used)
    ∙ ap (λ c. next c (assigned_in x p.sets i) (assigned x (map place_view ps) is))
    (other_place x p ps alone used))
    (λ x used. h x (or_right (sets_variable x p) (is_used ps x) used)))

-- ---- whether they match
pub record Kept (ps : List Place) (a b c : Bool) : Type 0 where
  pub first : a ≡ is_used ps First
  pub second : b ≡ is_used ps Second
  pub third : c ≡ is_used ps Third

pub record AreLow (v : Values) : Type 0 where
  pub first : IsRegister v.first
  pub second : IsRegister v.second
  pub third : IsRegister v.third

abbrev all_bound : Bool → Bool → Bool → Values → Bool
all_bound a b c v = is_bound a v.first && (is_bound b v.second && is_bound c v.third)

bound_by : (used : Bool) (o : Option ℕ) → (used ≡ true → is_there o ≡ true) → is_bound used o ≡ true
bound_by used o h = grind arith

value_is : (v : Values) (ps : List Place) (is : List Fields)
    → v ≡ bound_values (map place_view ps) is → (x : Variable)
    → value_of v x ≡ assigned x (map place_view ps) is
value_is v ps is e x = grind arith

there : (v : Values) (ps : List Place) (a b c : Bool) → Kept ps a b c
    → is_bound a v.first ≡ true → is_bound b v.second ≡ true → is_bound c v.third ≡ true
    → (x : Variable) → is_used ps x ≡ true → is_there (value_of v x) ≡ true
there v ps a b c kept one two three x used = grind arith

pub single_match : (ps : List Place) (is : List Fields) (v : Values) (a b c fit : Bool)
    → v ≡ bound_values (map place_view ps) is → AreLow v → Kept ps a b c
    → all_bound a b c v ≡ true → assigns_once ps ≡ true
    → fit ≡ all_fit v (map bare_view ps) (some_of is)
    → fit ≡ matches (map place_view ps) (some_of is)
single_match ps is v a b c fit e low kept bound once h =
    grind (arith, and_parts, found_match, fit_bare, value_is, there)

all_fit_bound : (ps : List Place) (is : List Fields) (v : Values) (x : Variable) (used : Bool)
    → used ≡ is_used ps x → all_fit v (map place_view ps) (some_of is) ≡ true
    → is_bound used (value_of v x) ≡ true
all_fit_bound ps is v x used u fit =
    bound_by used (value_of v x)
    (λ t. ap is_there (bound_where_used v x (map place_view ps) is fit
    (sym (used_map x ps) ∙ sym u ∙ t)).value_is)

pub unbound_match : (ps : List Place) (is : List Fields) (v : Values) (a b c : Bool)
    → v ≡ bound_values (map place_view ps) is → AreLow v → Kept ps a b c
    → all_bound a b c v ≡ false → false ≡ matches (map place_view ps) (some_of is)
unbound_match ps is v a b c e low kept unbound =
    grind (arith, found_match, by_test, some_of, clash, and_from, all_fit_bound)
