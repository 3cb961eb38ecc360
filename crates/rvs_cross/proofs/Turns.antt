-- Turns of the loops over places and instructions.
use Rattle.std.proofs.Common.{◌≡◌, ℕ, ◌+◌, ◌<◌, ◌≤◌, Bool, true, false, ◌&&◌, ◌||◌, cond, List, []}
use Rattle.std.proofs.Common.{◌∷◌, map, length, get_or, drop, Option, Some, None, refl, sym, ap}
use Rattle.std.proofs.Common.{◌∙◌, arith, add-one, drop-cons}
use Rattle.std.specs.Prelude.{option_map}
use Rattle.std.specs.List.{list_any}
use Rattle.std.proofs.lemmas.List.{drop_all}
use Rattle.rvs_insn.specs.Fields.{Fields}
use Rattle.rvs_cross.specs.declared.cross.Variable.{Variable}
use Rattle.rvs_cross.specs.declared.cross.Field.{Field}
use Rattle.rvs_cross.specs.declared.cross.Assignment.{Assignment}
use Rattle.rvs_cross.specs.declared.cross.Place.{Place}
use Rattle.rvs_cross.specs.Cross as spec
use Rattle.rvs_cross.specs.CrossView.{place_view}
use Rattle.rvs_cross.specs.Windows.{Values, register_in, same_variable, says_of, fits, all_fit}
use Rattle.rvs_cross.specs.Assigned.{assigned_field, register_by, assigned_in, assigned}

-- the list from a place on is its element there and the list after it
pub rest_is : {X : Type 0} (xs : List X) (k : ℕ) (x : X) → k < length xs → x ≡ get_or xs k x
    → drop k xs ≡ x ∷ drop (k + 1) xs
rest_is xs k x h e = grind (arith, add-one, drop-cons)

abbrev pub some_of : List Fields → List (Option Fields)
some_of is = map (λ i. Some i) is

fit_rest : (w : Place → spec.Place) (v : Values) (ps : List Place) (is : List Fields)
    (k : ℕ) (p : Place) (i : Fields) → k < length ps → length is ≡ length ps
    → p ≡ get_or ps k p → i ≡ get_or is k i
    → all_fit v (map w (drop k ps)) (some_of (drop k is))
    ≡ (fits v (w p) i && all_fit v (map w (drop (k + 1) ps))
    (some_of (drop (k + 1) is)))
fit_rest w v ps is k p i h l e f = grind (arith, rest_is)

pub fit_turn : (w : Place → spec.Place) (v : Values) (ps : List Place) (is : List Fields)
    (k : ℕ) (p : Place) (i : Fields) (whole good : Bool) → k < length ps
    → length is ≡ length ps → p ≡ get_or ps k p → i ≡ get_or is k i
    → whole ≡ all_fit v (map w (drop k ps)) (some_of (drop k is))
    → good ≡ fits v (w p) i → good ≡ true
    → whole ≡ all_fit v (map w (drop (k + 1) ps)) (some_of (drop (k + 1) is))
fit_turn w v ps is k p i whole good h l e f u g t =
    u ∙ fit_rest w v ps is k p i h l e f
    ∙ ap (λ b. b && all_fit v (map w (drop (k + 1) ps)) (some_of (drop (k + 1) is)))
    (sym g ∙ t)

pub fit_fails : (w : Place → spec.Place) (v : Values) (ps : List Place) (is : List Fields)
    (k : ℕ) (p : Place) (i : Fields) (whole good : Bool) → k < length ps
    → length is ≡ length ps → p ≡ get_or ps k p → i ≡ get_or is k i
    → whole ≡ all_fit v (map w (drop k ps)) (some_of (drop k is))
    → good ≡ fits v (w p) i → good ≡ false → false ≡ whole
fit_fails w v ps is k p i whole good h l e f u g t =
    sym (u ∙ fit_rest w v ps is k p i h l e f
    ∙ ap (λ b. b && all_fit v (map w (drop (k + 1) ps)) (some_of (drop (k + 1) is)))
    (sym g ∙ t))

pub fit_end : (w : Place → spec.Place) (v : Values) (ps : List Place) (is : List Fields)
    (k : ℕ) (whole : Bool) → length ps ≤ k → length is ≡ length ps
    → whole ≡ all_fit v (map w (drop k ps)) (some_of (drop k is)) → true ≡ whole
fit_end w v ps is k whole h l u = grind (arith, drop_all)

abbrev pub next_assigned : Bool → Option ℕ → Option ℕ → Option ℕ
next_assigned b here after = elim b [ true ↦ here | false ↦ after ]

assigned_rest : (x : Variable) (ps : List Place) (is : List Fields) (k : ℕ) (p : Place) (i : Fields)
    → k < length ps → length is ≡ length ps → p ≡ get_or ps k p → i ≡ get_or is k i
    → assigned x (map place_view (drop k ps)) (drop k is)
    ≡ next_assigned (says_of x (place_view p)) (assigned_in x p.sets i)
    (assigned x (map place_view (drop (k + 1) ps)) (drop (k + 1) is))
assigned_rest x ps is k p i h l e f = grind (arith, rest_is)

abbrev is_there : Option Field → Bool
is_there None = false
is_there (Some f) = true

says_more : (b any : Bool) (s : Assignment) (o : Option Assignment)
    → any ≡ is_there (option_map (λ (t : Assignment). t.field) o)
    → (b || any) ≡ is_there (option_map (λ (t : Assignment). t.field) (cond b (Some s) o))
says_more b any s o h = grind arith

-- a place says something of a variable where it has a field for it
says_is : (x : Variable) (sets : List Assignment)
    → list_any (λ (s : Assignment). same_variable x s.variable) sets
    ≡ is_there (assigned_field x sets)
says_is x [] = refl
says_is x (s ∷ sets) = grind (arith, says_more, (says_is x sets))

pub assigned_turn : (x : Variable) (ps : List Place) (is : List Fields) (k : ℕ) (p : Place)
    (i : Fields) (whole : Option ℕ) → k < length ps → length is ≡ length ps
    → p ≡ get_or ps k p → i ≡ get_or is k i
    → whole ≡ assigned x (map place_view (drop k ps)) (drop k is)
    → None ≡ assigned_field x p.sets
    → whole ≡ assigned x (map place_view (drop (k + 1) ps)) (drop (k + 1) is)
assigned_turn x ps is k p i whole h l e f w s =
    w ∙ assigned_rest x ps is k p i h l e f
    ∙ ap (λ b. next_assigned b (assigned_in x p.sets i)
    (assigned x (map place_view (drop (k + 1) ps)) (drop (k + 1) is)))
    (says_is x p.sets ∙ ap is_there (sym s))

pub assigned_here : (x : Variable) (ps : List Place) (is : List Fields) (k : ℕ) (p : Place)
    (i : Fields) (whole : Option ℕ) (field : Field) → k < length ps → length is ≡ length ps
    → p ≡ get_or ps k p → i ≡ get_or is k i
    → whole ≡ assigned x (map place_view (drop k ps)) (drop k is)
    → Some field ≡ assigned_field x p.sets → register_in i field ≡ whole
assigned_here x ps is k p i whole field h l e f w s =
    sym (w ∙ assigned_rest x ps is k p i h l e f
    ∙ ap (λ b. next_assigned b (assigned_in x p.sets i)
    (assigned x (map place_view (drop (k + 1) ps)) (drop (k + 1) is)))
    (says_is x p.sets ∙ ap is_there (sym s))
    ∙ ap (register_by i) (sym s))

pub assigned_end : (x : Variable) (ps : List Place) (is : List Fields) (k : ℕ) (whole : Option ℕ)
    → length ps ≤ k → whole ≡ assigned x (map place_view (drop k ps)) (drop k is) → None ≡ whole
assigned_end x ps is k whole h w = grind (arith, drop_all)
