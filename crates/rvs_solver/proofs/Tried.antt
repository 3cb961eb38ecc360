-- Where the expression doesn't see which immediate it is, the first one decides.
use Rattle.std.proofs.Common.{◌≡◌, ℕ, ◌+◌, ◌≤◌, Bool, true, false, List, [], ◌∷◌, length, take}
use Rattle.std.proofs.Common.{Option, Some, None, refl, sym, ap, ◌∙◌, arith, cond}
use Rattle.std.proofs.Common.{length-take, rules}
use Rattle.std.specs.Prelude.{ℤ, find, flat_map, All, sum_by}
use Rattle.std.specs.Option.{option_or}
use Rattle.std.proofs.lemmas.List.Folds.{find-append}
use Rattle.std.proofs.lemmas.List.Sums.{sum_by-take-le}
use Rattle.rvs_insn.specs.declared.op.Format.{Format}
use Rattle.rvs_insn.specs.declared.op.Format.TheVariants.{I, Shift, Branch}
use Rattle.rvs_insn.specs.declared.op.Op.{Op}
use Rattle.rvs_insn.specs.Isa.{Isa}
use Rattle.rvs_insn.specs.Table.{row}
use Rattle.rvs_expr_text.specs.declared.lexeme.NumName.{NumName}
use Rattle.rvs_expr_text.specs.declared.lexeme.NumName.TheVariants.{ImmVal}
use Rattle.rvs_expr.specs.Typed.{Formula}
use Rattle.rvs_expr.specs.Only.{only_numbers}
use Rattle.rvs_facts.specs.Facts.{alignment}
use Rattle.rvs_solver.specs.Truth.{num_at, uses}
use Rattle.rvs_solver.proofs.Framing.{frame}
use Rattle.rvs_solver.specs.declared.operand.Operand.{Operand}
use Rattle.rvs_solver.specs.Choices.{Registers, ChoiceValue, table_of}
use Rattle.rvs_solver.specs.Bound.{first_registers, operands}
use Rattle.rvs_solver.specs.Walk.{may_store_address, base_of, query_with}
use Rattle.rvs_solver.specs.Walk.{is_true_at, with_numbers, word_or, at_w1, at_operand, first_in}
use Rattle.rvs_solver.specs.Walk.{own_addresses, sees_first, to_try}
use Rattle.rvs_solver.proofs.Search.{Each, flat_one, find_alike, first_decides}
use Rattle.rvs_solver.proofs.Operands.{pairs_each}

both_none : {Y : Type 0} (o r : Option Y) → option_or o r ≡ None → (o ≡ None) × (r ≡ None)
both_none h = grind arith

no_first : {Y : Type 0} (o r : Option Y) → o ≡ None → option_or o r ≡ r
no_first h = grind arith

none_flat : {X Y : Type 0} (p : Y → Bool) (f g : X → List Y)
    → ((x : X) → find p (f x) ≡ None → find p (g x) ≡ None) → (xs : List X)
    → find p (flat_map f xs) ≡ None → find p (flat_map g xs) ≡ None
none_flat p f g h [] e = refl
none_flat p f g h (x ∷ xs) e =
    let b = both_none (find p (f x)) (find p (flat_map f xs))
    (sym (find-append p (f x) (flat_map f xs)) ∙ e) in
    find-append p (g x) (flat_map g xs) ∙ no_first (find p (g x)) (find p (flat_map g xs)) (h x b.0)
    ∙ none_flat p f g h xs b.1

-- where the first operand is an immediate and nothing else
no_alignment : (form : Format) (e : Formula) (a : Option ℤ) (b : Option ℤ)
    → sees_first e form ≡ false → alignment form a b ≡ None
no_alignment form e a b h = grind arith

not_seen : (form : Format) (e : Formula) → sees_first e form ≡ false → uses e ImmVal ≡ false
not_seen form e h = grind arith

unseen_agrees : (op : Op) (e : Formula) (r : Registers) (x y : Operand) (w1 w2 : ℕ)
    → sees_first e (row op).form ≡ false → (name : NumName) → uses e name ≡ true
    → num_at (table_of (with_numbers (base_of op r) y w1 w2)) name
    ≡ num_at (table_of (with_numbers (base_of op r) x w1 w2)) name
unseen_agrees op e r x y w1 w2 h name used = grind arith

unseen_truth : (op : Op) (e : Formula) (r : Registers) (x y : Operand) (w1 w2 : ℕ)
    → only_numbers e ≡ true → sees_first e (row op).form ≡ false
    → is_true_at e (with_numbers (base_of op r) y w1 w2)
    ≡ is_true_at e (with_numbers (base_of op r) x w1 w2)
unseen_truth op e r x y w1 w2 num h = grind (arith, frame, unseen_agrees)

unseen_none : (op : Op) (e : Formula) (constants : List ℤ) (x y : Operand)
    → only_numbers e ≡ true → sees_first e (row op).form ≡ false → x.word ≡ None → y.word ≡ None
    → find (is_true_at e) (at_operand (query_with op (row op).form e constants) x) ≡ None
    → find (is_true_at e) (at_operand (query_with op (row op).form e constants) y) ≡ None
unseen_none op e constants x y num h xw yw none =
    let s = query_with op (row op).form e constants in
    ap (λ w. find (is_true_at e) (flat_map (at_w1 s y) (word_or w s.w1s))) yw
    ∙ none_flat (is_true_at e) (at_w1 s x) (at_w1 s y)
    (λ w1 n. find_alike (is_true_at e) (is_true_at e) (with_numbers s.base x w1)
    (with_numbers s.base y w1)
    (λ w2 f. unseen_truth op e (first_registers (row op).form) x y w1 w2 num h ∙ f) s.w2s n)
    s.w1s
    (sym (ap (λ w. find (is_true_at e) (flat_map (at_w1 s x) (word_or w s.w1s))) xw) ∙ none)

one_decides : (op : Op) (e : Formula) (constants : List ℤ) (firsts : List Operand)
    → only_numbers e ≡ true → sees_first e (row op).form ≡ false
    → Each (λ x. x.word ≡ None) firsts
    → find (is_true_at e) (flat_map (at_operand (query_with op (row op).form e constants))
    (take 1 firsts))
    ≡ find (is_true_at e) (flat_map (at_operand (query_with op (row op).form e constants)) firsts)
one_decides op e constants [] num h a = refl
one_decides op e constants (x ∷ firsts) num h a =
    let s = query_with op (row op).form e constants in
    ap (find (is_true_at e)) (flat_one (at_operand s) x)
    ∙ sym (first_decides (is_true_at e) (at_operand s) (λ y. y.word ≡ None) x firsts a.1
    (λ none y w. unseen_none op e constants x y num h a.0 w none))

words_none : (spec : Isa) (op : Op) (form : Format) (e : Formula) (constants : List ℤ)
    → sees_first e form ≡ false → Each (λ x. x.word ≡ None) (operands spec op form constants)
words_none spec op I e constants h = search (rules, pairs_each, None)
words_none spec op Shift e constants h = grind (arith, pairs_each, None)
words_none spec op Branch e constants h = search (rules, pairs_each, None)
words_none spec op _ e constants h = cc

no_address : (form : Format) (e : Formula) → sees_first e form ≡ false
    → may_store_address form ≡ false
no_address form e h = grind arith

none_of_none : (same : Option ChoiceValue) (firsts : List Operand) → same ≡ None
    → own_addresses same firsts ≡ []
none_of_none same firsts h = grind arith

-- the operands that are tried find what all find
pub tried_find : (spec : Isa) (op : Op) (e : Formula) (constants : List ℤ) (sees : Bool)
    → sees_first e (row op).form ≡ sees → only_numbers e ≡ true
    → first_in (query_with op (row op).form e constants)
    (to_try sees (operands spec op (row op).form constants))
    ≡ first_in (query_with op (row op).form e constants)
    (operands spec op (row op).form constants)
tried_find spec op e constants true h num = refl
tried_find spec op e constants false h num =
    grind (arith, None, cond, Some, no_address, take, one_decides, words_none, none_of_none)

pub tried_all : {X : Type 0} (P : X → Type 0) (xs : List X) → All P xs → All P (take 1 xs)
tried_all h = grind arith

pub tried_passes : (P : Operand → Type 0) (sees : Bool) (ops : List Operand) → All P ops
    → All P (to_try sees ops)
tried_passes P sees ops a = grind arith

pub tried_cost : (f : Operand → ℕ) (sees : Bool) (ops : List Operand)
    → length (to_try sees ops) + sum_by f (to_try sees ops) ≤ length ops + sum_by f ops
tried_cost f true ops = omega arith
tried_cost f false ops = omega (arith, length-take 1 ops, sum_by-take-le f ops 1)
