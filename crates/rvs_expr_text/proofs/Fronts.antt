-- A fault among the tokens of a front is a fault of each text that begins with it.
use Rattle.std.proofs.Common.{◌≡◌, ℕ, ◌≤◌, false, List, [], ◌∷◌, ◌++◌, length, refl, sym, ap, ◌∙◌}
use Rattle.std.proofs.Common.{append_assoc, Err, arith}
use Rattle.rvs_text.specs.Outcomes.{◌>>=◌}
use Rattle.rvs_expr_text.specs.Refusal.{Found}
use Rattle.rvs_expr_text.specs.Tree.{Tree}
use Rattle.rvs_expr_text.specs.Grammar.{flat, deepest}
use Rattle.rvs_expr_text.specs.Tokens.{token, is_end}
use Rattle.rvs_expr_text.specs.Reading.{State, step, ended, run, start}
use Rattle.rvs_expr_text.specs.Whole.{NoEnd, IsWhole}
use Rattle.rvs_expr_text.specs.Fronts.{after_all}
use Rattle.rvs_expr_text.proofs.Complete.{reads}
use Rattle.rvs_expr_text.specs.declared.lexeme.Lexeme.TheVariants as lexeme
use Rattle.rvs_expr_text.specs.declared.lexeme.Token.{Token}
use Rattle.rvs_expr_text.specs.declared.refusal.ExprRefusal.{ExprRefusal}

one : (s : State) (t : Token) (ts : List Token) → is_end t.lexeme ≡ false
    → run s (t ∷ ts) ≡ (step s t >>= (λ next. run next ts))
one s t ts e = rw (e, run) refl

next-refused : (found : Found State) (ts rest : List Token) (why : ExprRefusal)
    → ((y : State) → after_all y ts ≡ Err why → run y rest ≡ Err why)
    → (found >>= (λ next. after_all next ts)) ≡ Err why
    → (found >>= (λ next. run next rest)) ≡ Err why
next-refused found ts rest why k h = grind arith

pub refused-all : (s : State) (ts more : List Token) (why : ExprRefusal) → NoEnd ts
    → after_all s ts ≡ Err why → run s (ts ++ more) ≡ Err why
refused-all s [] more why none h = cc
refused-all s (t ∷ ts) more why none h =
    one s t (ts ++ more) none.0
    ∙ next-refused (step s t) ts (ts ++ more) why (λ y e. refused-all y ts more why none.1 e) h

next-first : (found : Found State) (ts rest : List Token) (column : ℕ)
    → ((y : State) → run y rest ≡ (after_all y ts >>= (λ s. ended s column)))
    → (found >>= (λ next. run next rest))
    ≡ ((found >>= (λ next. after_all next ts)) >>= (λ s. ended s column))
next-first found ts rest column k = grind arith

-- all faults before a text's end are faults of its fronts
pub faults-of-fronts : (s : State) (ts : List Token) (column : ℕ) → NoEnd ts
    → run s (ts ++ token column lexeme.End ∷ []) ≡ (after_all s ts >>= (λ last. ended last column))
faults-of-fronts s [] column none = refl
faults-of-fronts s (t ∷ ts) column none =
    one s t (ts ++ token column lexeme.End ∷ []) none.0 ∙ next-first (step s t) ts
    (ts ++ token column lexeme.End ∷ []) column (λ y. faults-of-fronts y ts column none.1)

-- no expression within the limits begins with such a front
pub begins-none : (ts more : List Token) (why : ExprRefusal) (t : Tree) → NoEnd ts
    → after_all start ts ≡ Err why → IsWhole (ts ++ more) t → deepest t ≤ 32 → length (flat t) ≤ 256
    → ⊥
begins-none ts more why t none h whole deep few =
    let read = reads t 0 whole.tree deep few in
    let same : flat t ++ token 0 lexeme.End ∷ [] ≡ ts ++ (more ++ token 0 lexeme.End ∷ []) =
    ap (λ xs. xs ++ token 0 lexeme.End ∷ []) whole.same
    ∙ append_assoc ts more (token 0 lexeme.End ∷ []) in
    let bad = sym (ap (run start) same) ∙ read in
    let worse = refused-all start ts (more ++ token 0 lexeme.End ∷ []) why none h in
    cc
