-- How stretches of effects follow one another.
use Rattle.std.proofs.Common.{◌≡◌, List, [], ◌∷◌, ◌++◌, refl, sym, ap, subst, arith}
use Rattle.rvs_plan.specs.World.{Contents}
use Rattle.rvs_plan.specs.Effect.{Effect, Read, Device, Did, after_one, after, Saw}
use Rattle.rvs_plan.specs.Plan.{Plan, Ends, Does, Asks, Runs, ◌>>=◌, Goes}
use Rattle.rvs_plan.specs.Meets.{Reaches}

pub after-append : (es es' : List Effect) (c : Contents)
    → after (es ++ es') c ≡ after es' (after es c)
after-append [] es' c = refl
after-append (e ∷ es) es' c = after-append es es' (after_one e c)

pub Saw-append : (es es' : List Effect) (c : Contents) → Saw es c → Saw es' (after es c)
    → Saw (es ++ es') c
Saw-append [] es' c s t = t
Saw-append (e ∷ es) es' c s t = (s.0, Saw-append es es' (after_one e c) s.1 t)

-- one stretch of effects, and then another
pub Goes-append : {A : Type 0} (plan mid rest : Plan A) (es es' : List Effect) → Goes plan es mid
    → Goes mid es' rest → Goes plan (es ++ es') rest
Goes-append plan mid rest [] es' g h = subst (λ (p : Plan _). Goes p es' rest) (sym g) h
Goes-append (Ends end) mid rest (e ∷ es) es' g h = absurd g
Goes-append (Does deed plan) mid rest (Did d ∷ es) es' g h =
    (g.0, Goes-append plan mid rest es es' g.1 h)
Goes-append (Does deed plan) mid rest (Read n found ∷ es) es' g h = absurd g
Goes-append (Does deed plan) mid rest (Device w t s answer ∷ es) es' g h = absurd g
Goes-append (Asks name bound next) mid rest (Did d ∷ es) es' g h = absurd g
Goes-append (Asks name bound next) mid rest (Read n found ∷ es) es' g h =
    (g.0, Goes-append (next found) mid rest es es' g.1 h)
Goes-append (Asks name bound next) mid rest (Device w t s answer ∷ es) es' g h = absurd g
Goes-append (Runs words test signature next) mid rest (Did d ∷ es) es' g h = absurd g
Goes-append (Runs words test signature next) mid rest (Read n found ∷ es) es' g h = absurd g
Goes-append (Runs words test signature next) mid rest (Device w t s answer ∷ es) es' g h =
    (g.0, g.1, g.2, Goes-append (next answer) mid rest es es' g.3 h)

-- the effects of a first piece are effects of the whole
pub Goes-then : {A B : Type 0} (next : A → Plan B) (p q : Plan A) (es : List Effect) → Goes p es q
    → Goes (p >>= next) es (q >>= next)
Goes-then next p q [] g = ap (λ (r : Plan _). r >>= next) g
Goes-then next (Ends end) q (e ∷ es) g = absurd g
Goes-then next (Does deed p) q (Did d ∷ es) g = (g.0, Goes-then next p q es g.1)
Goes-then next (Does deed p) q (Read n found ∷ es) g = absurd g
Goes-then next (Does deed p) q (Device w t s answer ∷ es) g = absurd g
Goes-then next (Asks name bound rest) q (Did d ∷ es) g = absurd g
Goes-then next (Asks name bound rest) q (Read n found ∷ es) g =
    (g.0, Goes-then next (rest found) q es g.1)
Goes-then next (Asks name bound rest) q (Device w t s answer ∷ es) g = absurd g
Goes-then next (Runs words test signature rest) q (Did d ∷ es) g = absurd g
Goes-then next (Runs words test signature rest) q (Read n found ∷ es) g = absurd g
Goes-then next (Runs words test signature rest) q (Device w t s answer ∷ es) g =
    (g.0, g.1, g.2, Goes-then next (rest answer) q es g.3)

pub Reaches-start : {A : Type 0} (plan : Plan A) (c : Contents) → Reaches plan plan c c
Reaches-start plan c = record { effects = []; goes = refl; saw = tt; did = refl }

pub Reaches-trans : {A : Type 0} {plan mid rest : Plan A} {old between new : Contents}
    → Reaches plan mid old between → Reaches mid rest between new → Reaches plan rest old new
Reaches-trans {A} {plan} {mid} {rest} {old} {between} {new} r s =
    grind (arith, Goes-append, Saw-append, after-append)

pub Reaches-then : {A B : Type 0} (next : A → Plan B) {p q : Plan A} {old new : Contents}
    → Reaches p q old new → Reaches (p >>= next) (q >>= next) old new
Reaches-then next {p} {q} r = grind (arith, Goes-then)
