-- Plans whose steps follow one another.
use Rattle.std.proofs.Common.{◌≡◌, Ok, Err, refl, ap}
use Rattle.std.proofs.Math.Path.{fun_ext}
use Rattle.rvs_plan.specs.Plan.{Plan, Ends, Does, Asks, Runs, ◌>>=◌}

pub then-then : {A B C : Type 0} (p : Plan A) (f : A → Plan B) (g : B → Plan C)
    → ((p >>= f) >>= g) ≡ (p >>= (λ a. f a >>= g))
then-then (Ends (Ok a)) f g = refl
then-then (Ends (Err stop)) f g = refl
then-then (Does deed rest) f g = ap (Does deed) (then-then rest f g)
then-then (Asks name bound next) f g =
    ap (Asks name bound) (fun_ext (λ found. then-then (next found) f g))
then-then (Runs words test signature next) f g =
    ap (Runs words test signature) (fun_ext (λ answer. then-then (next answer) f g))

pub then-same : {A B : Type 0} (p : Plan A) (f g : A → Plan B) → ((a : A) → f a ≡ g a)
    → (p >>= f) ≡ (p >>= g)
then-same p f g e = ap (λ h. p >>= h) (fun_ext e)
