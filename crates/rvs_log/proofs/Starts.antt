-- What a line says, by the byte that it begins with.
use Rattle.std.proofs.Common.{◌≡◌, ℕ, ◌≤◌, false, List, [], ◌∷◌, Option, None, refl, sym, ap}
use Rattle.std.proofs.Common.{◌∙◌, ◌<◌, arith, get_or, length, subst}
use Rattle.std.specs.Prelude.{◌==◌}
use Rattle.std.specs.Option.{option_or}
use Rattle.rvs_log.specs.Grammar.{Reading, Nothing, after_brackets, after_core, commit_log}
use Rattle.rvs_log.specs.Grammar.{or_nothing, reading_of, sail_log, write_line, writes}

or_none : (o : Option Reading) → option_or o None ≡ o
or_none o = grind arith

core_led : (bs : List ℕ) → reading_of (99 ∷ bs) ≡ or_nothing (commit_log (99 ∷ bs))
unfolding reading_of after_brackets write_line
core_led bs =
    ap or_nothing (or_none (option_or (commit_log (99 ∷ bs)) None)
    ∙ or_none (commit_log (99 ∷ bs)))

sail_led : (bs : List ℕ) → reading_of (91 ∷ bs) ≡ or_nothing (sail_log (91 ∷ bs))
unfolding reading_of after_core write_line
sail_led bs = ap or_nothing (or_none (sail_log (91 ∷ bs)))

write_led : (bs : List ℕ) → reading_of (120 ∷ bs) ≡ or_nothing (writes (write_line (120 ∷ bs)))
unfolding reading_of after_core after_brackets
write_led bs = refl

-- with a c, as in a commit log
pub core_line : (bs : List ℕ) → 1 ≤ length bs → get_or bs 0 0 ≡ 99
    → or_nothing (commit_log bs) ≡ reading_of bs
core_line [] l e = absurd (omega arith)
core_line (b ∷ bs) l e =
    subst (λ b. or_nothing (commit_log (b ∷ bs)) ≡ reading_of (b ∷ bs)) (sym e) (sym (core_led bs))

-- with a bracket, as the instructions of a Sail log
pub sail_line : (bs : List ℕ) → 1 ≤ length bs → get_or bs 0 0 ≡ 91
    → or_nothing (sail_log bs) ≡ reading_of bs
sail_line [] l e = absurd (omega arith)
sail_line (b ∷ bs) l e =
    subst (λ b. or_nothing (sail_log (b ∷ bs)) ≡ reading_of (b ∷ bs)) (sym e) (sym (sail_led bs))

-- with an x, as a write
pub write_alone : (bs : List ℕ) → 1 ≤ length bs → get_or bs 0 0 ≡ 120
    → or_nothing (writes (write_line bs)) ≡ reading_of bs
write_alone [] l e = absurd (omega arith)
write_alone (b ∷ bs) l e =
    subst (λ b. or_nothing (writes (write_line (b ∷ bs))) ≡ reading_of (b ∷ bs)) (sym e)
    (sym (write_led bs))

-- with none of these
pub no_line : (bs : List ℕ) → 1 ≤ length bs → (get_or bs 0 0 == 99) ≡ false
    → (get_or bs 0 0 == 91) ≡ false → (get_or bs 0 0 == 120) ≡ false → Nothing ≡ reading_of bs
unfolding reading_of after_core after_brackets write_line
no_line [] l c s w = absurd (omega arith)
no_line (b ∷ bs) l c s w = rw (c, s, w) refl

pub empty_line : (bs : List ℕ) → length bs < 1 → Nothing ≡ reading_of bs
unfolding reading_of after_core after_brackets write_line
empty_line [] l = refl
empty_line (b ∷ bs) l = absurd (omega arith)
