-- Letters in a text, where they stand first.
use Rattle.std.proofs.Common.{◌≡◌, ℕ, zero, suc, ◌+◌, ◌<◌, ◌≤◌, List, [], ◌∷◌, ◌++◌, length, take}
use Rattle.std.proofs.Common.{drop, Option, Some, None, option_map, Bor, MatchOption, refl, sym, ap}
use Rattle.std.proofs.Common.{◌∙◌, arith, rules}
use Rattle.std.specs.Str.Pattern.{LacksTextAt, FindsText, SplitsAroundMatch}
use Rattle.rvs_text.specs.Parts.{behind, around_text}
use Rattle.rvs_text.proofs.Fronts.{at_front, not_in_front}

abbrev onto : ℕ → Option (List ℕ × List ℕ) → Option (List ℕ × List ℕ)
onto c o = option_map (λ p. (c ∷ p.0, p.1)) o

-- by what stands behind the letters at the front
abbrev by_front : ℕ → Option (List ℕ × List ℕ) → Option (List ℕ) → Option (List ℕ × List ℕ)
by_front c later None = onto c later
by_front c later (Some rest) = Some ([], rest)

by-front : (letters : List ℕ) (c : ℕ) (cs : List ℕ) (o : Option (List ℕ))
    → behind letters (c ∷ cs) ≡ o
    → around_text letters (c ∷ cs) ≡ by_front c (around_text letters cs) o
by-front letters c cs o e = ap (by_front c (around_text letters cs)) e

none : (letters s : List ℕ) → ((i : ℕ) → i ≤ length s → LacksTextAt letters s i)
    → around_text letters s ≡ None
none letters [] lacks = refl
none letters (c ∷ cs) lacks =
    by-front letters c cs None (not_in_front letters (c ∷ cs) (lacks 0 (omega arith)))
    ∙ ap (onto c) (none letters cs (λ i h. lacks (suc i) (omega (arith, h))))

found : (letters s : List ℕ) (i : ℕ) → ((k : ℕ) → k < i → LacksTextAt letters s k)
    → i + length letters ≤ length s → 0 < length letters
    → drop i s ≡ letters ++ drop (i + length letters) s
    → around_text letters s ≡ Some (take i s, drop (i + length letters) s)
found letters [] i lacks fits some is = absurd (omega (arith, fits, some))
found letters (c ∷ cs) zero lacks fits some is = grind (arith, by-front, at_front)
found letters (c ∷ cs) (suc i) lacks fits some is =
    let s = c ∷ cs in
    let ends : suc i + length letters ≡ suc (i + length letters) = omega arith in
    by-front letters c cs None (not_in_front letters s (lacks 0 (omega arith)))
    ∙ ap (onto c) (found letters cs i (λ k h. lacks (suc k) (omega (arith, h)))
    (omega (arith, fits)) some (is ∙ ap (λ n. letters ++ drop n s) ends))
    ∙ ap (λ n. Some (take (suc i) s, drop n s)) (sym ends)

-- what `split_once` says
pub around-split : (letters text : List ℕ) (r : Option (Bor (List ℕ) × Bor (List ℕ)))
    → 0 < length letters
    → MatchOption r (FindsText letters text None)
    (λ x. SplitsAroundMatch (FindsText letters) text x.0.now x.1.now)
    → option_map (λ p. (p.0.now, p.1.now)) r ≡ around_text letters text
around-split letters text r some lacks = search (rules, none, found)
