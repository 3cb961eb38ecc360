-- Texts that begin with letters.
use Rattle.std.proofs.Common.{◌≡◌, ◌≢◌, ℕ, ◌+◌, Bool, true, false, if◌then◌else◌, List, ◌++◌}
use Rattle.std.proofs.Common.{length, take, drop, Option, Some, None, option_map, bytes_eq, Bor}
use Rattle.std.proofs.Common.{MatchOption, refl, sym, ap, ◌∙◌, arith, rules}
use Rattle.std.specs.Str.{IsCharBoundary}
use Rattle.std.proofs.lemmas.Slice.Eq.{bytes_eq-Decides}
use Rattle.std.proofs.Math.Seq.{take-append_seam}
use Rattle.std.proofs.lemmas.List.{take-append-drop}
use Rattle.rvs_text.specs.Parts.{behind}

-- the text begins with the letters
pub at_front : (letters text : List ℕ) → text ≡ letters ++ drop (length letters) text
    → behind letters text ≡ Some (drop (length letters) text)
at_front letters text is = grind (arith, take-append_seam, bytes_eq, bytes_eq-Decides)

-- it doesn't
elsewhere : (letters text : List ℕ) (same : Bool)
    → bytes_eq (take (length letters) text) letters ≡ same
    → ((rest : List ℕ) → text ≢ letters ++ rest)
    → (if same then Some (drop (length letters) text) else None) ≡ None
elsewhere letters text false is unlike = refl
elsewhere letters text true is unlike =
    let front = (bytes_eq-Decides (take (length letters) text) letters).0 is in
    absurd (unlike (drop (length letters) text) (sym (take-append-drop (length letters) text)
    ∙ ap (λ (xs : List ℕ). xs ++ drop (length letters) text) front))

pub not_in_front : (letters text : List ℕ) → ((rest : List ℕ) → text ≢ letters ++ rest)
    → behind letters text ≡ None
not_in_front letters text unlike = simp (elsewhere, bytes_eq)

-- what `strip_prefix` says
pub behind-stripped : (letters text : List ℕ) (r : Option (Bor (List ℕ)))
    → MatchOption r ((rest : List ℕ) → text ≢ letters ++ rest)
    (λ x. (n : ℕ) × ((n ≡ length letters) × (text ≡ letters ++ drop n text)
    × IsCharBoundary text (length letters)) × (x.now ≡ drop n text) × (length x.now + n
    ≡ length text))
    → option_map (λ x. x.now) r ≡ behind letters text
behind-stripped letters text r unlike = search (rules, not_in_front, at_front)
