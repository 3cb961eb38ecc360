-- A verdict is a pass exactly where what was left spells the reference's words.
use Rattle.std.proofs.Common.{◌≡◌, ◌↔◌, ◌≤◌, ℕ, ℤ, Bool, false, not, nat_lt, ◌==◌}
use Rattle.std.proofs.Common.{◌&&◌, eq-eqb, if◌then◌else◌, List, [], ◌∷◌, length, Option, Some}
use Rattle.std.proofs.Common.{Result, Ok, refl, sym, ◌∙◌, arith, rules}
use Rattle.std.proofs.lemmas.Bool.{le-ltb, ltb-false}
use Rattle.std.specs.List.{zip, position}
use Rattle.rvs_sig.specs.Words.{words_of}
use Rattle.rvs_sig.proofs.Differences.{agrees, differs_nowhere}
use Rattle.rvs_sig.specs.Verdicts.{differ, verdict_at, verdict_of}
use Rattle.rvs_sig.specs.declared.words.SigRefusal.{SigRefusal}
use Rattle.rvs_sig.specs.declared.comparison.Verdict.TheVariants as sig
use Rattle.rvs_device.specs.Command.{is_empty}
use Rattle.rvs_device.specs.Judged.{signature_limit, compared, spelt, verdict_on}
use Rattle.rvs_device.specs.Judging.{Task, Spells}
use Rattle.rvs_device.specs.declared.verdicts.TestVerdict.TheVariants.{Pass, NoSignature, TooLong}

compared-same : (status : ℤ) (words : List ℕ)
    → compared status (verdict_of words words) ≡ Pass (length words) status
compared-same status words = simp (eq-eqb, differs_nowhere)

-- by the lengths, and the first place that differs
same_by : (status told : ℤ) (n : ℕ) (left right : List ℕ) (lengths : Bool) (first : Option ℕ)
    → (length left == length right) ≡ lengths → position differ (zip left right) ≡ first
    → compared status
    (if lengths then verdict_at left right first else sig.Lengths (length left) (length right))
    ≡ Pass n told → left ≡ right
same_by status told n left right lengths first h is e = search (rules, agrees)

compared-pass : (status told : ℤ) (n : ℕ) (left right : List ℕ)
    → compared status (verdict_of left right) ≡ Pass n told → left ≡ right
compared-pass status told n left right e = grind (arith, same_by)

spelt-pass : (status told : ℤ) (n : ℕ) (reference : List ℕ)
    (read : Result (List ℕ) SigRefusal)
    → spelt status reference read ≡ Pass n told → read ≡ Ok reference
spelt-pass status told n reference read e = search (rules, compared-pass)

-- by the tests of the length and of what is empty
left-pass : (t : Task) (status told : ℤ) (n : ℕ) (bytes : List ℕ) (long bare : Bool)
    → nat_lt signature_limit (length bytes) ≡ long
    → (if long then TooLong status else if bare then NoSignature status else spelt status
    t.reference (words_of bytes)) ≡ Pass n told → Spells t (Some bytes)
left-pass t status told n bytes long bare is e = search (rules, ltb-false, spelt-pass)

-- a pass with any numbers
pub pass-spells : (t : Task) (status told : ℤ) (n : ℕ) (left : Option (List ℕ))
    → verdict_on status t.reference left ≡ Pass n told → Spells t left
pass-spells t status told n left e = search (rules, left-pass, nat_lt)

-- an empty file spells no words
no-words : words_of [] ≡ Ok []
unfolding words_of
no-words = refl

not-bare : (bytes reference : List ℕ) → words_of bytes ≡ Ok reference
    → (is_empty bytes && not (is_empty reference)) ≡ false
not-bare [] [] e = refl
not-bare [] (w ∷ words) e = let both : Ok [] ≡ Ok (w ∷ words) = sym no-words ∙ e in absurd cc
not-bare (b ∷ bytes) reference e = refl

spells-pass : (t : Task) (status : ℤ) (bytes : List ℕ) → length bytes ≤ signature_limit
    → words_of bytes ≡ Ok t.reference
    → verdict_on status t.reference (Some bytes) ≡ Pass (length t.reference) status
spells-pass t status bytes within words = grind (arith, nat_lt, le-ltb, not-bare, compared-same)

pub passes : (t : Task) (status : ℤ) (left : Option (List ℕ))
    → (verdict_on status t.reference left ≡ Pass (length t.reference) status) ↔ Spells t left
passes t status left = grind (arith, pass-spells, spells-pass)
