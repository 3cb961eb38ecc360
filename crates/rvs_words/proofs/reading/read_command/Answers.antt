use Rattle.std.proofs.Common.{◌≡◌, ◌<◌, ◌≤◌, ◌-◌, ◌∙◌, List, ℕ, [], ◌∷◌, length, take, drop}
use Rattle.std.proofs.Common.{Option, arith, refl, sym, ap, slice_index_or}
use Rattle.std.specs.Prelude.{String, unwrap_or}
use Rattle.std.specs.String.{string_bytes}
use Rattle.std.specs.declared.alloc.Global.{Global}
use Rattle.rvs_words.specs.Words.{texts}
use Rattle.rvs_words.specs.Commands.{named, command_of}
use Rattle.rvs_words.specs.declared.command.Command.{Command}
use Rattle.rvs_words.specs.declared.command.Command.TheVariants.{Unknown}
use Rattle.rvs_words.proofs.reading.read_command.Goals as goal

-- fewer than two words are no command
few-words : (words : List (String Global)) → length words < 2 → Unknown ≡ command_of (texts words)
few-words [] few = refl
few-words (program ∷ []) few = refl
few-words (program ∷ name ∷ words) few = absurd (omega (arith, few))

-- as many words as there are, from the first, are all of them
whole : (words : List (String Global)) (n : ℕ) → n ≡ length words → take n words ≡ words
whole words n e = ap (λ m. take m words) e ∙ all words
  where
    all : (words : List (String Global)) → take (length words) words ≡ words
    all [] = refl
    all (word ∷ words) = ap (λ more. word ∷ more) (all words)

-- the words behind a name
abbrev behind : List (String Global) → List (List ℕ)
behind words = texts (take (length words - 2) (drop 2 words))

-- what is asked by a name and the words behind it is asked by all words
command-is : (words : List (String Global)) (program name : String Global) (p n : List ℕ)
    (asked : Option Command) → 2 ≤ length words
    → program ≡ slice_index_or words 0 program → name ≡ slice_index_or words 1 name
    → p ≡ string_bytes program → n ≡ string_bytes name → named p n (behind words) ≡ asked
    → unwrap_or asked Unknown ≡ command_of (texts words)
command-is [] program name p n asked low a b e f h = absurd (omega (arith, low))
command-is (w ∷ []) program name p n asked low a b e f h = absurd (omega (arith, low))
command-is (w ∷ v ∷ words) program name p n asked low a b e f h =
    let rest = whole words (length (w ∷ v ∷ words) - 2) (omega arith) in
    let same : named (string_bytes w) (string_bytes v) (texts words)
    ≡ named p n (behind (w ∷ v ∷ words)) =
    (λ k. named (sym (e ∙ ap string_bytes a) k) (sym (f ∙ ap string_bytes b) k)
    (texts (sym rest k))) in
    ap (λ (o : Option Command). unwrap_or o Unknown) (sym (same ∙ h))

pub returns-in_default : goal.returns-in_default
returns-in_default c = few-words c.args.words.now c.in_default.len_below

pub returns-in-Ok : goal.returns-in-Ok
returns-in-Ok c =
    command-is c.args.words.now c.program-item.result c.name-item.result c.as_str.result.now
    c.as_str-2.result.now _ c.in-len2-up.len_at_least c.program-item.is c.name-item.is
    c.as_str.ensures.value c.as_str-2.ensures.value c.in-Ok.ensures

pub returns-in-Err-NoCommand : goal.returns-in-Err-NoCommand
returns-in-Err-NoCommand c =
    command-is c.args.words.now c.program-item.result c.name-item.result c.as_str.result.now
    c.as_str-2.result.now _ c.in-len2-up.len_at_least c.program-item.is c.name-item.is
    c.as_str.ensures.value c.as_str-2.ensures.value
    (c.in-Err-NoCommand.ensures c.in-Err-NoCommand.field-0-is)
