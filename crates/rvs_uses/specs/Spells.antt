-- What the files of `compare` spell, and when they are refused.
use Rattle.std.specs.Prelude.{◌≡◌, ◌≢◌, ◌≤◌, ◌⊎◌, ℕ, List, length, Some, None, Ok, Err}
use Rattle.rvs_base.specs.Host.{Files}
use Rattle.rvs_base.specs.Sink.{SinkState, appended}
use Rattle.rvs_plan.specs.Refusing.{input_text}
use Rattle.rvs_sig.specs.Printed.{refusal_text}
use Rattle.rvs_sig.specs.Words.{words_of}
use Rattle.rvs_sig.specs.Verdicts.{verdict_of}
use Rattle.rvs_sig.specs.declared.words.SigRefusal.{SigRefusal}
use Rattle.rvs_uses.specs.Limits.{PassesLimit}
use Rattle.rvs_plain.specs.Texts.{same_line, verdict_line}
use Rattle.rvs_device.specs.Judged.{signature_limit}

-- the named file is there, within its limit, and spells these words
pub record Spells (files : Files) (name words : List ℕ) : Type 0 where
  pub bytes : List ℕ
  pub there : files name ≡ Some bytes
  pub within : length bytes ≤ signature_limit
  pub spelt : words_of bytes ≡ Ok words

-- the file is within its limit and spells no words
pub record SpellsNone (name bytes text : List ℕ) : Type 0 where
  pub within : length bytes ≤ signature_limit
  pub refusal : SigRefusal
  pub spelt : words_of bytes ≡ Err refusal
  pub text_is : text ≡ input_text name (refusal_text refusal)

-- the named file is there and is refused, for the reason that this text says
pub record IsRefused (files : Files) (name text : List ℕ) : Type 0 where
  pub bytes : List ℕ
  pub there : files name ≡ Some bytes
  pub reason : PassesLimit signature_limit name bytes text ⊎ SpellsNone name bytes text

-- both files spell words
pub record BothSpell (files : Files) (left right left_words right_words : List ℕ) : Type 0 where
  pub by_left : Spells files left left_words
  pub by_right : Spells files right right_words

-- the left file is refused, or it spells words and the right one is refused
abbrev pub FirstRefused : Files → List ℕ → List ℕ → List ℕ → Type 0
FirstRefused files left right text = IsRefused files left text ⊎
    ((words : List ℕ) × Spells files left words × IsRefused files right text)

-- the left file isn't there, or it spells words and the right one isn't there; this is its name
abbrev pub FirstMissing : Files → List ℕ → List ℕ → List ℕ → Type 0
FirstMissing files left right name = ((name ≡ left) × (files left ≡ None)) ⊎
    ((words : List ℕ) × Spells files left words × (name ≡ right) × (files right ≡ None))

-- both files spell the same words, and the output has the line that says so
pub record Passes (files : Files) (left right : List ℕ) (out out' : SinkState) : Type 0 where
  pub words : List ℕ
  pub both : BothSpell files left right words words
  pub printed : out'.bytes ≡ appended out.bytes (same_line (length words))

-- both files spell words, which differ, and the output has the line that says how
pub record Fails (files : Files) (left right : List ℕ) (out out' : SinkState) : Type 0 where
  pub left_words : List ℕ
  pub right_words : List ℕ
  pub both : BothSpell files left right left_words right_words
  pub differ : left_words ≢ right_words
  pub printed : out'.bytes
      ≡ appended out.bytes (verdict_line (length left_words) (verdict_of left_words right_words))
