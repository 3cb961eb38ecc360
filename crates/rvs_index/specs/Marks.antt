-- Lists by the signs that their points say.
use Rattle.std.specs.Prelude.{◌≡◌, ℕ, pos, ◌+◌, ◌*◌, ◌/◌, ◌%◌, ◌^◌, ◌<◌, ◌≤◌, All, false, Some}
use Rattle.std.specs.Prelude.{List, [], ◌∷◌, length, slice_index_or}
use Rattle.rvs_points.specs.PointView.{point_view}
use Rattle.rvs_points.specs.Hits.{holds}
use Rattle.rvs_expr.specs.Meaning.{Table}
use Rattle.rvs_expr_text.specs.declared.lexeme.NumName.TheVariants.{EaAlign}
use Rattle.rvs_facts.specs.Mnemonics.{number}
use Rattle.rvs_insn.specs.declared.op.Op.{Op}
use Rattle.rvs_index.specs.Buckets.{bucket_count, number_bucket}
use Rattle.rvs_index.specs.Index.{places, raised, raised_all}
use Rattle.rvs_index.specs.Shortcuts.{says}
use Rattle.rvs_index.specs.Signs.{has_all, signs_of, signs_word}
use Rattle.rvs_index.specs.declared.mark.Audience.{Audience}
use Rattle.rvs_index.specs.declared.mark.Audience.TheVariants.{Mnemonic, Aligned}
use Rattle.rvs_index.specs.declared.mark.Mark.{Mark}
use Rattle.rvs_index.specs.declared.mark.Head.{Head}
use Rattle.rvs_index.specs.declared.shortcut.Shortcut.{Shortcut}
use Rattle.rvs_index.specs.declared.slot.Slot.{Slot}

-- an instruction of this mnemonic and with these facts is held against a list
abbrev pub ComesTo : Audience → Op → Table → Type 0
ComesTo (Mnemonic n) op t = number op ≡ n
ComesTo (Aligned z) op t = t.num EaAlign ≡ Some z

-- what a shortcut says, and that all signs of a mask are so, is one for such instructions
abbrev pub SaysSigns : Audience → Shortcut → ℕ → Type 0
SaysSigns a s mask = (op : Op) (t : Table) → ComesTo a op t
    → says s op t ≡ has_all (signs_word (signs_of t)) mask

-- a mark stands for a point: such instructions hit it where they have its signs
pub record IsMark (a : Audience) (s : Slot) (m : Mark) : Type 0 where
  pub place : m.at ≡ s.at
  pub says : (op : Op) (t : Table) → ComesTo a op t
      → holds (point_view s.point.now) op t ≡ has_all (signs_word (signs_of t)) m.mask

-- the counts after marks, of which those are hit whose bits this word has
abbrev pub raised_marks : ℕ → List Mark → List ℕ → List ℕ
raised_marks word [] counts = counts
raised_marks word (m ∷ ms) counts =
    raised_marks word ms (raised (has_all word m.mask) m.at counts)

-- marks for the first points
pub record HasMarks (a : Audience) (slots : List Slot) (marks : List Mark) : Type 0 where
  pub each : (k : ℕ) (d : Slot) (e : Mark) → k < length marks
      → IsMark a (slice_index_or slots k d) (slice_index_or marks k e)

-- marks add what others add, and name no places but theirs and the first; at most 16 are more
pub record AreFilled (marks : List Mark) (filled : List Mark) : Type 0 where
  pub adds : (word : ℕ) (counts : List ℕ) → word < 2 ^ 31
      → raised_marks word filled counts ≡ raised_marks word marks counts
  pub low : (n : ℕ) → 0 < n → All (λ (m : Mark). m.at < n) marks
      → All (λ (m : Mark). m.at < n) filled
  pub few : length filled ≤ length marks + 16

-- a head adds what the points of its list add, and names no other places, where it doesn't say that
-- there are more
pub record IsHead (a : Audience) (slots : List Slot) (h : Head) : Type 0 where
  pub adds : h.more ≡ false → (op : Op) (t : Table) (counts : List ℕ) → ComesTo a op t
      → raised_marks (signs_word (signs_of t)) h.marks counts
      ≡ raised_all (λ p. holds p op t) (places slots) counts
  pub low : h.more ≡ false → (k : ℕ) → 0 < k → All (λ (s : Slot). s.at < k) slots
      → All (λ (m : Mark). m.at < k) h.marks
  pub few : h.more ≡ false → length h.marks ≤ length slots + 16

-- those of the first lists of a kind, by whom each is for and its number
pub record HasHeads (who : ℕ → Audience) (key : ℕ → ℕ) (lists : List (List Slot))
    (heads : List Head) : Type 0 where
  pub each : (n : ℕ) (d : List Slot) (e : Head) → n < length heads
      → IsHead (who n) (slice_index_or lists (key n) d) (slice_index_or heads n e)

-- of each mnemonic its first list
abbrev pub HasFirstHeads : List (List Slot) → List Head → Type 0
HasFirstHeads lists heads = HasHeads (λ n. Mnemonic n) (λ n. n * bucket_count) lists heads

-- of each mnemonic the lists of the four places of an address
abbrev pub place_key : ℕ → ℕ
place_key n = n / 4 * bucket_count + number_bucket EaAlign (pos (n % 4))

abbrev pub HasPlaceHeads : List (List Slot) → List Head → Type 0
HasPlaceHeads lists heads = HasHeads (λ n. Aligned (pos (n % 4))) place_key lists heads
