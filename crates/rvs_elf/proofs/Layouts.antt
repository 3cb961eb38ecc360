-- Where the parts of a written file stand.
use Rattle.std.proofs.Common.{◌≡◌, ℕ, ◌+◌, ◌-◌, ◌*◌, ◌/◌, ◌^◌, ◌≤◌}
use Rattle.std.proofs.Common.{Some, List, ◌++◌, length}
use Rattle.std.proofs.Common.{refl, ap, ◌∙◌}
use Rattle.std.proofs.Common.{arith, replicate, append_assoc}
use Rattle.std.proofs.lemmas.List.{length-replicate}
use Rattle.rvs_insn.specs.Memory.{HasRoom}
use Rattle.rvs_insn.proofs.Regions.{text_most, data_most}
use Rattle.rvs_machine.specs.Image.{ImageValue, IsImage}
use Rattle.rvs_elf.specs.declared.writing.Layout.{Layout}
use Rattle.rvs_elf.specs.Parts.{part}
use Rattle.rvs_elf.specs.Written as written
use Rattle.rvs_elf.proofs.Joined.{part_behind, part_here}
use Rattle.rvs_elf.proofs.Joined.{part_all}
use Rattle.rvs_elf.proofs.PartsBack.{IsSmall}

-- ---- the file as a whole

-- the parts behind each one
pub behind_names : Layout → List ℕ
behind_names l = replicate 3 0 ++ written.sections l

pub behind_strings : Layout → List ℕ
behind_strings l = written.names ++ behind_names l

pub behind_symbols : Layout → List ℕ
behind_symbols l = written.strings ++ behind_strings l

pub behind_zeros : Layout → ImageValue → List ℕ
behind_zeros l i = written.symbols i.tohost i.sig_begin i.sig_end ++ behind_symbols l

pub gap : Layout → ℕ
gap l = l.symbols_at - l.data_at - l.data_size

pub behind_ram : Layout → ImageValue → List ℕ
behind_ram l i = replicate (gap l) 0 ++ behind_zeros l i

pub behind_text : Layout → ImageValue → List ℕ
behind_text l i = i.data_bytes ++ behind_ram l i

unfoldable pub behind_headers : Layout → ImageValue → List ℕ
behind_headers l i = i.text ++ behind_text l i

pub same_file : (l : Layout) (i : ImageValue)
    → written.file_of l i ≡ written.headers l ++ behind_headers l i
unfolding behind_headers behind_text behind_ram behind_zeros behind_symbols behind_strings
    behind_names gap
same_file l i =
    ap (λ r. written.headers l ++ r)
    (append_assoc i.text (i.data_bytes ++ replicate (l.symbols_at - l.data_at - l.data_size) 0)
    (written.tables i ++ written.sections l)
    ∙ ap (λ r. i.text ++ r) (append_assoc i.data_bytes
    (replicate (l.symbols_at - l.data_at - l.data_size) 0) (written.tables i ++ written.sections l)
    ∙ ap (λ r. i.data_bytes ++ (replicate (l.symbols_at - l.data_at - l.data_size) 0 ++ r))
    (append_assoc (written.symbols i.tohost i.sig_begin i.sig_end)
    (written.strings ++ (written.names ++ replicate 3 0)) (written.sections l)
    ∙ ap (λ r. written.symbols i.tohost i.sig_begin i.sig_end ++ r)
    (append_assoc written.strings (written.names ++ replicate 3 0) (written.sections l)
    ∙ ap (λ r. written.strings ++ r)
    (append_assoc written.names (replicate 3 0) (written.sections l))))))

pub headers_length : (l : Layout) → length (written.headers l) ≡ 116
unfolding written.headers
headers_length l = refl

pub symbols_length : (a b c : ℕ) → length (written.symbols a b c) ≡ 64
unfolding written.symbols
symbols_length a b c = refl

pub strings_length : length written.strings ≡ 38
unfolding written.strings
strings_length = refl

pub names_length : length written.names ≡ 39
unfolding written.names
names_length = refl

pub sections_length : (l : Layout) → length (written.sections l) ≡ 240
unfolding written.sections
sections_length l = refl

-- the layout of an image
unfoldable pub of : ImageValue → Layout
of i = written.layout_of i.memory (length i.text) (length i.data_bytes)

pub record IsLaid (i : ImageValue) (l : Layout) : Type 0 where
  pub memory : written.memory_of l ≡ i.memory
  pub text_size : l.text_size ≡ length i.text
  pub data_size : l.data_size ≡ length i.data_bytes
  pub data_at : l.data_at ≡ 116 + length i.text
  pub symbols_at : l.symbols_at ≡ 116 + (length i.text + (length i.data_bytes + gap l))
  pub strings_at : l.strings_at ≡ l.symbols_at + 64
  pub sections_at : l.sections_at ≡ l.symbols_at + 144

pub rounded : (a b c : ℕ)
    → (a + b + c + 3) / 4 * 4 ≡ a + (b + (c + ((a + b + c + 3) / 4 * 4 - (a + b) - c)))
rounded a b c = omega arith

pub laid : (i : ImageValue) → IsLaid i (of i)
unfolding of gap
laid i = record {
  memory = refl;
  text_size = refl;
  data_size = refl;
  data_at = refl;
  symbols_at = rounded 116 (length i.text) (length i.data_bytes);
  strings_at = refl;
  sections_at = refl;
}

pub small : (i : ImageValue) → HasRoom i.memory → IsImage i → IsSmall (of i)
unfolding of
small i room h =
    let a : length i.text ≤ 2 ^ 24 = omega (arith, h.text_short, text_most i.memory) in
    let b : length i.data_bytes ≤ 2 ^ 20 = omega (arith, h.data_short, data_most i.memory) in
    record {
      text_base = room.text_low;
      data_base = room.data_low;
      text = omega arith;
      ram = omega arith;
      data_at = omega arith;
      symbols_at = omega arith;
      strings_at = omega arith;
      sections_at = omega arith;
    }

pub text_there : (i : ImageValue) (l : Layout) → IsLaid i l
    → part 116 (length i.text) (written.headers l ++ behind_headers l i) ≡ Some i.text
unfolding behind_headers
text_there i l h =
    let e = headers_length l in
    part_behind (written.headers l) (i.text ++ behind_text l i) 116 0 (length i.text) (omega arith)
    ∙ part_here i.text (behind_text l i) (length i.text) refl

-- a part behind the text
pub behind_both : (i : ImageValue) (l : Layout) (at n size : ℕ) → at ≡ 116 + (length i.text + n)
    → part at size (written.headers l ++ behind_headers l i) ≡ part n size (behind_text l i)
unfolding behind_headers
behind_both i l at n size e =
    let h = headers_length l in
    part_behind (written.headers l) (i.text ++ behind_text l i) at (length i.text + n) size
    (omega arith)
    ∙ part_behind i.text (behind_text l i) (length i.text + n) n size refl

pub ram_there : (i : ImageValue) (l : Layout) → IsLaid i l
    → part l.data_at (length i.data_bytes) (written.headers l ++ behind_headers l i) ≡ Some
    i.data_bytes
unfolding behind_text
ram_there i l h =
    behind_both i l l.data_at 0 (length i.data_bytes) (omega (arith, h.data_at))
    ∙ part_here i.data_bytes (behind_ram l i) (length i.data_bytes) refl

-- a part behind data and zeros
pub behind_memory : (i : ImageValue) (l : Layout) → IsLaid i l → (at n size : ℕ)
    → at ≡ l.symbols_at + n
    → part at size (written.headers l ++ behind_headers l i) ≡ part n size (behind_zeros l i)
unfolding behind_text behind_ram
behind_memory i l h at n size e =
    let zeros = length-replicate {A = ℕ} (gap l) 0 in
    behind_both i l at (length i.data_bytes + (gap l + n)) size (omega (arith, h.symbols_at))
    ∙ part_behind i.data_bytes (replicate (gap l) 0 ++ behind_zeros l i)
    (length i.data_bytes + (gap l + n)) (gap l + n) size refl
    ∙ part_behind (replicate (gap l) 0) (behind_zeros l i) (gap l + n) n size (omega (arith, zeros))

pub symbols_there : (i : ImageValue) (l : Layout) → IsLaid i l
    → part l.symbols_at 64 (written.headers l ++ behind_headers l i)
    ≡ Some (written.symbols i.tohost i.sig_begin i.sig_end)
unfolding behind_zeros
symbols_there i l h =
    behind_memory i l h l.symbols_at 0 64 (omega arith)
    ∙ part_here (written.symbols i.tohost i.sig_begin i.sig_end) (behind_symbols l) 64
    (symbols_length i.tohost i.sig_begin i.sig_end)

pub behind_symbol_table : (i : ImageValue) (l : Layout) → IsLaid i l → (at n size : ℕ)
    → at ≡ l.symbols_at + (64 + n)
    → part at size (written.headers l ++ behind_headers l i) ≡ part n size (behind_symbols l)
unfolding behind_zeros
behind_symbol_table i l h at n size e =
    let s = symbols_length i.tohost i.sig_begin i.sig_end in
    behind_memory i l h at (64 + n) size e
    ∙ part_behind (written.symbols i.tohost i.sig_begin i.sig_end) (behind_symbols l) (64 + n) n
    size
    (omega arith)

pub strings_there : (i : ImageValue) (l : Layout) → IsLaid i l
    → part l.strings_at 38 (written.headers l ++ behind_headers l i) ≡ Some written.strings
unfolding behind_symbols
strings_there i l h =
    behind_symbol_table i l h l.strings_at 0 38 (omega (arith, h.strings_at))
    ∙ part_here written.strings (behind_strings l) 38 strings_length

pub sections_there : (i : ImageValue) (l : Layout) → IsLaid i l
    → part l.sections_at 240 (written.headers l ++ behind_headers l i) ≡ Some (written.sections l)
unfolding behind_symbols behind_strings behind_names
sections_there i l h =
    let s = strings_length in
    let n = names_length in
    behind_symbol_table i l h l.sections_at 80 240 (omega (arith, h.sections_at))
    ∙ part_behind written.strings (written.names ++ (replicate 3 0 ++ written.sections l)) 80 42 240
    (omega arith)
    ∙ part_behind written.names (replicate 3 0 ++ written.sections l) 42 3 240 (omega arith)
    ∙ part_behind (replicate 3 0) (written.sections l) 3 0 240 refl
    ∙ part_all (written.sections l) 240 (sections_length l)
