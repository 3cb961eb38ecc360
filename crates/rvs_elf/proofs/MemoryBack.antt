-- The memory of an image is loaded as it was written.
use Rattle.std.proofs.Common.{◌≡◌, ℕ, ◌+◌, ◌-◌, ◌<◌, ◌≤◌, Bool, true, false}
use Rattle.std.proofs.Common.{cond}
use Rattle.std.proofs.Common.{Some, Ok, List, [], ◌∷◌, length}
use Rattle.std.proofs.Common.{refl, ap, sym, ◌∙◌, ◌⊎◌, inl, inr, min, max}
use Rattle.std.proofs.Common.{arith}
use Rattle.std.specs.Prelude.{nat_le, nat_lt, not, ◌&&◌, ◌||◌}
use Rattle.std.proofs.lemmas.Bool.{and_from, and_left, and_right, cases_lt, lt-leb, or_left}
use Rattle.rvs_insn.specs.Memory.{Memory, text_limit, data_limit}
use Rattle.rvs_insn.proofs.Regions.{text_before, data_before}
use Rattle.rvs_elf.specs.declared.writing.Layout.{Layout}
use Rattle.rvs_elf.specs.declared.entries.Segment.{Segment}
use Rattle.rvs_elf.specs.Parts.{part}
use Rattle.rvs_elf.specs.Written as written
use Rattle.rvs_elf.specs.Loading.{Loaded, nothing_loaded, load, loaded, overlap, is_sound, fits}
use Rattle.rvs_elf.specs.Loading.{with_segment, placed, placed_from, in_text, in_data}
use Rattle.std.specs.List.{list_any}
use Rattle.std.specs.Prelude.{unwrap_or}
use Rattle.std.proofs.lemmas.Bool.Decides.{nat_tests}
use Rattle.std.proofs.lemmas.Bool.{or_right}
use Rattle.std.proofs.lemmas.List.{nil_from_length}
use Rattle.rvs_elf.proofs.Loads.{load_skips, load_takes, placed_alone}
use Rattle.rvs_elf.proofs.Joined.{le_test}
use Rattle.rvs_elf.proofs.PartsBack.{loading, both}

-- ---- the memory

pub record FirstDone (m : Memory) (bytes text : List ℕ) (size : ℕ) (second : Segment) : Type
    0 where
  pub earlier : List Segment
  pub clear : list_any (overlap second) earlier ≡ false
  pub done : (ss : List Segment)
      → load m bytes 0 [] nothing_loaded (loading 116 m.text_base size ∷ ss)
      ≡ load m bytes (0 + 1) earlier (record { text = text; ram = [] }) ss

unfoldable pub text_of : List ℕ → Loaded
text_of text = record { text = text; ram = [] }

within : (base size limit : ℕ) → size ≤ limit
    → (nat_le base base && nat_le (base + size) (base + limit)) ≡ true
within base size limit h = grind (arith, nat_tests)

pub text_placed : (m : Memory) (bytes text : List ℕ) (size : ℕ) → part 116 size bytes ≡ Some text
    → length text ≡ size → size ≤ text_limit m
    → with_segment m bytes (loading 116 m.text_base size) nothing_loaded ≡ text_of text
unfolding loading text_of
text_placed m bytes text size e f h =
    let base = m.text_base in
    let segment = loading 116 base size in
    let start : base - base ≡ 0 = omega arith in
    let file = unwrap_or (part 116 size bytes) [] in
    ap (λ b. cond b (record { text = placed_from base bytes segment []; ram = [] })
    (record { text = []; ram = placed_from m.data_base bytes segment [] }))
    (within base size (text_limit m) h)
    ∙ ap (λ k. record { text = placed k (k + size) file []; ram = [] }) start
    ∙ ap (λ o. record { text = placed 0 (0 + size) (unwrap_or o []) []; ram = [] }) e
    ∙ ap (λ l. record { text = l; ram = [] }) (placed_alone text size f)

pub text_sound : (m : Memory) (size : ℕ) → size ≤ text_limit m
    → is_sound m [] (loading 116 m.text_base size) ≡ true
unfolding loading
text_sound m size h =
    and_from _ _ (and_from _ _ (le_test size size (omega arith))
    (or_left _ (in_data m (loading 116 m.text_base size))
    (within m.text_base size (text_limit m) h))) refl

-- a segment of the text and one of the data share no address
apart : (m : Memory) (size at ram_size : ℕ) → size ≤ text_limit m → ram_size ≤ data_limit m
    → overlap (loading at m.data_base ram_size) (loading 116 m.text_base size) ≡ false
unfolding loading
apart m size at ram_size h k = by_order (cases_lt m.data_base m.text_base)
  where
    greater : (a b c d : ℕ) → d ≤ a → nat_lt (max a b) (min c d) ≡ false
    greater a b c d p = grind (arith, nat_tests)

    later : (a b c d : ℕ) → c ≤ b → nat_lt (max a b) (min c d) ≡ false
    later a b c d p = grind (arith, nat_tests)

    by_order : (m.data_base < m.text_base) ⊎ (m.text_base ≤ m.data_base)
        → nat_lt (max m.data_base m.text_base)
        (min (m.data_base + ram_size) (m.text_base + size)) ≡ false
    by_order (inl l) = later m.data_base m.text_base (m.data_base + ram_size) (m.text_base + size)
        (omega (arith, k, data_before m (omega (arith, l))))
    by_order (inr l) = greater m.data_base m.text_base (m.data_base + ram_size)
        (m.text_base + size) (omega (arith, h, text_before m l))

pub text_first : (m : Memory) (bytes text : List ℕ) (size at ram_size : ℕ) (b : Bool)
    → nat_lt 0 size ≡ b → part 116 size bytes ≡ Some text → length text ≡ size
    → size ≤ text_limit m → ram_size ≤ data_limit m
    → FirstDone m bytes text size (loading at m.data_base ram_size)
unfolding loading text_of
text_first m bytes text size at ram_size true l e f h k = record {
  earlier = loading 116 m.text_base size ∷ [];
  clear = ap (λ b. b || false) (apart m size at ram_size h k);
  done = λ ss. load_takes m bytes 0 [] nothing_loaded (loading 116 m.text_base size) ss l
      (text_sound m size h)
      ∙ ap (λ x. load m bytes (0 + 1) (loading 116 m.text_base size ∷ []) x ss)
      (text_placed m bytes text size e f h);
}
text_first m bytes text size at ram_size false l e f h k =
    let none : size ≡ 0 = grind (arith, nat_tests) in
    let empty = nil_from_length text (f ∙ none) in
    record {
      earlier = [];
      clear = refl;
      done = λ ss. load_skips m bytes 0 [] nothing_loaded (loading 116 m.text_base size) ss l
          ∙ ap (λ t. load m bytes (0 + 1) [] (text_of t) ss) (sym empty);
    }

unfoldable pub image_memory : List ℕ → List ℕ → Loaded
image_memory text ram = record { text = text; ram = ram }

-- a segment of the data isn't one of the text
not_in_text : (m : Memory) (at size : ℕ) → 0 < size → size ≤ data_limit m
    → in_text m (loading at m.data_base size) ≡ false
unfolding loading
not_in_text m at size some k = by_order (cases_lt m.data_base m.text_base)
  where
    by_order : (m.data_base < m.text_base) ⊎ (m.text_base ≤ m.data_base)
        → (nat_le m.text_base m.data_base
        && nat_le (m.data_base + size) (m.text_base + text_limit m)) ≡ false
    by_order (inl l) = and_left _ _ (lt-leb m.text_base m.data_base l)
    by_order (inr l) = and_right _ _ (lt-leb (m.data_base + size) (m.text_base + text_limit m)
        (omega (arith, text_before m l)))

pub ram_placed : (m : Memory) (bytes text ram : List ℕ) (at size : ℕ)
    → part at size bytes ≡ Some ram
    → length ram ≡ size → 0 < size → size ≤ data_limit m
    → with_segment m bytes (loading at m.data_base size) (text_of text) ≡ image_memory text ram
unfolding loading text_of image_memory
ram_placed m bytes text ram at size e f h k =
    let base = m.data_base in
    let segment = loading at base size in
    let start : base - base ≡ 0 = omega arith in
    let file = unwrap_or (part at size bytes) [] in
    ap (λ b. cond b (record { text = placed_from m.text_base bytes segment text; ram = [] })
    (record {
      text = text;
      ram = placed_from base bytes segment [];
    })) (not_in_text m at size h k)
    ∙ ap (λ n. record { text = text; ram = placed n (n + size) file [] }) start
    ∙ ap (λ o. record { text = text; ram = placed 0 (0 + size) (unwrap_or o []) [] }) e
    ∙ ap (λ l. record { text = text; ram = l }) (placed_alone ram size f)

pub ram_fits : (m : Memory) (at size : ℕ) → size ≤ data_limit m
    → fits m (loading at m.data_base size) ≡ true
unfolding loading
ram_fits m at size h =
    and_from _ _ (le_test size size (omega arith))
    (or_right (in_text m (loading at m.data_base size)) _
    (within m.data_base size (data_limit m) h))

pub ram_second : (m : Memory) (bytes text ram : List ℕ) (at size : ℕ) (earlier : List Segment)
    (b : Bool)
    → nat_lt 0 size ≡ b → list_any (overlap (loading at m.data_base size)) earlier ≡ false
    → part at size bytes ≡ Some ram → length ram ≡ size → size ≤ data_limit m
    → load m bytes (0 + 1) earlier (text_of text) (loading at m.data_base size ∷ [])
    ≡ Ok (image_memory text ram)
unfolding loading text_of image_memory
ram_second m bytes text ram at size earlier true l c e f h =
    let some : 0 < size = grind (arith, nat_tests) in
    let sound : is_sound m earlier (loading at m.data_base size) ≡ true =
    and_from _ _ (ram_fits m at size h) (ap not c) in
    load_takes m bytes (0 + 1) earlier (text_of text) (loading at m.data_base size) [] l sound
    ∙ ap Ok (ram_placed m bytes text ram at size e f some h)
ram_second m bytes text ram at size earlier false l c e f h =
    let none : size ≡ 0 = grind (arith, nat_tests) in
    let empty = nil_from_length ram (f ∙ none) in
    load_skips m bytes (0 + 1) earlier (text_of text) (loading at m.data_base size) [] l
    ∙ ap (λ r. Ok (image_memory text r)) (sym empty)

pub memory_back : (bytes text ram : List ℕ) (l : Layout) → part 116 l.text_size bytes ≡ Some text
    → part l.data_at l.data_size bytes ≡ Some ram → length text ≡ l.text_size
    → length ram ≡ l.data_size → l.text_size ≤ text_limit (written.memory_of l)
    → l.data_size ≤ data_limit (written.memory_of l)
    → loaded (written.memory_of l) bytes (both l) ≡ Ok (image_memory text ram)
unfolding loaded both text_of
memory_back bytes text ram l e f g h i j =
    let m = (written.memory_of l) in
    let first = text_first m bytes text l.text_size l.data_at l.data_size (nat_lt 0 l.text_size)
    refl e g i j in
    first.done (loading l.data_at m.data_base l.data_size ∷ [])
    ∙ ram_second m bytes text ram l.data_at l.data_size first.earlier (nat_lt 0 l.data_size) refl
    first.clear f h j
