-- A case of a cross point: its lines, their symbols, their instructions, and what it does.
use Rattle.std.proofs.lemmas.Bool.Decides.{nat_tests}
use Rattle.std.proofs.Common.{◌≡◌, ℕ, zero, suc, ◌+◌, ◌*◌, ◌^◌, ◌<◌, ◌≤◌, true, List}
use Rattle.std.proofs.Common.{[], ◌∷◌, ◌++◌, length, Some, refl, sym, ap, ◌∙◌, arith, subst}
use Rattle.std.proofs.Common.{append-nil}
use Rattle.std.specs.Prelude.{map}
use Rattle.rvs_insn.specs.Memory.{Memory}
use Rattle.rvs_insn.specs.declared.op.Format.{Format}
use Rattle.rvs_insn.specs.Isa.{Isa}
use Rattle.rvs_insn.specs.Fields.{Fields}
use Rattle.rvs_insn.proofs.RoundTrip.{round_trip}
use Rattle.rvs_machine.specs.Machine.{Setup}
use Rattle.rvs_asm.specs.declared.location.Location.{Location}
use Rattle.rvs_asm.specs.Locations.{next}
use Rattle.rvs_test_text.specs.declared.statement.Name.{Name}
use Rattle.rvs_test_text.specs.declared.statement.Name.TheVariants.{Case as CaseName, Slot}
use Rattle.rvs_test_text.specs.declared.statement.Statement.{Statement}
use Rattle.rvs_test_text.specs.declared.statement.Statement.TheVariants.{Label, Plain}
use Rattle.rvs_test_text.specs.Sound.{computes, AllComputing, IsSequence}
use Rattle.rvs_test_text.specs.Claim.{insns_of}
use Rattle.rvs_test_text.specs.Statements.{line_of}
use Rattle.rvs_test_text.specs.TestText.{save, start_word, load_words, plains, first_rd, last_rd}
use Rattle.rvs_test_text.specs.TestText.{cross_case}
use Rattle.rvs_test_text.specs.TestText.{bytes_all}
use Rattle.rvs_test_text.proofs.Runs.{StandFrom}
use Rattle.rvs_test_text.proofs.Cases.{IsGood}
use Rattle.rvs_test_text.proofs.KindLaws.{OwnFormat}
use Rattle.rvs_test_text.proofs.Tables.{Marks, AllBelow, lacks_later}
use Rattle.rvs_test_text.proofs.Passes.{AllFine, fine_join, marks, Distinct, AllLinked, IsThere}
use Rattle.rvs_test_text.proofs.Assembled.{made_all, text_at}
use Rattle.rvs_test_text.proofs.PlainCases.{source_distinct, source_linked}
use Rattle.rvs_test_text.proofs.PlainCases.{source_bytes, fine_save}
use Rattle.rvs_test_text.proofs.Registers.{has_low}
use Rattle.rvs_test_text.proofs.CaseRuns.{IsPlaced}
use Rattle.rvs_test_text.proofs.Window.{Words, entries, entry_in, words_behind, words_code}
use Rattle.rvs_test_text.proofs.CrossGood.{rd_middle, last_middle, cross_code, cross_of, cross_good}

-- ---- bytes
words_bytes : (r n : ℕ) (ss : List Statement)
    → bytes_all (load_words r n ++ ss) ≡ 8 * n + bytes_all ss
words_bytes r zero ss = omega arith
words_bytes r (suc n) ss = grind (arith, source_bytes, Some, (words_bytes (r + 1) n ss))

plains_bytes : (is : List Fields) (ss : List Statement)
    → bytes_all (plains is ++ ss) ≡ 4 * length is + bytes_all ss
plains_bytes [] ss = omega arith
plains_bytes (i ∷ is) ss = grind (arith, length, (plains_bytes is ss))

pub cross_bytes : (k : ℕ) (is : List Fields) → bytes_all (cross_case k is) ≡ 80 + 4 * length is
cross_bytes k is = grind (arith, length, plains_bytes, words_bytes)

-- ---- symbols
words_marks : (memory : Memory) (r n : ℕ) (ss : List Statement) (a m : ℕ)
    → marks (load_words r n ++ ss) (text_at memory a m) ≡ marks ss (text_at memory (a + 8 * n) m)
words_marks memory r zero ss a m = ap (λ x. marks ss (text_at memory x m)) (omega arith)
words_marks memory r (suc n) ss a m =
    grind (arith, nat_tests, (words_marks memory (r + 1) n ss (a + 8) m))

plains_marks : (is : List Fields) (ss : List Statement) (p : Location)
    → ((q : Location) → marks ss q ≡ []) → marks (plains is ++ ss) p ≡ []
plains_marks [] ss p h = h p
plains_marks (i ∷ is) ss p h = plains_marks is ss (next p (line_of (Plain i)).body) h

pub cross_marks : (memory : Memory) (k : ℕ) (is : List Fields) (a m : ℕ)
    → marks (cross_case k is) (text_at memory a m)
    ≡ (CaseName k, record { at = memory.text_base + (a + 64); in_text = true }) ∷ []
cross_marks memory k is a m = grind (arith, words_marks, true, plains_marks, text_at)

-- ---- no label twice
words_distinct : (t : Marks) (r n : ℕ) (ss : List Statement) (p : Location)
    → ((q : Location) → Distinct t ss q) → Distinct t (load_words r n ++ ss) p
words_distinct t r zero ss p h = h p
words_distinct t r (suc n) ss p h =
    source_distinct t (Some r) (start_word r) (load_words (r + 1) n ++ ss) p
    (λ q. words_distinct t (r + 1) n ss q h)

plains_distinct : (t : Marks) (is : List Fields) (ss : List Statement) (p : Location)
    → ((q : Location) → Distinct t ss q) → Distinct t (plains is ++ ss) p
plains_distinct t [] ss p h = h p
plains_distinct t (i ∷ is) ss p h = (
  tt,
  plains_distinct (t ++ []) is ss (next p (line_of (Plain i)).body)
      (λ q. subst (λ x. Distinct x ss q) (sym (append-nil t)) (h q)),
)

pub cross_distinct : (n k : ℕ) (is : List Fields) (t : Marks) (p : Location) → k < 2 ^ 32
    → AllBelow n (k + 1) t → Distinct t (cross_case k is) p
cross_distinct n k is t p small below =
    let end = save 5 k (first_rd is) (last_rd is) in
    words_distinct t 8 8 (Label (CaseName k) ∷ (plains is ++ end)) p
    (λ q. (
      (small, lacks_later n (k + 1) t (CaseName k) (omega arith) below),
      plains_distinct _ is end (next q (line_of (Label (CaseName k))).body)
          (λ r. (tt, (tt, (tt, (tt, tt))))),
    ))

-- ---- its lines can be read and assembled
words_fine : (isa : Isa) (r n : ℕ) → r + n ≤ 16 → AllFine isa (load_words r n)
words_fine isa r zero h = tt
words_fine isa r (suc n) h = grind (arith, nat_tests, (words_fine isa (r + 1) n (omega arith)))

own_computing : (f : Format) → computes f ≡ true → OwnFormat f
own_computing f h = grind arith

plains_fine : (isa : Isa) (is : List Fields) → AllComputing isa is → AllFine isa (plains is)
plains_fine isa [] are = tt
plains_fine isa (i ∷ is) are = grind (arith, own_computing, (plains_fine isa is are.1))

ends_low : (isa : Isa) (is : List Fields) → AllComputing isa is
    → (first_rd is < 16) × (last_rd is < 16)
ends_low isa [] are = (omega arith, omega arith)
ends_low isa (i ∷ is) are = grind (arith, rd_middle, last_middle)

pub cross_fine : (isa : Isa) (k : ℕ) (is : List Fields) → k < 2 ^ 32 → IsSequence isa is
    → AllFine isa (cross_case k is)
cross_fine isa k is small sequence =
    grind (arith, nat_tests, ends_low, fine_join, words_fine, plains_fine, fine_save, has_low)

-- ---- each symbol is there
words_linked : (t : Marks) (r n : ℕ) (ss : List Statement) (p : Location)
    → ((q : Location) → AllLinked t ss q) → AllLinked t (load_words r n ++ ss) p
words_linked t r zero ss p h = h p
words_linked t r (suc n) ss p h =
    source_linked t (Some r) (start_word r) (load_words (r + 1) n ++ ss) p
    (λ q. words_linked t (r + 1) n ss q h)

plains_linked : (t : Marks) (is : List Fields) (ss : List Statement) (p : Location)
    → ((q : Location) → AllLinked t ss q) → AllLinked t (plains is ++ ss) p
plains_linked t [] ss p h = h p
plains_linked t (i ∷ is) ss p h = (tt, plains_linked t is ss (next p (line_of (Plain i)).body) h)

pub cross_linked : (t : Marks) (k : ℕ) (is : List Fields) (p : Location) → IsThere t (Slot k)
    → AllLinked t (cross_case k is) p
cross_linked t k is p slot =
    let end = save 5 k (first_rd is) (last_rd is) in
    words_linked t 8 8 (Label (CaseName k) ∷ (plains is ++ end)) p
    (λ q. (
      tt,
      plains_linked t is end (next q (line_of (Label (CaseName k))).body)
          (λ r. (slot, (slot, (tt, (tt, tt))))),
    ))

-- ---- its instructions
words_made : (env : Name → ℕ) (pc r n : ℕ) (ss : List Statement)
    → made_all env pc (load_words r n ++ ss) ≡ words_code r n ++ made_all env (pc + 8 * n) ss
words_made env pc r zero ss = ap (λ x. made_all env x ss) (omega arith)
words_made env pc r (suc n) ss = grind (arith, nat_tests, (words_made env (pc + 8) (r + 1) n ss))

plains_made : (env : Name → ℕ) (pc : ℕ) (is : List Fields) (ss : List Statement)
    → made_all env pc (plains is ++ ss) ≡ is ++ made_all env (pc + 4 * length is) ss
plains_made env pc [] ss = ap (λ x. made_all env x ss) (omega arith)
plains_made env pc (i ∷ is) ss = grind (arith, nat_tests, (plains_made env (pc + 4) is ss))

cross_made : (env : Name → ℕ) (pc k : ℕ) (is : List Fields)
    → made_all env pc (cross_case k is) ≡ cross_code is (env (Slot k))
cross_made env pc k is = simp (words_made, words_code, made_all, plains_made)

-- ---- what it does
pub cross_does : (setup : Setup) (ram0 : List ℕ) (env : Name → ℕ) (k : ℕ) (i : Fields)
    (is : List Fields) (pc slot : ℕ) → IsSequence setup.isa (i ∷ is)
    → IsPlaced setup ram0 pc slot (80 + 4 * length (i ∷ is))
    → env (Slot k) ≡ setup.isa.memory.data_base + slot
    → StandFrom setup pc (made_all env pc (cross_case k (i ∷ is)))
    → IsGood setup ram0 (cross_of i is pc slot)
cross_does setup ram0 env k i is pc slot sequence at sig there =
    let code : made_all env pc (cross_case k (i ∷ is))
    ≡ cross_code (i ∷ is) (setup.isa.memory.data_base + slot) =
    cross_made env pc k (i ∷ is) ∙ ap (cross_code (i ∷ is)) sig in
    cross_good setup ram0 i is pc slot sequence.all (omega (arith, sequence.most))
    (subst (StandFrom setup pc) code there) (omega (arith, at.room)) at.words at.fits at.short
    (omega (arith, at.tohost, at.later))

-- what was executed are its places
pub window_is : (isa : Isa) (pc : ℕ) (is : List Fields) (f : Words) → AllComputing isa is
    → insns_of (entries pc is f) ≡ map (λ (i : Fields). Some i) is
window_is isa pc [] f are = refl
window_is isa pc (i ∷ is) f are =
    ap (λ x. x ∷ insns_of (entries (pc + 4) is (words_behind f (entry_in pc i f))))
    (round_trip i are.0.encodable)
    ∙ ap (λ l. Some i ∷ l) (window_is isa (pc + 4) is (words_behind f (entry_in pc i f)) are.1)
