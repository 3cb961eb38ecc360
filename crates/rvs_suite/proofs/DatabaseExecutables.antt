-- That the executables of a database's tests are there when all were judged, and run as these do.
use Rattle.std.proofs.Common.{◌≡◌, ◌≢◌, ◌≤◌, ◌<◌, ◌+◌, ◌^◌, ℕ, zero, suc, Bool, true, false, List}
use Rattle.std.proofs.Common.{[], ◌∷◌, length, Contains, IsTrue, Option, Some, Result, Ok}
use Rattle.std.proofs.Common.{Err}
use Rattle.std.proofs.Common.{bytes_eq, codes, decimal, refl, sym, ap, subst, ◌∙◌}
use Rattle.std.proofs.Common.{arith}
use Rattle.std.specs.Prelude.{⊤}
use Rattle.std.proofs.lemmas.Fmt.{decimal_injective}
use Rattle.std.proofs.lemmas.List.Elements.{Contains-append_right}
use Rattle.rvs_base.specs.Host.{Files}
use Rattle.rvs_plan.specs.declared.stop.Stop.{Stop}
use Rattle.rvs_parts.specs.Parts.{PartValue}
use Rattle.rvs_insn.specs.Memory.{Memory, HasRoom}
use Rattle.rvs_insn.specs.Isa.{Isa}
use Rattle.rvs_elf.specs.Executable.{image_of_elf}
use Rattle.rvs_elf.specs.Laws.{with_marks}
use Rattle.rvs_elf.specs.Written.{elf_of}
use Rattle.rvs_elf.proofs.ReadBack.{reads_back, runs_alike}
use Rattle.rvs_select.specs.declared.database.Entry.{Entry}
use Rattle.rvs_inputs.specs.DatabaseInput.{database_in, marked, marked_from, marked_in}
use Rattle.rvs_inputs.specs.DeviceInput.{device_in}
use Rattle.rvs_inputs.specs.GroupFiles.{and_then}
use Rattle.rvs_suite.specs.JudgingDatabase.{database_inputs_in, chosen_in, HasExecutable, IsNoneOf}
use Rattle.rvs_run.specs.RunDatabase.{chosen, chosen_if, DatabaseInputs}
use Rattle.rvs_suite.specs.RunLeft.{Trial, with_trial, with_trials, IsTrialOf, AreTrialsOf}
use Rattle.rvs_run.specs.RunTests.{Bench, asks_elf}
use Rattle.rvs_inputs.specs.Specification.{said_in}
use Rattle.rvs_generate.specs.TestFiles.{files_at}
use Rattle.rvs_generate.specs.Tests.{to_read}
use Rattle.rvs_generate.specs.declared.sources.Given.{Given}
use Rattle.rvs_generate.specs.declared.sources.Source.TheVariants.{Read}
use Rattle.rvs_promises.proofs.SelectionReads.{holds-tests}
use Rattle.rvs_suite.proofs.Executables.{there-executable}
use Rattle.rvs_promises.proofs.FoundImages.{sound}
use Rattle.rvs_suite.proofs.KeptTrials.{WasMade, was-made, kept-trials}
use Rattle.rvs_promises.proofs.Meanings.{then-ok, says-of}
use Rattle.rvs_isa.proofs.Rooms.{accepted_have_room}
use Rattle.rvs_generate.proofs.Paths.{same-ending, passed-by, other-bytes, reference-not-executable}
use Rattle.rvs_generate.proofs.Paths.{device-not-executable}
use Rattle.rvs_words.specs.declared.command.RunDatabaseArguments.{RunDatabaseArguments}

-- ---- the files that a trial leaves
abbrev executable_name : Bench → Given → List ℕ
executable_name bench given = (files_at bench.work given.place given.name).executable

-- the executable of a test is there behind its own trial
there-behind : (bench : Bench) (files : Files) (given : Given) (t : Trial) → IsTrue (asks_elf bench)
    → t.source ≡ Read given → (w : WasMade files bench given t.made)
    → with_trial t files (executable_name bench given) ≡ Some (elf_of w.image)
there-behind bench files given t wanted source w =
    let names = files_at bench.work given.place given.name in
    let place = decimal given.place in
    (λ i. with_trial (record { source = source i; made = w.is i; run = t.run }) files
    names.executable)
    ∙ passed-by (bytes_eq names.executable names.device) _ _ (other-bytes names.executable
    names.device (λ same. device-not-executable bench.work place place (sym same)))
    ∙ passed-by (bytes_eq names.executable names.reference) _ _ (other-bytes names.executable
    names.reference (λ same. reference-not-executable bench.work place place (sym same)))
    ∙ there-executable (asks_elf bench) names.executable (elf_of w.image) files wanted

-- ---- the places of tests
abbrev AreApart : List Given → Type 0
AreApart [] = ⊤
AreApart (g ∷ gs) = ((h : Given) → Contains gs h → g.place ≢ h.place) × AreApart gs

within-chosen : (n : ℕ) (es : List Entry) (g : Given) → Contains (chosen n es) g
    → (n ≤ g.place) × (g.place < n + length es)
within-chosen n [] g (i, within, at) = absurd (omega (arith, within))
within-chosen n (e ∷ es) g there =
    by e.selected there (λ h. within-chosen (suc n) es g h)
  where
    by : (b : Bool) → Contains (chosen_if b (record { place = n; name = e.name })
        (chosen (suc n) es)) g
        → (Contains (chosen (suc n) es) g → (suc n ≤ g.place) × (g.place < suc n + length es))
        → (n ≤ g.place) × (g.place < n + suc (length es))
    by true (zero, within, at) later =
        let same = ap (λ (x : Given). x.place) at in
        (omega (arith, same), omega (arith, same))
    by true (suc i, within, at) later =
        let h = later (i, omega (arith, within), at) in
        (omega (arith, h.0), omega (arith, h.1))
    by false there later =
        let h = later there in (omega (arith, h.0), omega (arith, h.1))

pub apart-chosen : (n : ℕ) (es : List Entry) → AreApart (chosen n es)
apart-chosen n [] = tt
apart-chosen n (e ∷ es) = by e.selected (apart-chosen (suc n) es)
  where
    by : (b : Bool) → AreApart (chosen (suc n) es)
        → AreApart (chosen_if b (record { place = n; name = e.name }) (chosen (suc n) es))
    by true later = (
      λ h there same.
          let w = within-chosen (suc n) es h there in omega (arith, w.0, same),
      later,
    )
    by false later = later

-- ---- how many there are
length-marked : (part : Option PartValue) (n : ℕ) (es : List Entry)
    → length (marked_from part n es) ≡ length es
length-marked part n [] = refl
length-marked part n (e ∷ es) = ap (λ k. suc k) (length-marked part (n + 1) es)

entries-few : (files : Files) (part : Option PartValue) (isa : Isa) (name : List ℕ)
    (entries : List Entry) → marked_in files part isa name ≡ Ok entries → length entries ≤ 4096
entries-few files part isa name entries is =
    let t = then-ok (database_in files isa name) (λ es. Ok (marked part es)) entries is in
    let same : marked part t.0 ≡ entries = let both = t.2 in cc in
    let few = (holds-tests files isa name t.0 t.1).few in
    let long = length-marked part 0 t.0 in
    omega (arith, few, long, ap (λ (es : List Entry). length es) same)

abbrev with_told : Files → RunDatabaseArguments → Isa → List Entry → Result DatabaseInputs Stop
with_told files asked isa entries =
    and_then (device_in files asked.device) (λ told.
    Ok (record { isa = isa; entries = entries; device = told }))

abbrev with_entries : Files → RunDatabaseArguments → Isa → Result DatabaseInputs Stop
with_entries files asked isa =
    and_then (marked_in files asked.part isa asked.database) (with_told files asked isa)

pub low-chosen : (files : Files) (asked : RunDatabaseArguments) (inputs : DatabaseInputs)
    → database_inputs_in files asked ≡ Ok inputs → (g : Given) → Contains (chosen_in inputs) g
    → g.place < 2 ^ 64
low-chosen files asked inputs is g there =
    let s = then-ok (said_in files asked.isa) (λ said. with_entries files asked said.spec) inputs is
    in
    let m = then-ok (marked_in files asked.part s.0.spec asked.database)
    (with_told files asked s.0.spec) inputs s.2 in
    let d = then-ok (device_in files asked.device) (λ told.
    Ok (record { isa = s.0.spec; entries = m.0; device = told })) inputs m.2 in
    let same : m.0 ≡ inputs.entries = let both = d.2 in
    ap (λ (r : Result DatabaseInputs Stop). entries-in r) both in
    let few = entries-few files asked.part s.0.spec asked.database m.0 m.1 in
    let w = within-chosen 0 inputs.entries g there in
    omega (arith, few, w.1, ap (λ (es : List Entry). length es) same)
  where
    entries-in : Result DatabaseInputs Stop → List Entry
    entries-in (Ok i) = i.entries
    entries-in (Err stop) = []

-- the core's regions are apart, below 2^32 and whole pages
pub room-there : (files : Files) (asked : RunDatabaseArguments) (inputs : DatabaseInputs)
    → database_inputs_in files asked ≡ Ok inputs → HasRoom inputs.isa.memory
room-there files asked inputs is =
    let s = then-ok (said_in files asked.isa) (λ said. with_entries files asked said.spec) inputs is
    in
    let m = then-ok (marked_in files asked.part s.0.spec asked.database)
    (with_told files asked s.0.spec) inputs s.2 in
    let d = then-ok (device_in files asked.device) (λ told.
    Ok (record { isa = s.0.spec; entries = m.0; device = told })) inputs m.2 in
    let both = d.2 in
    let same : s.0.spec ≡ inputs.isa =
    ap (λ (r : Result DatabaseInputs Stop). isa-in s.0.spec r) both in
    let says = says-of files asked.isa s.0 s.1 in
    subst (λ (isa : Isa). HasRoom isa.memory) same
    (accepted_have_room says.tree s.0 says.accepted)
  where
    isa-in : Isa → Result DatabaseInputs Stop → Isa
    isa-in isa (Ok i) = i.isa
    isa-in isa (Err stop) = isa

-- ---- all of them
none-of : (bench : Bench) (g h : Given) → g.place ≢ h.place → g.place < 2 ^ 64 → h.place < 2 ^ 64
    → IsNoneOf bench h (executable_name bench g)
none-of bench g h apart low low' = record {
  executable = λ wanted. same-ending bench.work (decimal g.place) (decimal h.place) (codes ".elf")
      (λ same. apart (decimal_injective g.place h.place low low' same));
  reference = λ same.
      reference-not-executable bench.work (decimal h.place) (decimal g.place) (sym same);
  device = λ same.
      device-not-executable bench.work (decimal h.place) (decimal g.place) (sym same);
}

has-executable : (bench : Bench) → HasRoom bench.isa.memory → (files files' : Files)
    (given : Given) (t : Trial)
    → IsTrue (asks_elf bench) → IsTrialOf bench files (Read given) t
    → files' (executable_name bench given)
    ≡ with_trial t files (executable_name bench given) → HasExecutable bench files' given
has-executable bench room files files' given t wanted is kept =
    let w = was-made files bench given t.made is.made in
    let (regions, same) = sound bench.isa given.name w.bytes w.image w.spelt in
    let own : HasRoom w.image.memory = subst HasRoom (sym same) room in
    let back = reads_back w.image own regions in
    record {
      bytes = w.bytes;
      made = t.made;
      made_of = w.found;
      image = w.image;
      spelt = w.spelt;
      there = kept ∙ there-behind bench files given t wanted is.source_is w;
      again = with_marks w.image;
      read = subst
          (λ (m : Memory). image_of_elf m (elf_of w.image) ≡ Ok (with_marks w.image)) same back;
      alike = runs_alike w.image (with_marks w.image) own regions back;
    }

pub all-there : (bench : Bench) → HasRoom bench.isa.memory → (files : Files) (gs : List Given)
    (ts : List Trial)
    → AreTrialsOf bench files (to_read gs) ts → AreApart gs
    → ((g : Given) → Contains gs g → g.place < 2 ^ 64) → IsTrue (asks_elf bench)
    → (g : Given) → Contains gs g → HasExecutable bench (with_trials ts files) g
all-there bench room files [] ts each apart low wanted g (i, within, at) =
    absurd (omega (arith, within))
all-there bench room files (h ∷ gs) [] each apart low wanted g there = absurd each
all-there bench room files (h ∷ gs) (t ∷ ts) each apart low wanted g (zero, within, at) =
    subst (λ (x : Given). HasExecutable bench (with_trials (t ∷ ts) files) x) at
    (has-executable bench room files (with_trials (t ∷ ts) files) h t wanted each.0
    (kept-trials (λ (g : Given). Read g) bench (with_trial t files) gs ts (executable_name bench h)
    each.1
    (λ other there. none-of bench h other (apart.0 other there) (low h (0, omega arith, refl))
    (low other (Contains-append_right (h ∷ []) gs other there)))))
all-there bench room files (h ∷ gs) (t ∷ ts) each apart low wanted g (suc i, within, at) =
    all-there bench room (with_trial t files) gs ts each.1 apart.1
    (λ other there. low other (Contains-append_right (h ∷ []) gs other there)) wanted g
    (i, omega (arith, within), at)
