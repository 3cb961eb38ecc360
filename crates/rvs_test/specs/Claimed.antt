-- What a test's text claims of its run.
use Rattle.std.specs.Prelude.{◌≡◌, ◌≤◌, ◌⊎◌, ℕ, ◌+◌, ◌*◌, true, List, [], ◌∷◌, length, map, All}
use Rattle.std.specs.Prelude.{Contains, Some, slice_index, slice_get}
use Rattle.rvs_insn.specs.Isa.{Isa}
use Rattle.rvs_insn.specs.Memory.{Memory}
use Rattle.rvs_insn.specs.Fields.{Fields, insn_of_word}
use Rattle.rvs_machine.specs.declared.event.Executed.{Executed}
use Rattle.rvs_machine.specs.declared.event.End.TheVariants.{Halted}
use Rattle.rvs_machine.specs.Image.{ImageValue}
use Rattle.rvs_machine.specs.Machine.{started}
use Rattle.rvs_machine.specs.Run.{Outcome, run_of}
use Rattle.rvs_asm_text.specs.Header.{header_steps}
use Rattle.rvs_asm.specs.Answer.{Assembles}
use Rattle.rvs_facts.specs.Facts.{facts_of}
use Rattle.rvs_cross.specs.Cross.{Place}
use Rattle.rvs_cross.specs.Windows.{matches}
use Rattle.rvs_points.specs.Points.{Meaning, window, Point, Label}
use Rattle.rvs_points.specs.Hits.{hits}
use Rattle.rvs_solver.specs.Solving.{IsSolvableAt}
use Rattle.rvs_test_text.specs.declared.claim.Claim.{Claim}
use Rattle.rvs_test_text.specs.declared.statement.Name.TheVariants.{Case}
use Rattle.rvs_test_text.specs.Statements.{name_of}
use Rattle.rvs_test_text.specs.TestText.{first_rd, last_rd}
use Rattle.rvs_test_text.specs.Claim.{symbol_address, IsOnly, outcome_at, last_word, words_after}
use Rattle.rvs_test_text.specs.Claim.{insns_of}

-- one instruction alone hits the point, and the outcome is that of its format
pub record HitsAlone (memory : Memory) (l : Label) (p : Point) (e : Executed) (more : List Executed)
    (outcome : ℕ × ℕ) : Type 0 where
  pub alone : more ≡ []
  pub insn : Fields
  pub decoded : insn_of_word e.word ≡ Some insn
  pub hit : hits l.ops p insn.op (facts_of insn e.v1 e.v2) ≡ true
  pub left : outcome ≡ outcome_at memory insn e

-- neighbouring instructions match the cross point, and the outcome is what the first and the last
-- of them wrote to their registers
pub record HitsTogether (ps : List Place) (e : Executed) (more : List Executed)
    (outcome : ℕ × ℕ) : Type 0 where
  pub insns : List Fields
  pub decoded : insns_of (e ∷ more) ≡ map (λ i. Some i) insns
  pub hit : matches ps (map (λ i. Some i) insns) ≡ true
  pub left : outcome
      ≡ (last_word (first_rd insns) (e ∷ more), last_word (last_rd insns) (e ∷ more))

abbrev pub HitsAs : Memory → Label → Point → Meaning → Executed → List Executed → ℕ × ℕ → Type 0
HitsAs memory l p (window ps) e more outcome = HitsTogether ps e more outcome
HitsAs memory l p m e more outcome = HitsAlone memory l p e more outcome

-- the two words of a case in the signature
abbrev pub words_of_case : ImageValue → Isa → Outcome → ℕ → ℕ × ℕ
words_of_case image isa o k = (
  slice_index (words_after image isa o) (2 * k),
  slice_index (words_after image isa o) (2 * k + 1),
)

-- exactly one instruction was executed at the case's symbol. It hits the point, together with those
-- behind it where the point is a cross point, and the outcome is in the signature
pub record IsClaimed (isa : Isa) (l : Label) (image : ImageValue) (o : Outcome)
    (c : Claim) : Type 0 where
  pub point : Point
  pub is : slice_get l.points c.point ≡ Some point
  pub at : ℕ
  pub symbol : symbol_address image.symbols (name_of (Case c.case)) ≡ Some at
  pub entry : Executed
  -- the other instructions of a cross point's window
  pub more : List Executed
  pub only : IsOnly at entry more o.trace
  pub hit : HitsAs isa.memory l point point.meaning entry more (words_of_case image isa o c.case)

-- a run halts in time, hits each claimed point, and leaves two words a case and no others
pub record IsRun (isa : Isa) (l : Label) (image : ImageValue) (claims : List Claim) (limit : ℕ)
    (o : Outcome) : Type 0 where
  pub halts : o.end ≡ Halted
  pub steps : length o.trace ≤ limit
  pub words : length (words_after image isa o) ≡ 2 * length claims
  pub claimed : All (IsClaimed isa l image o) claims

-- no test takes more steps
abbrev pub most_steps : ℕ
most_steps = 1_114_192

-- an image stands to the text, the header's number is the limit, and from that limit on each run is
-- as claimed
pub record TestRuns (isa : Isa) (l : Label) (text : List ℕ) (claims : List Claim)
    (limit : ℕ) : Type 0 where
  pub image : ImageValue
  pub assembles : Assembles text isa image
  pub header : header_steps text ≡ Some limit
  pub most : limit ≤ most_steps
  pub runs : (n : ℕ) → limit ≤ n
      → IsRun isa l image claims limit
      (run_of (started image isa).setup n (started image isa).state)

-- a point is left where no choice hits it, and claimed where one does
abbrev pub IsAccounted : Isa → Label → List Claim → List ℕ → ℕ → Type 0
IsAccounted isa l claims unsolved k =
    (Contains unsolved k × (IsSolvableAt isa l k → ⊥))
    ⊎ ((c : Claim) × Contains claims c × (c.point ≡ k) × IsSolvableAt isa l k)
