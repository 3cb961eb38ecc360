-- The headline: what holds of each test that is written, told of nothing but its bytes.
use Rattle.std.specs.Prelude.{◌≡◌, ◌≤◌, ◌*◌, ℕ, List, length, All, Contains, Some, Ok}
use Rattle.std.specs.Prelude.{slice_get, map}
use Rattle.rvs_base.specs.Host.{Files}
use Rattle.rvs_insn.specs.Isa.{Isa}
use Rattle.rvs_machine.specs.Image.{ImageValue}
use Rattle.rvs_machine.specs.Machine.{started}
use Rattle.rvs_machine.specs.Run.{Outcome}
use Rattle.rvs_machine.specs.declared.event.Executed.{Executed}
use Rattle.rvs_machine.specs.declared.event.End.TheVariants.{Halted}
use Rattle.rvs_asm_text.specs.Header.{header_steps}
use Rattle.rvs_asm.specs.Answer.{answer, Assembles}
use Rattle.rvs_cgf.specs.Groups.{Label, Point}
use Rattle.rvs_points.specs.Kinds.{kind_name}
use Rattle.rvs_solver.specs.Solving.{IsSolvableAt}
use Rattle.rvs_log.specs.Logs.{as_entry}
use Rattle.rvs_index.specs.Counting.{count}
use Rattle.rvs_test_text.specs.declared.statement.Name.TheVariants.{Case}
use Rattle.rvs_test_text.specs.Statements.{name_of}
use Rattle.rvs_test_text.specs.Claim.{symbol_address, IsOnly, words_after}
use Rattle.rvs_test.specs.Claimed.{HitsAs, words_of_case}
use Rattle.rvs_test.specs.Named.{Named, claims_read}
use Rattle.rvs_generate.specs.Tests.{run_on}

-- a line of the header names this point
pub record Names (n : Named) (p : Point) : Type 0 where
  pub kind : kind_name p.kind ≡ n.kind
  pub key : p.key ≡ n.key

-- What a line of the header claims holds: the label has exactly one point that it names; exactly
-- one instruction was executed at the symbol of its case, and it hits that point, a cross point
-- together with those right behind it; and the case's two words of the signature are its outcome.
pub record IsKept (isa : Isa) (l : Label) (image : ImageValue) (o : Outcome)
    (n : Named) : Type 0 where
  pub place : ℕ
  pub point : Point
  pub is : slice_get l.points place ≡ Some point
  pub named : Names n point
  pub no_other : (k : ℕ) (p : Point) → slice_get l.points k ≡ Some p → Names n p → k ≡ place
  pub solvable : IsSolvableAt isa l place
  pub at : ℕ
  pub symbol : symbol_address image.symbols (name_of (Case n.case)) ≡ Some at
  pub entry : Executed
  pub more : List Executed
  pub only : IsOnly at entry more o.trace
  pub hit : HitsAs isa.memory l point point.meaning entry more (words_of_case image isa o n.case)
  -- so a log of the run counts it
  pub counted : 1 ≤ count (map as_entry o.trace) (record { ops = l.ops; point = point })

-- Bytes that are a test of a label: one image stands to them; its run halts within the header's
-- steps, hits every point that the header names, and leaves each case's outcome in the signature
-- and no other words; and the header names each point that a choice of the datasets hits.
pub record IsProved (isa : Isa) (l : Label) (bytes : List ℕ) : Type 0 where
  pub steps : ℕ
  pub header : header_steps bytes ≡ Some steps
  pub names : List Named
  pub read : claims_read bytes ≡ Some names
  pub image : ImageValue
  pub stands : Assembles bytes isa image
  pub alone : answer isa bytes ≡ Ok image
  -- it lies where the memory of the core does
  pub placed : image.memory ≡ isa.memory
  pub halts : (run_on isa image steps).end ≡ Halted
  pub within : length (run_on isa image steps).trace ≤ steps
  pub kept : All (IsKept isa l image (run_on isa image steps)) names
  pub words : length (words_after image isa (run_on isa image steps)) ≡ 2 * length names
  pub others : (k : ℕ) (p : Point) → slice_get l.points k ≡ Some p → IsSolvableAt isa l k
      → (n : Named) × Contains names n × Names n p

-- a file holds such bytes
pub record HasProvedTest (files : Files) (path : List ℕ) (isa : Isa) (l : Label) : Type 0 where
  pub bytes : List ℕ
  pub there : files path ≡ Some bytes
  pub proved : IsProved isa l bytes

-- a file holds a test whose image has its text from 0 on and its data from 65,536 on, and whose run
-- begins at 0
pub record HasLowTest (files : Files) (path : List ℕ) (isa : Isa) (l : Label) : Type 0 where
  pub test : HasProvedTest files path isa l
  pub text : test.proved.image.memory.text_base ≡ 0
  pub data_at : test.proved.image.memory.data_base ≡ 0x1_0000
  pub starts : (started test.proved.image isa).state.pc ≡ 0
