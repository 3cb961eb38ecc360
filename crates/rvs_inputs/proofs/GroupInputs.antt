-- Reading an ISA file and coverage group files: it only reads, and what it finds over given files.
use Rattle.std.proofs.Common.{◌≡◌, ◌<◌, ℕ, Bool, true, false, List, [], ◌∷◌, length}
use Rattle.std.proofs.Common.{length-append, nat_lt, Option, Some, None, Result, Ok, Err}
use Rattle.std.proofs.Common.{if◌then◌else◌, refl, sym, ap, arith}
use Rattle.std.proofs.lemmas.Bool.{lt-ltb, ltb-true}
use Rattle.rvs_base.specs.Host.{Files}
use Rattle.rvs_abstract.specs.declared.families.Families.{Families}
use Rattle.rvs_plan.specs.Plan.{Plan, Ends, gives, followed, ◌>>=◌}
use Rattle.rvs_plan.specs.Inputs.{input, part, part_end, too_long_text}
use Rattle.rvs_plan.specs.declared.stop.Stop.{Stop}
use Rattle.rvs_plan.specs.declared.stop.Stop.TheVariants.{Refused}
use Rattle.rvs_insn.specs.Isa.{Isa}
use Rattle.rvs_cgf.specs.Groups.{Label}
use Rattle.rvs_inputs.specs.Specification.{isa_limit, checks, specification, bytes_said, said_in}
use Rattle.rvs_inputs.specs.GroupTexts.{groups_name}
use Rattle.rvs_inputs.specs.GroupFiles.{groups_limit, joined, room, within_limit, join_found}
use Rattle.rvs_inputs.specs.GroupFiles.{and_then, text_in, groups_found, inputs_of, inputs_in}
use Rattle.rvs_inputs.specs.GroupFiles.{joins, joins_all, group_files, group_inputs}
use Rattle.rvs_inputs.proofs.Readers.{OnlyReads, OnlyReads-then}
use Rattle.rvs_inputs.proofs.Finding.{Finds, finds-then}

-- ---- it only reads
pub reads-specification : (name : List ℕ) → OnlyReads (specification name)
reads-specification name =
    OnlyReads-then (input isa_limit name) (checks name) (λ found. tt) (λ bytes. tt)

reads-joined : (front : Option (List ℕ)) (names : List (List ℕ)) → OnlyReads (joins_all front names)
reads-joined front [] = tt
reads-joined front (name ∷ names) = OnlyReads-then (joins front name) (λ text. joins_all (Some text)
    names) (OnlyReads-then (part (room front) name groups_name groups_limit)
    (λ bytes. Ends (within_limit (joined front bytes))) (λ found. tt) (λ bytes. tt)) (λ text.
    reads-joined (Some text) names)

reads-groups : (isa : Isa) (families : Families) (names : List (List ℕ))
    → OnlyReads (group_files isa families names)
reads-groups isa families names = OnlyReads-then (joins_all None names)
    (λ text. Ends (groups_found isa families text)) (reads-joined None names) (λ text. tt)

pub reads-inputs : (isa : List ℕ) (families : Families) (names : List (List ℕ))
    → OnlyReads (group_inputs isa families names)
reads-inputs isa families names = OnlyReads-then (specification isa)
    (λ said. group_files said.spec families names >>= (λ groups. gives (record {
      isa = said.spec;
      groups = groups;
    }))) (reads-specification isa)
    (λ said. OnlyReads-then (group_files said.spec families names) (λ groups. gives (record {
      isa = said.spec;
      groups = groups;
    })) (reads-groups said.spec families names) (λ groups. tt))

-- ---- what it finds
said-by : (files : Files) (isa : List ℕ) (end : Result (List ℕ) Stop)
    → Finds files (followed end (checks isa)) (bytes_said isa end)
said-by files isa (Ok bytes) = refl
said-by files isa (Err stop) = refl

pub finds-specification : (files : Files) (isa : List ℕ)
    → Finds files (specification isa) (said_in files isa)
finds-specification files isa = said-by files isa (part_end isa_limit isa isa isa_limit (files isa))

-- what is longer than what is left passes the limit when it is joined
longer : (front : Option (List ℕ)) (bytes : List ℕ) → room front < length bytes
    → groups_limit < length (joined front bytes)
longer None bytes long = long
longer (Some front) bytes long = omega (arith, long, length-append front (10 ∷ bytes))

join-by : (files : Files) (front : Option (List ℕ)) (bytes : List ℕ) (long : Bool)
    → nat_lt (room front) (length bytes) ≡ long
    → Finds files (followed
    (if long then Err (Refused (too_long_text groups_name groups_limit)) else Ok bytes)
    (λ b. Ends (within_limit (joined front b)))) (within_limit (joined front bytes))
join-by files front bytes true is =
    let passes = lt-ltb groups_limit (length (joined front bytes))
    (longer front bytes (ltb-true (room front) (length bytes) is)) in
    sym (ap (λ (b : Bool). if b then Err (Refused (too_long_text groups_name groups_limit)) else Ok
    (joined front bytes)) passes)
join-by files front bytes false is = refl

join-found : (files : Files) (front : Option (List ℕ)) (name : List ℕ) (found : Option (List ℕ))
    → Finds files (followed (part_end (room front) name groups_name groups_limit found)
    (λ b. Ends (within_limit (joined front b)))) (join_found front name found)
join-found files front name None = refl
join-found files front name (Some bytes) =
    join-by files front bytes (nat_lt (room front) (length bytes)) refl

finds-join : (files : Files) (front : Option (List ℕ)) (name : List ℕ)
    → Finds files (joins front name) (join_found front name (files name))
finds-join files front name = join-found files front name (files name)

-- a piece of reading, and what follows from it
pub finds-and_then : {A B : Type 0} (files : Files) (plan : Plan A) (next : A → Plan B)
    (found : Result A Stop) (after : A → Result B Stop) → Finds files plan found
    → ((a : A) → Finds files (next a) (after a)) → Finds files (plan >>= next)
    (and_then found after)
finds-and_then files plan next (Ok a) after is later =
    finds-then files plan next (Ok a) (after a) is (later a)
finds-and_then files plan next (Err stop) after is later =
    finds-then files plan next (Err stop) (Err stop) is refl

finds-joined : (files : Files) (front : Option (List ℕ)) (names : List (List ℕ))
    → Finds files (joins_all front names) (text_in files front names)
finds-joined files front [] = refl
finds-joined files front (name ∷ names) = finds-and_then files (joins front name)
    (λ text. joins_all (Some text) names) (join_found front name (files name))
    (λ text. text_in files (Some text) names) (finds-join files front name)
    (λ text. finds-joined files (Some text) names)

finds-groups : (files : Files) (isa : Isa) (families : Families) (names : List (List ℕ))
    → Finds files (group_files isa families names)
    (and_then (text_in files None names) (groups_found isa families))
finds-groups files isa families names = finds-and_then files (joins_all None names)
    (λ text. Ends (groups_found isa families text)) (text_in files None names)
    (groups_found isa families)
    (finds-joined files None names) (λ text. refl)

given-by : (files : Files) (isa : Isa) (groups : Result (List Label) Stop) → Finds files
    (followed groups (λ gs. gives (record { isa = isa; groups = gs }))) (inputs_of isa groups)
given-by files isa (Ok gs) = refl
given-by files isa (Err stop) = refl

given-after : (files : Files) (isa : Isa) (families : Families) (text : Result (List ℕ) Stop)
    → Finds files
    (followed (and_then text (groups_found isa families))
    (λ gs. gives (record { isa = isa; groups = gs })))
    (and_then text (λ t. inputs_of isa (groups_found isa families t)))
given-after files isa families (Ok t) = given-by files isa (groups_found isa families t)
given-after files isa families (Err stop) = refl

pub finds-inputs : (files : Files) (isa : List ℕ) (families : Families) (names : List (List ℕ))
    → Finds files (group_inputs isa families names) (inputs_in files isa families names)
finds-inputs files isa families names =
    finds-and_then files (specification isa)
    (λ said. group_files said.spec families names >>= (λ groups. gives (record {
      isa = said.spec;
      groups = groups;
    }))) (said_in files isa) (λ said. and_then (text_in files None names)
    (λ text. inputs_of said.spec (groups_found said.spec families text)))
    (finds-specification files isa)
    (λ said.
    finds-then files (group_files said.spec families names) (λ groups. gives (record {
      isa = said.spec;
      groups = groups;
    })) (and_then (text_in files None names) (groups_found said.spec families)) (and_then
    (text_in files None names) (λ text. inputs_of said.spec (groups_found said.spec families text)))
    (finds-groups files said.spec families names) (given-after files said.spec families
    (text_in files None names)))
