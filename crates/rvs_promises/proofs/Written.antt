-- That each label's test is in its own file, since no two labels have one name.
use Rattle.std.proofs.Common.{◌≡◌, ◌≢◌, ℕ, Bool, true, false, true≢false, if◌then◌else◌, List, []}
use Rattle.std.proofs.Common.{◌∷◌, All, Contains, Option, Some, None, is_some, Result, Ok, Err}
use Rattle.std.proofs.Common.{IfOk, codes, bytes_eq, refl, sym, ap, subst, ◌∙◌, arith, rules}
use Rattle.std.proofs.lemmas.Bool.{or_parts, and_parts}
use Rattle.std.specs.Prelude.{not}
use Rattle.std.specs.List.{list_any}
use Rattle.std.proofs.lemmas.List.Elements.{All-nil, All-cons, All-contains}
use Rattle.std.proofs.lemmas.Slice.Eq.{bytes_eq-Decides}
use Rattle.rvs_base.specs.Host.{Files}
use Rattle.rvs_abstract.specs.declared.families.Families.{Families}
use Rattle.rvs_plan.specs.declared.stop.Stop.{Stop}
use Rattle.rvs_tree.specs.Data.{Data, own_pairs}
use Rattle.rvs_yaml.specs.Parsed.{Parsed, answer}
use Rattle.rvs_insn.specs.Isa.{Isa}
use Rattle.rvs_isa.specs.declared.accepted_spec.AcceptedSpec.{AcceptedSpec}
use Rattle.rvs_cgf.specs.Groups.{Label, Refusal, groups_of}
use Rattle.rvs_cgf.specs.Spelled.{keys_are_own}
use Rattle.rvs_normal.specs.Again.{names_are_apart}
use Rattle.rvs_normal.specs.Once.{KeysOnce}
use Rattle.rvs_normal.proofs.ReadAgain.{answer-owned}
use Rattle.rvs_normal.proofs.Notes.{read-well}
use Rattle.rvs_normal.proofs.Truths.{not-true}
use Rattle.rvs_test.specs.Made.{text_of_label}
use Rattle.rvs_inputs.specs.Specification.{said_in}
use Rattle.rvs_inputs.specs.GroupFiles.{Inputs, and_then, text_in, checked_groups, tree_groups}
use Rattle.rvs_inputs.specs.GroupFiles.{groups_found, inputs_of, inputs_in}
use Rattle.rvs_generate.specs.TestedInputs.{tested_in}
use Rattle.rvs_inputs.specs.GroupFiles.{parted_inputs}
use Rattle.rvs_generate.specs.TestedInputs.{labels_in}
use Rattle.rvs_parts.specs.Parts.{PartValue, is_in, parted_from}
use Rattle.std.specs.Prelude.{◌+◌, ◌&&◌, ◌||◌}
use Rattle.rvs_generate.specs.Generate.{path_of}
use Rattle.rvs_promises.specs.Generating.{with_text, with_test, with_tests}
use Rattle.rvs_generate.proofs.Paths.{same-ending}
use Rattle.rvs_promises.proofs.Sparing.{held}
use Rattle.rvs_generate.proofs.Testable.{room-keeps}

-- ---- no two labels have one name
top-own : (d : Data) → KeysOnce d → keys_are_own (own_pairs d) ≡ true
top-own d o = grind arith

abbrev AreApart : Inputs → Type 0
AreApart inputs = names_are_apart inputs.groups ≡ true

apart-checked : (isa : Isa) (families : Families) (text : List ℕ) (tree : Data)
    (r : Result (List Label) Refusal)
    → answer text ≡ Ok tree → groups_of isa families tree ≡ r
    → IfOk (inputs_of isa (checked_groups r)) AreApart
apart-checked isa families text tree (Ok ls) a is =
    (read-well isa families tree ls (top-own tree (answer-owned text tree a)) is).apart
apart-checked isa families text tree (Err refusal) a is = tt

apart-tree : (isa : Isa) (families : Families) (text : List ℕ) (r : Parsed) → answer text ≡ r
    → IfOk (inputs_of isa (tree_groups isa families r)) AreApart
apart-tree isa families text r a = search (rules, apart-checked)

apart-text : (isa : Isa) (families : Families) (r : Result (List ℕ) Stop)
    → IfOk (and_then r (λ text. inputs_of isa (groups_found isa families text))) AreApart
apart-text isa families r = search (rules, apart-tree)

apart-said : (files : Files) (families : Families) (names : List (List ℕ))
    (r : Result AcceptedSpec Stop)
    → IfOk (and_then r (λ said. and_then (text_in files None names)
    (λ text. inputs_of said.spec (groups_found said.spec families text)))) AreApart
apart-said files families names (Ok said) = apart-text said.spec families (text_in files None names)
apart-said files families names (Err stop) = tt

-- ---- those of a part
kept-any : (test : Label → Bool) (b : Bool) (l : Label) (rest : List Label) → test l ≡ false
    → list_any test rest ≡ false → list_any test (if b then l ∷ rest else rest) ≡ false
kept-any test b l rest first later = grind arith

or-left : (a b : Bool) → (a || b) ≡ false → a ≡ false
or-left a b is = grind arith

or-right : (a b : Bool) → (a || b) ≡ false → b ≡ false
or-right a b is = grind arith

none-parted : (test : Label → Bool) (part : Option PartValue) (place : ℕ) (ls : List Label)
    → list_any test ls ≡ false → list_any test (parted_from part place ls) ≡ false
none-parted test part place [] none = refl
none-parted test part place (l ∷ ls) none =
    kept-any test (is_in part place) l (parted_from part (place + 1) ls)
    (or-left (test l) (list_any test ls) none)
    (none-parted test part (place + 1) ls (or-right (test l) (list_any test ls) none))

kept-apart : (b other : Bool) (l : Label) (rest : List Label)
    → list_any (λ (m : Label). bytes_eq l.name m.name) rest ≡ false
    → names_are_apart rest ≡ true → names_are_apart (if b then l ∷ rest else rest) ≡ true
kept-apart b other l rest none apart = grind arith

first-apart : (a b : Bool) → (not a && b) ≡ true → a ≡ false
first-apart a b is = grind arith

rest-apart : (a b : Bool) → (not a && b) ≡ true → b ≡ true
rest-apart a b is = grind arith

apart-parted : (part : Option PartValue) (place : ℕ) (ls : List Label)
    → names_are_apart ls ≡ true → names_are_apart (parted_from part place ls) ≡ true
apart-parted part place [] apart = refl
apart-parted part place (l ∷ ls) apart =
    let same = λ (m : Label). bytes_eq l.name m.name in
    kept-apart (is_in part place) true l (parted_from part (place + 1) ls)
    (none-parted same part (place + 1) ls
    (first-apart (list_any same ls) (names_are_apart ls) apart))
    (apart-parted part (place + 1) ls
    (rest-apart (list_any same ls) (names_are_apart ls) apart))

apart-part : (part : Option PartValue) (r : Result Inputs Stop) → IfOk r AreApart
    → IfOk (and_then r (λ inputs. Ok (parted_inputs part inputs))) AreApart
apart-part part r apart = search (rules, apart-parted)

pub apart-labels : (files : Files) (part : Option PartValue) (isa : List ℕ) (families : Families)
    (names : List (List ℕ)) (inputs : Inputs)
    → labels_in files part isa families names ≡ Ok inputs → names_are_apart inputs.groups ≡ true
apart-labels files part isa families names inputs given =
    subst (λ (r : Result Inputs Stop). IfOk r AreApart) given
    (apart-part part (tested_in files isa families names)
    (room-keeps AreApart (inputs_in files isa families names)
    (apart-said files families names (said_in files isa))))

-- ---- so their tests are different files
apart-paths : (work a b : List ℕ) → bytes_eq a b ≡ false → path_of work a ≢ path_of work b
apart-paths work a b apart same =
    same-ending work a b (codes ".S")
    (λ one. true≢false (sym ((bytes_eq-Decides a b).1 one) ∙ apart)) same

kept-chosen : (b : Bool) (other path : List ℕ) (text : Option (List ℕ)) (files : Option Files)
    → other ≢ path
    → held other (if b then with_text path text files else files) ≡ held other files
kept-chosen b other path text files apart = search rules

told-chosen : (b : Bool) (path : List ℕ) (text : Option (List ℕ)) (files : Option Files)
    → is_some (if b then with_text path text files else files) ≡ is_some files
told-chosen b path text files = grind arith

here-chosen : (b : Bool) (path : List ℕ) (text : Option (List ℕ)) (t : List ℕ)
    (files : Option Files) → is_some files ≡ true → b ≡ true → text ≡ Some t
    → held path (if b then with_text path text files else files) ≡ Some (Some t)
here-chosen b path text t files told chosen is = search rules

kept-tests : (work name : List ℕ) (isa : Isa) (ls : List Label) (files : Option Files)
    → list_any (λ (m : Label). bytes_eq name m.name) ls ≡ false
    → held (path_of work name) (with_tests work isa ls files) ≡ held (path_of work name) files
kept-tests work name isa [] files apart = refl
kept-tests work name isa (l ∷ ls) files apart =
    let p = or_parts (bytes_eq name l.name) (list_any (λ (m : Label). bytes_eq name m.name) ls)
    apart in
    kept-tests work name isa ls (with_test work isa l files) p.1
    ∙ kept-chosen l.selected (path_of work name) (path_of work l.name) (text_of_label isa l) files
    (apart-paths work name l.name p.0)

-- the file of a label's test has its text
abbrev Stands : List ℕ → Isa → Option Files → Label → Type 0
Stands work isa files l = l.selected ≡ true → (text : List ℕ) → text_of_label isa l ≡ Some text
    → held (path_of work l.name) files ≡ Some (Some text)

all-there : (work : List ℕ) (isa : Isa) (ls : List Label) (files : Option Files)
    → is_some files ≡ true → names_are_apart ls ≡ true
    → All (Stands work isa (with_tests work isa ls files)) ls
all-there work isa [] files told apart = All-nil (Stands work isa files)
all-there work isa (l ∷ ls) files told apart =
    let later = list_any (λ (m : Label). bytes_eq l.name m.name) ls in
    let p = and_parts (not later) (names_are_apart ls) apart in
    let after = with_test work isa l files in
    All-cons (Stands work isa (with_tests work isa ls after)) l ls
    (λ selected text is. kept-tests work l.name isa ls after (not-true later p.0)
    ∙ here-chosen l.selected (path_of work l.name) (text_of_label isa l) text files told selected
    is)
    (all-there work isa ls after
    (told-chosen l.selected (path_of work l.name) (text_of_label isa l) files ∙ told) p.1)

pub test-there : (work : List ℕ) (isa : Isa) (ls : List Label) (old new : Option Files)
    (files' : Files) (l : Label) (text : List ℕ) → is_some old ≡ true
    → names_are_apart ls ≡ true → new ≡ with_tests work isa ls old → new ≡ Some files'
    → Contains ls l → l.selected ≡ true → text_of_label isa l ≡ Some text
    → files' (path_of work l.name) ≡ Some text
test-there work isa ls old new files' l text told apart made is there selected has =
    let stands = All-contains (Stands work isa (with_tests work isa ls old)) ls l
    (all-there work isa ls old told apart) there selected text has in
    let e : Some (files' (path_of work l.name)) ≡ Some (Some text) =
    ap (λ (f : Option Files). held (path_of work l.name) f) (sym is ∙ made) ∙ stands in
    cc
