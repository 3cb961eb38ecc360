-- What it means that no label lacks room.
use Rattle.std.proofs.Common.{◌≡◌, Bool, true, false, List, [], ◌∷◌, map, All, Option, Some, None}
use Rattle.std.proofs.Common.{◌&&◌, cond, ℕ, IfOk, Result, Ok, Err, refl, sym, ap}
use Rattle.std.specs.Prelude.{not, find, option_map}
use Rattle.std.proofs.lemmas.List.Elements.{All-nil, All-cons, All-head, All-tail, All-map}
use Rattle.rvs_plan.specs.declared.stop.Stop.{Stop}
use Rattle.rvs_plan.specs.declared.stop.Stop.TheVariants.{Refused}
use Rattle.rvs_insn.specs.Isa.{Isa}
use Rattle.rvs_insn.specs.Memory.{HasRoom}
use Rattle.rvs_cgf.specs.Groups.{Label}
use Rattle.rvs_cgf.specs.GroupView.{label_view}
use Rattle.rvs_points.specs.Valid.{IsValidIfSelected}
use Rattle.rvs_points.specs.declared.group.Label.{Label as Code}
use Rattle.rvs_test.specs.Made.{has_room}
use Rattle.rvs_inputs.specs.GroupFiles.{Inputs, and_then}
use Rattle.rvs_generate.specs.TestedInputs.{lacks_room, no_room, unless_for, with_room}
use Rattle.rvs_inputs.specs.GroupsView.{groups_view}
use Rattle.rvs_generate.specs.Testable.{IsTestableIfSelected}

-- ---- a label that has room
has-by : (selected room : Bool) → (selected && not room) ≡ false → selected ≡ true → room ≡ true
has-by true true has is = refl
has-by true false has is = absurd cc
has-by false room has is = absurd cc

pub has-room : (isa : Isa) (l : Label) → lacks_room isa l ≡ false → l.selected ≡ true
    → has_room isa l ≡ true
unfolding lacks_room
has-room isa l has selected = has-by l.selected (has_room isa l) has selected

testable : (isa : Isa) (l : Label) → HasRoom isa.memory → IsValidIfSelected isa l
    → lacks_room isa l ≡ false → IsTestableIfSelected isa l
testable isa l place valid has selected =
    record { place = place; valid = valid selected; room = has-room isa l has selected }

-- ---- of all labels none is found that lacks it
pub none-first : {A : Type 0} (b : Bool) (x : A) (rest : Option A) → cond b (Some x) rest ≡ None
    → b ≡ false
none-first true x rest none = absurd cc
none-first false x rest none = refl

pub none-behind : {A : Type 0} (b : Bool) (x : A) (rest : Option A) → cond b (Some x) rest ≡ None
    → rest ≡ None
none-behind true x rest none = absurd cc
none-behind false x rest none = none

pub all-testable : (isa : Isa) (ls : List Label) → HasRoom isa.memory
    → All (IsValidIfSelected isa) ls → find (lacks_room isa) ls ≡ None
    → All (IsTestableIfSelected isa) ls
all-testable isa [] place valid none = All-nil (IsTestableIfSelected isa)
all-testable isa (l ∷ ls) place valid none =
    let rest = find (lacks_room isa) ls in
    All-cons (IsTestableIfSelected isa) l ls
    (testable isa l place (All-head (IsValidIfSelected isa) l ls valid)
    (none-first (lacks_room isa l) l rest none))
    (all-testable isa ls place (All-tail (IsValidIfSelected isa) l ls valid)
    (none-behind (lacks_room isa l) l rest none))

-- the same of labels as the code holds them
all-mapped : {A B : Type 0} (P : B → Type 0) (f : A → B) (xs : List A) → All P (map f xs)
    → All (λ x. P (f x)) xs
all-mapped P f [] all = All-nil (λ x. P (f x))
all-mapped P f (x ∷ xs) all = All-cons (λ y. P (f y)) x xs (All-head P (f x) (map f xs) all)
    (all-mapped P f xs (All-tail P (f x) (map f xs) all))

pub code-testable : (isa : Isa) (ls : List Code) → HasRoom isa.memory
    → All (λ l. IsValidIfSelected isa (label_view l)) ls
    → find (lacks_room isa) (groups_view ls) ≡ None
    → All (λ l. IsTestableIfSelected isa (label_view l)) ls
code-testable isa ls place valid none =
    all-mapped (IsTestableIfSelected isa) label_view ls (all-testable isa (groups_view ls) place
    (All-map (IsValidIfSelected isa) label_view ls valid) none)

-- ---- what the text of a refusal says
pub none-said : (inputs : Inputs) (o : Option Label) → None ≡ option_map no_room o
    → unless_for inputs o ≡ Ok inputs
none-said inputs None is = refl
none-said inputs (Some l) is = absurd cc

pub none-found : (o : Option Label) → None ≡ option_map no_room o → o ≡ None
none-found None is = refl
none-found (Some l) is = absurd cc

pub some-said : (inputs : Inputs) (text : List ℕ) (o : Option Label)
    → Some text ≡ option_map no_room o → unless_for inputs o ≡ Err (Refused text)
some-said inputs text None is = absurd cc
some-said inputs text (Some l) is =
    let same : text ≡ no_room l = cc in ap (λ (t : List ℕ). Err (Refused t)) (sym same)

-- ---- what holds of inputs holds of them where they have room
unless-keeps : (P : Inputs → Type 0) (inputs : Inputs) (o : Option Label) → P inputs
    → IfOk (unless_for inputs o) P
unless-keeps P inputs None holds = holds
unless-keeps P inputs (Some l) holds = tt

pub room-keeps : (P : Inputs → Type 0) (r : Result Inputs Stop) → IfOk r P
    → IfOk (and_then r with_room) P
room-keeps P (Ok inputs) holds =
    unless-keeps P inputs (find (lacks_room inputs.isa) inputs.groups) holds
room-keeps P (Err stop) holds = tt
