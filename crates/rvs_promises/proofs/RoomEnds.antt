-- How a call that makes tests ends where the core has no room for one of them.
use Rattle.std.proofs.Common.{◌≡◌, ◌⊎◌, inl, inr, ℕ, zero, suc, Bool, true, false, cond, List, []}
use Rattle.std.proofs.Common.{◌∷◌, ◌++◌, ◌&&◌, Contains, IsTrue, Option, Some, None, Result, Ok}
use Rattle.std.proofs.Common.{Err, codes, refl, sym, ap, subst, ◌∙◌, arith}
use Rattle.std.specs.Prelude.{not, find}
use Rattle.std.specs.Fmt.{decimal}
use Rattle.std.proofs.lemmas.Fmt.{decimal_digit, decimal_step_wide}
use Rattle.std.proofs.lemmas.List.Elements.{Contains-append_right}
use Rattle.rvs_base.specs.Host.{Files}
use Rattle.rvs_base.specs.Sink.{appended}
use Rattle.rvs_plan.specs.World.{contents}
use Rattle.rvs_plan.specs.Account.{fault_line}
use Rattle.rvs_plan.specs.declared.stop.Stop.{Stop}
use Rattle.rvs_plan.specs.declared.stop.Stop.TheVariants as why
use Rattle.rvs_plan.specs.declared.status.Status.TheVariants as answer
use Rattle.rvs_plan.specs.declared.status.Finish.{Finish}
use Rattle.rvs_insn.specs.Isa.{Isa}
use Rattle.rvs_insn.specs.Memory.{HasRoom, usual_memory}
use Rattle.rvs_points.specs.Keys.{is_label_name}
use Rattle.rvs_cgf.specs.Groups.{Label, refusal_at, at_label}
use Rattle.rvs_points.specs.declared.refusal.CgfKind.TheVariants.{NoRoom}
use Rattle.rvs_points.specs.Valid.{IsValid}
use Rattle.rvs_test_text.proofs.Fits.{fit_regions, usual_fits}
use Rattle.rvs_test.specs.Made.{has_room}
use Rattle.rvs_test.proofs.Solvings.{cases_few, cases_ready}
use Rattle.rvs_promises.specs.Answered.{Answered}
use Rattle.rvs_promises.specs.Call.{Call, world_of}
use Rattle.rvs_plan.specs.Refusing.{input_text}
use Rattle.rvs_inputs.specs.GroupTexts.{group_text}
use Rattle.rvs_inputs.specs.GroupFiles.{Inputs, and_then}
use Rattle.rvs_generate.specs.TestedInputs.{lacks_room, no_room, unless_for, with_room}
use Rattle.rvs_promises.specs.Rooms.{IsFirstLacking, AsksForRoom}
use Rattle.rvs_promises.proofs.Meanings.{then-ok}
use Rattle.rvs_promises.proofs.Tested.{IsGood, IsPlaced, valid-good}
use Rattle.rvs_generate.proofs.Testable.{has-room, none-first, none-behind}

-- ---- the first label that lacks room
not-by : (selected room : Bool) → (selected ≡ true → room ≡ true) → (selected && not room) ≡ false
not-by selected room has = grind arith

lacks-not : (isa : Isa) (l : Label) → (IsTrue l.selected → IsTrue (has_room isa l))
    → lacks_room isa l ≡ false
unfolding lacks_room
lacks-not isa l has = not-by l.selected (has_room isa l) has

lacks-is : (isa : Isa) (l : Label) → IsTrue l.selected → has_room isa l ≡ false
    → lacks_room isa l ≡ true
unfolding lacks_room
lacks-is isa l selected none = λ i. selected i && not (none i)

find-first : (isa : Isa) (before after : List Label) (l : Label)
    → ((m : Label) → Contains before m → IsTrue m.selected → IsTrue (has_room isa m))
    → lacks_room isa l ≡ true → find (lacks_room isa) (before ++ l ∷ after) ≡ Some l
find-first isa [] after l others is = grind arith
find-first isa (m ∷ ms) after l others is =
    ap (λ (b : Bool). cond b (Some m) (find (lacks_room isa) (ms ++ l ∷ after)))
    (lacks-not isa m (others m (0, omega arith, refl)))
    ∙ find-first isa ms after l (λ n there. others n (Contains-append_right (m ∷ []) ms n there)) is

first-is : (isa : Isa) (ls : List Label) (l : Label) → IsFirstLacking isa ls l
    → find (lacks_room isa) ls ≡ Some l
first-is isa ls l f =
    ap (find (lacks_room isa)) f.split
    ∙ find-first isa f.before f.after l f.others (lacks-is isa l f.selected f.none)

each-room : (isa : Isa) (ls : List Label) → find (lacks_room isa) ls ≡ None → (l : Label)
    → Contains ls l → IsTrue l.selected → IsTrue (has_room isa l)
each-room isa [] none l (i, within, at) selected = absurd (omega (arith, within))
each-room isa (m ∷ ms) none l (zero, within, at) selected = grind (arith, has-room, none-first)
each-room isa (m ∷ ms) none l (suc i, within, at) selected =
    each-room isa ms (none-behind (lacks_room isa m) m (find (lacks_room isa) ms) none) l
    (i, omega (arith, within), at) selected

-- ---- where the memory lies as usual
usual-room : (isa : Isa) (l : Label) → HasRoom isa.memory → IsValid isa l
    → isa.memory ≡ usual_memory → IsTrue (has_room isa l)
usual-room isa l place valid is = simp (fit_regions, usual_fits, cases_few, cases_ready)

-- ---- what comes of inputs hangs on whether there is one
pub record IsAsked {A : Type 0} (inputs : Inputs) (found : Result A Stop) : Type 0 where
  pub none : (a : A) → found ≡ Ok a → find (lacks_room inputs.isa) inputs.groups ≡ None
  pub some : (l : Label) → find (lacks_room inputs.isa) inputs.groups ≡ Some l
      → found ≡ Err (why.Refused (no_room l))

none-of : (inputs : Inputs) (o : Option Label) (a : Inputs) → unless_for inputs o ≡ Ok a → o ≡ None
none-of inputs o a is = grind arith

pub asked-room : (inputs : Inputs) (r : Result Inputs Stop) → r ≡ Ok inputs
    → IsAsked inputs (and_then r with_room)
asked-room inputs r given = grind (arith, none-of)

pub asked-then : {A B : Type 0} (inputs : Inputs) (found : Result A Stop) (next : A → Result B Stop)
    → IsAsked inputs found → IsAsked inputs (and_then found next)
asked-then {A} {B} inputs found next asked = grind (arith, then-ok)

-- ---- the line
twelve : decimal 12 ≡ 49 ∷ 50 ∷ []
twelve = grind (arith, decimal_step_wide, decimal_digit)

no_room-line : (name : List ℕ) → is_label_name name ≡ true
    → group_text (refusal_at (at_label name) NoRoom)
    ≡ codes "coverage files: cgf 12 " ++ (name ++ codes " - -")
unfolding input_text
no_room-line [] named = absurd cc
no_room-line (c ∷ cs) named = ap (λ ds. codes "coverage files: cgf "
    ++ (ds ++ (codes " " ++ ((c ∷ cs) ++ codes " - -")))) twelve

-- ---- how the call ends
pub asks : {call : Call} {A : Type 0} (files : Files) (inputs : Inputs) (found : Result A Stop)
    (Left : A → Finish → Type 0) → IsGood inputs → IsPlaced inputs → IsAsked inputs found
    → Answered call found Left
    → (call.status ≡ answer.Refused → contents (world_of call.new) ≡ contents (world_of call.old))
    → ((text : List ℕ) → found ≡ Err (why.Refused text) → (files' : Files) (other : List ℕ)
    → call.new.host.files ≡ Some files' → files' other ≡ files other)
    → AsksForRoom call files inputs
asks {call} files inputs found Left good place asked answered kept spared = record {
  usual = λ is l there selected.
      usual-room inputs.isa l place (valid-good inputs l good there selected) is;
  room = λ ended l there selected. each-room inputs.isa inputs.groups (none ended) l there selected;
  refused = λ l first.
      let f = asked.some l (first-is inputs.isa inputs.groups l first) in
      record {
        refused = answered.by_refusal (no_room l) f;
        line = λ is.
            let h = answered.refused is in
            let both : Err (why.Refused h.text) ≡ Err (why.Refused (no_room l)) =
            sym h.refused ∙ f in
            let same : h.text ≡ no_room l = cc in
            let said = same ∙ no_room-line l.name (named l first) in
            h.line
            ∙ ap (λ (t : List ℕ). appended call.old.err.bytes (fault_line t [])) said;
        kept = kept;
        files_kept = spared (no_room l) f;
      };
}
  where
    none : (call.status ≡ answer.Done) ⊎ (call.status ≡ answer.NotPassed)
        → find (lacks_room inputs.isa) inputs.groups ≡ None
    none (inl is) = let h = answered.done is in asked.none h.given h.accepted
    none (inr is) = let h = answered.not_passed is in asked.none h.given h.accepted

    named : (l : Label) → IsFirstLacking inputs.isa inputs.groups l → is_label_name l.name ≡ true
    named l first =
        (valid-good inputs l good (subst (λ (ls : List Label). Contains ls l) (sym first.split)
        (Contains-append_right first.before (l ∷ first.after) l (0, omega arith, refl)))
        first.selected).named
