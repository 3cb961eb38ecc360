use Rattle.std.proofs.Common.{◌≡◌, ◌+◌, true, false, Option, Some, None, refl, sym, ap}
use Rattle.std.proofs.Common.{subst, ◌∙◌}
use Rattle.std.specs.Prelude.{is_some, IsSome}
use Rattle.std.specs.Option.{option_or}
use Rattle.rvs_base.specs.Lines.{without_return}
use Rattle.rvs_asm_text.specs.Lines.{read_line}
use Rattle.rvs_asm.specs.declared.refusal.AsmKind.{AsmKind}
use Rattle.rvs_asm.specs.declared.refusal.AsmRefusal.{AsmRefusal}
use Rattle.rvs_asm.specs.Locations.{Reading, body_of, label_of}
use Rattle.rvs_asm.specs.Faults.{at_line, fault}
use Rattle.rvs_asm.specs.Progress.{Progress, State, after_line, by_fault, by_refusal, with_body}
use Rattle.rvs_asm.proofs.assembler.Assembler.take.Goals as goal

still : (s : State) (r : Reading) (o : Option AsmRefusal) → s.refusal ≡ o → is_some o ≡ true
    → record s { lines = s.lines + 1 } ≡ by_refusal o s r
still s r None e h = cc
still s r (Some refusal) e h = refl

good : (s : State) (r : Reading) (o : Option AsmRefusal) (k : Option AsmKind) (m : Progress)
    → is_some o ≡ false → k ≡ fault s.isa s.made.symbols s.made.location r → k ≡ None
    → m ≡ with_body s.made (s.lines + 1) (label_of r) (body_of r)
    → record s { lines = s.lines + 1; made = m } ≡ by_refusal o s r
good s r None k m h f none e =
    ap (λ x. record s { lines = s.lines + 1; made = x }) e ∙ ap (by_fault s r) (sym none ∙ f)
good s r (Some refusal) k m h f none e = cc

faulty : (s : State) (r : Reading) (o first : Option AsmRefusal) (k : Option AsmKind)
    (kind : AsmKind) (m : Progress)
    → is_some o ≡ false → k ≡ fault s.isa s.made.symbols s.made.location r → k ≡ Some kind
    → m ≡ s.made → first ≡ option_or o (at_line (s.lines + 1) (Some kind))
    → record s { lines = s.lines + 1; made = m; refusal = first } ≡ by_refusal o s r
faulty s r None first k kind m h f some e g =
    ap (λ x. record s { lines = s.lines + 1; made = x; refusal = first }) e
    ∙ ap (λ x. record s { lines = s.lines + 1; refusal = x }) g
    ∙ ap (by_fault s r) (sym some ∙ f)
faulty s r (Some refusal) first k kind m h f some e g = cc

pub returns-then-is_some-clause-taken : goal.returns-then-is_some-clause-taken
returns-then-is_some-clause-taken c =
    let s : State = record {
      isa = c.self.inside.spec;
      lines = c.self.inside.lines;
      made = c.self.inside.made;
      refusal = c.self.inside.refusal;
      failed = c.self.inside.failed;
    } in
    still s (read_line s.made.location.in_text (without_return c.args.line.now)) s.refusal refl
    (sym c.is_some.ensures ∙ c.if-is_some.true)
    ∙ ap (λ (x : State). after_line x c.args.line.now) c.self.view_is

pub returns-in-None-clause-taken : goal.returns-in-None-clause-taken
returns-in-None-clause-taken c =
    let s : State = record {
      isa = c.self.inside.spec;
      lines = c.self.inside.lines;
      made = c.self.inside.made;
      refusal = c.self.inside.refusal;
      failed = c.self.inside.failed;
    } in
    good s (read_line s.made.location.in_text c.without_return-line.result.now) s.refusal
    c.in_ok-kind.field-0 c.take_line.new.self (sym c.is_some.ensures ∙ c.if-is_some.false)
    c.in_ok-kind.ensures.fault c.in-None.is (c.in_ok-kind.ensures.made c.in-None.is)
    ∙ ap (λ l. by_refusal s.refusal s (read_line s.made.location.in_text l))
    c.without_return-line.ensures
    ∙ ap (λ (x : State). after_line x c.args.line.now) c.self.view_is

pub returns-in-Some-clause-taken : goal.returns-in-Some-clause-taken
returns-in-Some-clause-taken c =
    let s : State = record {
      isa = c.self.inside.spec;
      lines = c.self.inside.lines;
      made = c.self.inside.made;
      refusal = c.self.inside.refusal;
      failed = c.self.inside.failed;
    } in
    faulty s (read_line s.made.location.in_text c.without_return-line.result.now) s.refusal
    c.keep_first.new.first c.in_ok-kind.field-0 c.in-Some.kind c.take_line.new.self
    (sym c.is_some.ensures ∙ c.if-is_some.false) c.in_ok-kind.ensures.fault c.in-Some.is
    (c.in_ok-kind.ensures.same
    (subst (λ (o : Option AsmKind). IsSome o) (sym c.in-Some.is) refl)) c.keep_first.ensures
    ∙ ap (λ l. by_refusal s.refusal s (read_line s.made.location.in_text l))
    c.without_return-line.ensures
    ∙ ap (λ (x : State). after_line x c.args.line.now) c.self.view_is
