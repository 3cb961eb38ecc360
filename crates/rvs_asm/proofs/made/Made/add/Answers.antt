use Rattle.std.proofs.Common.{◌≡◌, ℕ, ◌++◌, List, Option, sym, ap, ◌∙◌}
use Rattle.std.specs.Prelude.{if◌then◌else◌, not, []}
use Rattle.std.specs.Option.{option_or}
use Rattle.rvs_asm_text.specs.declared.bodies.Body.{Body}
use Rattle.rvs_asm.specs.declared.location.Location.{Location}
use Rattle.rvs_asm.specs.declared.mend.Mend.{Mend}
use Rattle.rvs_asm.specs.declared.refusal.AsmKind.{AsmKind}
use Rattle.rvs_asm.specs.declared.refusal.AsmRefusal.{AsmRefusal}
use Rattle.rvs_asm.specs.Symbols.{Table}
use Rattle.rvs_asm.specs.Locations.{address, next}
use Rattle.rvs_asm.specs.Begun.{begun_bytes, far_fault, known, open_in}
use Rattle.rvs_asm.specs.Faults.{at_line}
use Rattle.rvs_asm.specs.Progress.{Progress, with_body}
use Rattle.rvs_asm.proofs.made.Made.add.Goals as goal

made : (m : Progress) (n : ℕ) (label : Option (List ℕ)) (body : Body) (p : Location) (ss : Table)
    (text data_bytes : List ℕ) (waiting : List Mend) (far : Option AsmRefusal)
    (own : Option AsmKind) → p ≡ next m.location body → ss ≡ known m.symbols m.location label
    → text ≡ m.text ++ (if m.location.in_text then begun_bytes ss m.location body else [])
    → data_bytes
    ≡ m.data_bytes ++ (if not m.location.in_text then begun_bytes ss m.location body else [])
    → waiting ≡ m.waiting ++ open_in ss n (address m.location) body
    → own ≡ far_fault ss (address m.location) body → far ≡ option_or m.far (at_line n own)
    → record {
      location = p;
      symbols = ss;
      text = text;
      data_bytes = data_bytes;
      waiting = waiting;
      far = far;
    } ≡ with_body m n label body
made m n label body p ss text data_bytes waiting far own e1 e2 e3 e4 e5 e6 e7 = cc

pub returns : goal.returns
returns c =
    let m : Progress = record {
      location = c.self.inside.location;
      symbols = c.self.inside.symbols;
      text = c.self.inside.sections.text.items;
      data_bytes = c.self.inside.sections.data_bytes.items;
      waiting = c.self.inside.waiting;
      far = c.self.inside.far;
    } in
    made m c.args.line c.args.entered.now.label c.args.entered.now.body _ _ _ _ _ _ c.in_ok-far.far
    (c.requires.next ∙ ap (λ (x : Progress). next x.location c.args.entered.now.body)
    (sym c.self.view_is))
    c.in_ok-add_label.ensures c.in_ok-far.ensures.text c.in_ok-far.ensures.data_bytes
    c.in_ok-far.ensures.waiting c.in_ok-far.ensures.far c.keep_first.ensures
    ∙ ap (λ (x : Progress). with_body x c.args.line c.args.entered.now.label
    c.args.entered.now.body) c.self.view_is
