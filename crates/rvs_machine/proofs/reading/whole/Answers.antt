use Rattle.std.proofs.Common.{◌≡◌, ℕ, Bool, true, false, cond, List, [], Option, Some, None}
use Rattle.std.proofs.Common.{Ok, Err, refl, sym, ap, ◌∙◌}
use Rattle.std.specs.Prelude.{is_some, MatchOption}
use Rattle.rvs_insn.specs.Memory.{Memory}
use Rattle.rvs_machine.specs.declared.reading.Addresses.{Addresses}
use Rattle.rvs_machine.specs.declared.reading.ImageRefusal.{ImageRefusal}
use Rattle.rvs_machine.specs.declared.reading.ImageKind.TheVariants.{BadLine, BadRegion}
use Rattle.rvs_machine.specs.declared.symbol.Symbol.{Symbol}
use Rattle.rvs_machine.specs.FileLines.{Rest, taken}
use Rattle.rvs_machine.specs.Image.{ImageValue, if_image, is_image}
use Rattle.rvs_machine.specs.ImageText.{refusal, whole_with}
use Rattle.rvs_machine.proofs.reading.whole.Goals as goal

abbrev image_of : Memory → Addresses → List ℕ → List ℕ → List Symbol → ImageValue
image_of memory a text ram symbols = record {
  memory = memory;
  text = text;
  data_bytes = ram;
  tohost = a.tohost;
  sig_begin = a.sig_begin;
  sig_end = a.sig_end;
  symbols = symbols;
}

-- a line that was taken
some_taken : {A B : Type 0} (r : Option A) (o : Option B) (see : A → B)
    → MatchOption r (o ≡ None) (λ x. o ≡ Some (see x)) → is_some r ≡ true
    → (b : B) × (o ≡ Some b)
some_taken (Some x) o see h e = (see x, h)
some_taken None o see h e = cc

none_taken : {A B : Type 0} (r : Option A) (o : Option B) (see : A → B)
    → MatchOption r (o ≡ None) (λ x. o ≡ Some (see x)) → is_some r ≡ false → o ≡ None
none_taken None o see h e = h
none_taken (Some x) o see h e = cc

in_order : (t : Bool) (i found : ImageValue) (e : ImageRefusal)
    → Some found ≡ cond t (Some i) None → cond t (Ok i) (Err e) ≡ Ok found
in_order true i found e h = let same : i ≡ found = cc in ap (λ (x : ImageValue). Ok x) same
in_order false i found e h = cc

out_of_order : (t : Bool) (i : ImageValue) (e : ImageRefusal)
    → None ≡ cond t (Some i) None → cond t (Ok i) (Err e) ≡ Err e
out_of_order true i e h = cc
out_of_order false i e h = refl

-- the image of equal parts
same_parts : (f : List ℕ → List ℕ → List Symbol → ImageValue) (r : Option ImageValue)
    (text text' ram ram' : List ℕ) (symbols : List Symbol) → r ≡ if_image (f text ram symbols)
    → text ≡ text' → ram ≡ ram' → symbols ≡ [] → r ≡ if_image (f text' ram' [])
same_parts f r text text' ram ram' symbols h e e' g =
    h ∙ ap (λ t. if_image (f t ram symbols)) e ∙ ap (λ d. if_image (f text' d symbols)) e'
    ∙ ap (λ s. if_image (f text' ram' s)) g

whole_good : (n : ℕ) (i found : ImageValue) (o : Option (List ℕ × Rest)) → o ≡ None
    → Some found ≡ if_image i → whole_with n i o ≡ Ok found
whole_good n i found o e h =
    ap (whole_with n i) e ∙ in_order (is_image i) i found (refusal 0 BadRegion) h

whole_bad : (n : ℕ) (i : ImageValue) (o : Option (List ℕ × Rest)) → o ≡ None
    → None ≡ if_image i → whole_with n i o ≡ Err (refusal 0 BadRegion)
whole_bad n i o e h = ap (whole_with n i) e ∙ out_of_order (is_image i) i (refusal 0 BadRegion) h

whole_more : (n m : ℕ) (i : ImageValue) (fault : ImageRefusal) (o : Option (List ℕ × Rest))
    → (p : List ℕ × Rest) × (o ≡ Some p) → m ≡ n → fault ≡ refusal m BadLine
    → whole_with n i o ≡ Err fault
whole_more n m i fault o p e h =
    ap (whole_with n i) p.1 ∙ sym (ap (λ (r : ImageRefusal). Err r)
    (h ∙ ap (λ (k : ℕ). refusal k BadLine) e))

pub returns-then-is_some : goal.returns-then-is_some
returns-then-is_some c =
    let image = image_of c.args.memory c.args.at c.args.text.items c.args.data_bytes.items [] in
    whole_more c.args.lines.now.line c.number-number.result image c.bad_line.result
    (taken c.args.lines.now)
    (some_taken c.take.result (taken c.args.lines.now)
    (λ line. (line.now, c.take.new.self)) c.take.ensures
    (sym c.is_some.ensures ∙ c.if-is_some.true))
    c.number-number.ensures c.bad_line.ensures

pub returns-in-Some : goal.returns-in-Some
returns-in-Some c =
    let text = c.args.text.items in
    let ram = c.args.data_bytes.items in
    let made = same_parts (image_of c.args.memory c.args.at) c.new-2.result c.from.result text
    c.from-2.result ram c.new.result c.new-2.ensures c.from.ensures c.from-2.ensures c.new.ensures
    in
    whole_good c.args.lines.now.line (image_of c.args.memory c.args.at text ram [])
    c.in-Some.image (taken c.args.lines.now)
    (none_taken c.take.result (taken c.args.lines.now)
    (λ line. (line.now, c.take.new.self)) c.take.ensures
    (sym c.is_some.ensures ∙ c.if-is_some.false))
    (sym c.in-Some.is ∙ made)

pub returns-in-None : goal.returns-in-None
returns-in-None c =
    let text = c.args.text.items in
    let ram = c.args.data_bytes.items in
    let made = same_parts (image_of c.args.memory c.args.at) c.new-2.result c.from.result text
    c.from-2.result ram c.new.result c.new-2.ensures c.from.ensures c.from-2.ensures c.new.ensures
    in
    whole_bad c.args.lines.now.line (image_of c.args.memory c.args.at text ram [])
    (taken c.args.lines.now)
    (none_taken c.take.result (taken c.args.lines.now)
    (λ line. (line.now, c.take.new.self)) c.take.ensures
    (sym c.is_some.ensures ∙ c.if-is_some.false))
    (sym c.in-None.is ∙ made)
