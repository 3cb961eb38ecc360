-- What is decided before memory is taken.
use Rattle.std.proofs.Common.{◌≡◌, ℕ, Bool, true, false, List, [], ◌∷◌, ◌++◌, Result, Ok, Err, refl}
use Rattle.std.proofs.Common.{length, take}
use Rattle.std.proofs.Common.{sym, ap, ◌∙◌}
use Rattle.std.specs.Prelude.{◌||◌, ◌==◌, if◌then◌else◌, Option, Some, None}
use Rattle.rvs_base.specs.declared.fault.Fault.{Fault}
use Rattle.rvs_base.specs.declared.fault.Fault.TheVariants.{Refused}
use Rattle.rvs_tree.specs.Value.{Value, Written, has_key, explicit_keys}
use Rattle.rvs_tree.proofs.Sums.{has_key-append, explicit_keys-push}
use Rattle.rvs_yaml.specs.Checks.{Checked, ◌>>=◌, ◌>>◌, check, succeeds}
use Rattle.rvs_yaml.specs.Gives.{FailsWith}
use Rattle.rvs_yaml.specs.Entry.{written}
use Rattle.rvs_yaml.specs.Anchors.{Anchors, lookup, known_alias}
use Rattle.rvs_yaml.specs.Block.{check_merge, spelled, key_at, content_value}
use Rattle.rvs_yaml.specs.Stack.{Done, done_entries, Open, begun, known_of, begins, settled, step}
use Rattle.rvs_yaml.specs.Stack.{own_found}
use Rattle.rvs_yaml.specs.Rising.{Rises, befores}
use Rattle.rvs_yaml.specs.StackView.{anchors_view, open_at, anchored}
use Rattle.rvs_yaml.specs.declared.open.Anchor.{Anchor}
use Rattle.rvs_yaml.specs.declared.open.Open as code
use Rattle.rvs_yaml.proofs.Segments.{anchored-push, known-all}
use Rattle.rvs_yaml.proofs.Stepping.{own-content}
use Rattle.rvs_yaml.specs.StepParts.{keyed_content, next_entry, own_content, looked_up, placed}
use Rattle.rvs_yaml_text.specs.Word.{Key, Content, nothing, text, alias, flow, faulty, Word}
use Rattle.rvs_yaml_text.specs.Word.{is_below, opens_block, Bracket}
use Rattle.rvs_yaml_text.specs.WordView.{head_view}
use Rattle.rvs_yaml_text.specs.declared.kind.YamlKind.{YamlKind}
use Rattle.rvs_yaml_text.specs.declared.kind.YamlKind.TheVariants.{BadScalar, UnknownAlias}
use Rattle.rvs_yaml_text.specs.declared.kind.YamlKind.TheVariants.{Unsupported, BadFlow}
use Rattle.rvs_yaml.specs.Flow.{FlowState, member, behind_member, key_place, entry_value}
use Rattle.rvs_yaml.specs.Flow.{behind_entry}
use Rattle.rvs_yaml.specs.Flow.{with_alias, with_value, closes, ends_with}
use Rattle.rvs_yaml.specs.FlowParts.{alias_at, closed}
use Rattle.rvs_yaml.specs.FlowSteps.{closed_by, into}
use Rattle.rvs_tree.specs.Standin.{standin}

pub known_key : (k : List ℕ) (ws : List Written) (l : Key)
    → has_key k (explicit_keys ws ++ spelled l)
    ≡ (has_key k (explicit_keys ws) || has_key k (spelled l))
known_key k ws l = has_key-append k (explicit_keys ws) (spelled l)

join : (c : Checked (Unit {0})) (m : Checked Key) (f : Key → Done) (t : Content)
    → ((c >> (m >>= λ l. let r : Checked Done = Ok (f l) in r)) >>= λ e.
    let r : Checked (Done × Content) = Ok (e, t) in r)
    ≡ (c >> ((m >>= λ k. let r : Checked (Key × Content) = Ok (k, t) in r)
    >>= λ q. Ok (f q.0, q.1)))
join (Err e) m f t = refl
join (Ok u) (Err e) f t = refl
join (Ok u) (Ok l) f t = refl

-- the next entry, with the key of the open one beside the entries before it
pub keyed : (ws : List Written) (k : Key) (column : ℕ) (v : Value) (w : Word)
    → next_entry ws k column v w ≡ (check_merge k v
    >> (keyed_content column (explicit_keys ws ++ spelled k) w
    >>= λ q. Ok (done_entries (ws ++ written k v ∷ []) q.0, q.1)))
keyed ws k column v w =
    ap (λ ks. (check_merge k v >> (key_at column ks w.column w.shape >>= λ l. let r : Checked Done =
    Ok (done_entries (ws ++ written k v ∷ []) l) in r)) >>= λ e.
    let r : Checked (Done × Content) = Ok (e, own_content w.shape) in r)
    (explicit_keys-push ws (written k v))
    ∙ join (check_merge k v) (key_at column (explicit_keys ws ++ spelled k) w.column w.shape)
    (λ l. done_entries (ws ++ written k v ∷ []) l) (own_content w.shape)

pub keyed-not : (ws : List Written) (k : Key) (column : ℕ) (v : Value) (w : Word) (kind : YamlKind)
    → check_merge k v ≡ Err kind → next_entry ws k column v w ≡ Err kind
keyed-not ws k column v w kind h =
    keyed ws k column v w
    ∙ ap (λ c. c >> (keyed_content column (explicit_keys ws ++ spelled k) w
    >>= λ q. let s : Checked (Done × Content) =
    Ok (done_entries (ws ++ written k v ∷ []) q.0, q.1) in s)) h

-- what gives a value fails with nothing
pub gave : {X Y : Type 0} (r : Result X (Fault YamlKind)) (m : Checked Y) (y : Y) → m ≡ Ok y
    → FailsWith r m
gave r m y e kind h = cc

pub failed : {X Y : Type 0} (r : Result X (Fault YamlKind)) (m : Checked Y) (k : YamlKind)
    → r ≡ Err (Refused k) → m ≡ Err k → FailsWith r m
failed r m k is e kind h =
    let same : k ≡ kind = cc in is ∙ ap (λ (x : YamlKind). Err (Refused x)) same

alias-refused : (o : Option Value) (ended : Bool) (kind : YamlKind)
    → (known_alias o >> check ended BadScalar) ≡ Err kind
    → (known_alias o >>= λ v. check ended BadScalar >> (let r : Checked Value = Ok v in r))
    ≡ Err kind
alias-refused None ended kind h = let same : UnknownAlias ≡ kind = cc in ap Err same
alias-refused (Some v) true kind h = cc
alias-refused (Some v) false kind h = let same : BadScalar ≡ kind = cc in ap Err same

pub content-refused : (known : Anchors) (line : ℕ) (c : Content) (kind : YamlKind)
    → looked_up known c ≡ Err kind → content_value known line c ≡ Err kind
content-refused known line nothing kind h = cc
content-refused known line (text bytes) kind h = cc
content-refused known line (alias name ended) kind h =
    alias-refused (lookup name known) ended kind h
content-refused known line (flow b tokens) kind h = cc
content-refused known line (faulty k) kind h = let same : k ≡ kind = cc in ap Err same

pub begins-refused : (bs : List Open) (w : Word) (kind : YamlKind)
    → looked_up (known_of bs) (own_content w.shape) ≡ Err kind → begins bs w ≡ Err kind
begins-refused bs w kind h =
    ap (λ m. m >>= λ own. let r : Checked (List Open) = Ok (begun w own ∷ bs) in r)
    (sym (own-content (known_of bs) w.line w.shape)
    ∙ content-refused (known_of bs) w.line (own_content w.shape) kind h)

refused-by : (t o : Bool) (l : Checked (Unit {0})) (m n : Checked (List Open)) (kind : YamlKind)
    → (l ≡ Err kind → m ≡ Err kind)
    → (if t then (check o Unsupported >> l) else Ok tt) ≡ Err kind
    → (if t then (check o Unsupported >> m) else n) ≡ Err kind
refused-by true true l m n kind f h = f h
refused-by true false l m n kind f h = let same : Unsupported ≡ kind = cc in ap Err same
refused-by false o l m n kind f h = cc

pub placed-refused : (bs : List Open) (w : Word) (kind : YamlKind) → placed bs w ≡ Err kind
    → step bs w ≡ Err kind
placed-refused [] w kind h = begins-refused [] w kind h
placed-refused (b ∷ bs) w kind h = refused-by (is_below b.head w) (opens_block b.head.sort)
    (looked_up (known_of (b ∷ bs)) (own_content w.shape)) (begins (b ∷ bs) w)
    (settled (own_found b) b bs w) kind (begins-refused (b ∷ bs) w kind) h

pub placed-under : (b : Open) (bs : List Open) (w : Word) → is_below b.head w ≡ true
    → placed (b ∷ bs) w ≡ (check (opens_block b.head.sort) Unsupported
    >> looked_up (known_of (b ∷ bs)) (own_content w.shape))
placed-under b bs w e = rw e refl

pub placed-none : (all : List Anchor) (bs : List code.Open) (w : Word) → bs ≡ []
    → Rises (length all) (befores bs)
    → placed (anchored all bs) w ≡ looked_up (anchors_view all) (own_content w.shape)
placed-none all bs w e h =
    ap (λ xs. placed (anchored all xs) w) e
    ∙ ap (λ xs. looked_up (known_of (anchored all xs)) (own_content w.shape)) (sym e)
    ∙ ap (λ xs. looked_up xs (own_content w.shape)) (known-all all bs h)

pub placed-below : (all : List Anchor) (bs : List code.Open) (o : code.Open) (w : Word)
    → is_below (head_view o.head) w ≡ true → Rises (length all) (befores (bs ++ o ∷ []))
    → placed (anchored all (bs ++ o ∷ [])) w
    ≡ (check (opens_block (head_view o.head).sort) Unsupported
    >> looked_up (anchors_view all) (own_content w.shape))
placed-below all bs o w e h =
    let split = anchored-push all bs o in
    ap (λ xs. placed xs w) split
    ∙ placed-under (open_at all o) (anchored (take o.block.before all) bs) w e
    ∙ ap (λ xs. check (opens_block (head_view o.head).sort) Unsupported
    >> looked_up xs (own_content w.shape))
    (ap known_of (sym split) ∙ known-all all (bs ++ o ∷ []) h)

-- a refusal of a part that fails wherever the whole does
pub fails_earlier : {X Z A B : Type 0} (fault : Fault YamlKind) (m : Checked A) (t : Checked B)
    → ((kind : YamlKind) → t ≡ Err kind → m ≡ Err kind)
    → FailsWith (let r : Result X (Fault YamlKind) = Err fault in r) m
    → FailsWith (let r : Result Z (Fault YamlKind) = Err fault in r) t
fails_earlier fault m t f h kind bad =
    let is = h kind (f kind bad) in let same : fault ≡ Refused kind = cc in ap Err same

-- what a function makes of a value fails only where that does
pub fails_before : {A B : Type 0} (m : Checked A) (f : A → B) (kind : YamlKind)
    → (m >>= λ x. let r : Checked B = Ok (f x) in r) ≡ Err kind → m ≡ Err kind
fails_before (Ok x) f kind h = cc
fails_before (Err k) f kind h = let same : k ≡ kind = cc in ap Err same

pub alias-before : (known : Anchors) (p : FlowState) (name : List ℕ) (kind : YamlKind)
    → with_alias known p name ≡ Err kind → alias_at known p name ≡ Err kind
alias-before known (member vs) [] kind h = let same : BadFlow ≡ kind = cc in ap Err same
alias-before known (entry_value ws k) [] kind h = let same : BadFlow ≡ kind = cc in ap Err same
alias-before known (member vs) (n ∷ ns) kind h =
    fails_before (known_alias (lookup (n ∷ ns) known)) (λ v. behind_member (vs ++ v ∷ [])) kind h
alias-before known (entry_value ws k) (n ∷ ns) kind h =
    fails_before (known_alias (lookup (n ∷ ns) known))
    (λ v. behind_entry (ws ++ written k v ∷ [])) kind h
alias-before known (key_place ws) name kind h = let same : BadScalar ≡ kind = cc in ap Err same
alias-before known (behind_member vs) name kind h = let same : BadFlow ≡ kind = cc in ap Err same
alias-before known (behind_entry ws) name kind h = let same : BadFlow ≡ kind = cc in ap Err same

-- the next entry, where the value can be merged, from what the word is
pub keyed-as : (ws : List Written) (k : Key) (column : ℕ) (v : Value) (w : Word)
    (r : Checked (Key × Content)) → check_merge k v ≡ Ok tt
    → keyed_content column (explicit_keys ws ++ spelled k) w ≡ r
    → next_entry ws k column v w
    ≡ (r >>= λ q. Ok (done_entries (ws ++ written k v ∷ []) q.0, q.1))
keyed-as ws k column v w r good is =
    keyed ws k column v w
    ∙ ap (λ c. c >> (keyed_content column (explicit_keys ws ++ spelled k) w
    >>= λ q. let s : Checked (Done × Content) =
    Ok (done_entries (ws ++ written k v ∷ []) q.0, q.1) in s)) good
    ∙ ap (λ m. m >>= λ q. let s : Checked (Done × Content) =
    Ok (done_entries (ws ++ written k v ∷ []) q.0, q.1) in s) is

-- THE END OF A FLOW COLLECTION
pub has_value : {A : Type 0} (m : Checked A) → succeeds m ≡ Ok tt → (x : A) × (m ≡ Ok x)
has_value (Ok x) h = (x, refl)
has_value (Err k) h = cc

pub fails_so : {A : Type 0} (m : Checked A) (kind : YamlKind) → succeeds m ≡ Err kind → m ≡ Err kind
fails_so (Ok x) kind h = cc
fails_so (Err k) kind h = let same : k ≡ kind = cc in ap Err same

closes-well : (poor : Bool) (line : ℕ) (p : FlowState) → succeeds (closes line p) ≡ Ok tt
    → (v : Value) × (closed_by poor line p ≡ Ok v)
closes-well false line p h = has_value (closes line p) h
closes-well true line p h = let q = has_value (closes line p) h in
    (standin q.0, ap (λ m. m >>= λ v. let r : Checked Value = Ok (standin v) in r) q.1)

-- where the collection may end, the bracket and what is around it decide
closed-as : (poor : Bool) (line : ℕ) (good : Bool) (b : Bracket) (p : FlowState)
    (outer : List (Bracket × FlowState)) (c : Bracket) → succeeds (closes line p) ≡ Ok tt
    → (v : Value) × (closed poor line good b p outer c
    ≡ (ends_with b (Some c) >> into (v, good) outer))
closed-as poor line good b p outer c h =
    let q = closes-well poor line p h in
    (q.0, ap (λ m. m >>= λ v. ends_with b (Some c) >> into (v, good) outer) q.1)

pub closed-bracket : (poor : Bool) (line : ℕ) (good : Bool) (b : Bracket) (p : FlowState)
    (outer : List (Bracket × FlowState)) (c : Bracket) (kind : YamlKind)
    → succeeds (closes line p) ≡ Ok tt → ends_with b (Some c) ≡ Err kind
    → closed poor line good b p outer c ≡ Err kind
closed-bracket poor line good b p outer c kind h e =
    let q = closed-as poor line good b p outer c h in
    q.1 ∙ ap (λ m. m >> into (q.0, good) outer) e

closes-not : (poor : Bool) (line : ℕ) (p : FlowState) (kind : YamlKind)
    → succeeds (closes line p) ≡ Err kind → closed_by poor line p ≡ Err kind
closes-not false line p kind h = fails_so (closes line p) kind h
closes-not true line p kind h =
    ap (λ m. m >>= λ v. let r : Checked Value = Ok (standin v) in r)
    (fails_so (closes line p) kind h)

-- where the collection may not end
pub closed-not : (poor : Bool) (line : ℕ) (good : Bool) (b : Bracket) (p : FlowState)
    (outer : List (Bracket × FlowState)) (c : Bracket) (kind : YamlKind)
    → succeeds (closes line p) ≡ Err kind → closed poor line good b p outer c ≡ Err kind
closed-not poor line good b p outer c kind h =
    ap (λ m. m >>= λ v. ends_with b (Some c) >> into (v, good) outer)
    (closes-not poor line p kind h)

pub closed-tail : (poor : Bool) (line : ℕ) (good : Bool) (b : Bracket) (p : FlowState)
    (outer : List (Bracket × FlowState)) (c : Bracket) → succeeds (closes line p) ≡ Ok tt
    → ends_with b (Some c) ≡ Ok tt
    → (v : Value) × (succeeds (closed poor line good b p outer c)
    ≡ succeeds (into (v, good) outer))
closed-tail poor line good b p outer c h e =
    let q = closed-as poor line good b p outer c h in
    (q.0, ap succeeds (q.1 ∙ ap (λ m. m >> into (q.0, good) outer) e))

then-well : {A : Type 0} (c : Checked (Unit {0})) (m : Checked A) → succeeds (c >> m) ≡ Ok tt
    → (c >> m) ≡ m
then-well (Ok u) m h = refl
then-well (Err k) m h = cc

-- what is around the collection decides, where its bracket may end it
pub closed-into : (poor : Bool) (line : ℕ) (good : Bool) (b : Bracket) (p : FlowState)
    (outer : List (Bracket × FlowState)) (c : Bracket) (v : Value)
    → closed_by poor line p ≡ Ok v → succeeds (closed poor line good b p outer c) ≡ Ok tt
    → closed poor line good b p outer c ≡ into (v, good) outer
closed-into poor line good b p outer c v e h =
    let q = ap (λ m. m >>= λ u. ends_with b (Some c) >> into (u, good) outer) e in
    q ∙ then-well (ends_with b (Some c)) (into (v, good) outer) (sym (ap succeeds q) ∙ h)

-- an alias with a name, where one may stand
pub named-member : (known : Anchors) (p : FlowState) (vs : List Value) (name : List ℕ)
    → p ≡ member vs → (length name == 0) ≡ false
    → alias_at known p name ≡ known_alias (lookup name known)
named-member known p vs [] e h = absurd (cc)
named-member known p vs (b ∷ bs) e h = ap (λ q. alias_at known q (b ∷ bs)) e

pub named-entry : (known : Anchors) (p : FlowState) (ws : List Written) (k : Key) (name : List ℕ)
    → p ≡ entry_value ws k → (length name == 0) ≡ false
    → alias_at known p name ≡ known_alias (lookup name known)
named-entry known p ws k [] e h = absurd (cc)
named-entry known p ws k (b ∷ bs) e h = ap (λ q. alias_at known q (b ∷ bs)) e

-- where an alias has no value, it isn't taken
pub alias-fails : (known : Anchors) (p : FlowState) (name : List ℕ) (kind : YamlKind)
    → alias_at known p name ≡ Err kind → with_alias known p name ≡ Err kind
alias-fails known (member vs) [] kind h = let same : BadFlow ≡ kind = cc in ap Err same
alias-fails known (entry_value ws k) [] kind h = let same : BadFlow ≡ kind = cc in ap Err same
alias-fails known (member vs) (n ∷ ns) kind h =
    ap (λ m. m >>= λ v. let r : Checked FlowState = Ok (behind_member (vs ++ v ∷ [])) in r) h
alias-fails known (entry_value ws k) (n ∷ ns) kind h =
    ap (λ m. m >>= λ v. let r : Checked FlowState = Ok (behind_entry (ws ++ written k v ∷ [])) in r)
    h
alias-fails known (key_place ws) name kind h = let same : BadScalar ≡ kind = cc in ap Err same
alias-fails known (behind_member vs) name kind h = let same : BadFlow ≡ kind = cc in ap Err same
alias-fails known (behind_entry ws) name kind h = let same : BadFlow ≡ kind = cc in ap Err same

-- where it has one, that is taken
pub alias-found : (known : Anchors) (p : FlowState) (name : List ℕ) (v : Value)
    → alias_at known p name ≡ Ok v → with_alias known p name ≡ with_value p v
alias-found known (member vs) [] v h = absurd (cc)
alias-found known (entry_value ws k) [] v h = absurd (cc)
alias-found known (member vs) (n ∷ ns) v h =
    ap (λ m. m >>= λ u. let r : Checked FlowState = Ok (behind_member (vs ++ u ∷ [])) in r) h
alias-found known (entry_value ws k) (n ∷ ns) v h =
    ap (λ m. m >>= λ u. let r : Checked FlowState = Ok (behind_entry (ws ++ written k u ∷ [])) in r)
    h
alias-found known (key_place ws) name v h = absurd (cc)
alias-found known (behind_member vs) name v h = absurd (cc)
alias-found known (behind_entry ws) name v h = absurd (cc)
