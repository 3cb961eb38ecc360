-- The stack reads the tree of the words.
use Rattle.std.proofs.Common.{◌≡◌, ℕ, Bool, true, false, cond, List, [], ◌∷◌, ◌++◌, Ok, refl}
use Rattle.std.proofs.Common.{sym, ap, ◌∙◌, append_assoc, append-nil, arith, rules}
use Rattle.rvs_tree.specs.Value.{Value, scalar_value, list_value, map_value, Written, explicit_keys}
use Rattle.rvs_yaml.specs.Checks.{Checked, ◌>>=◌, ◌>>◌, check}
use Rattle.rvs_yaml_text.specs.Word.{is_below, Key, Name, Shape, dash, key, Word}
use Rattle.rvs_yaml_text.specs.Word.{head_of, opens_block}
use Rattle.rvs_yaml.specs.Block.{Found, found, named, own_value, value_over, value_of, only_leaf}
use Rattle.rvs_yaml.specs.Block.{item_at, key_at, spelled, check_merge, Outline, end, below}
use Rattle.rvs_yaml.specs.Block.{children, after, outline, block, items, entries, tree_of}
use Rattle.rvs_yaml.specs.Anchors.{Anchors}
use Rattle.rvs_yaml.specs.Entry.{written}
use Rattle.rvs_yaml.specs.Stack.{Done, done_items, done_entries, alone, Open, begun_done, known_of}
use Rattle.rvs_yaml.specs.Stack.{begins, advanced_as, advanced}
use Rattle.rvs_yaml.proofs.InOrder.{own_found, closed_as, closed, closed_into, settled, step}
use Rattle.rvs_yaml.proofs.InOrder.{unwound, finished, steps}
use Rattle.rvs_yaml_text.specs.declared.kind.YamlKind.TheVariants.{Unsupported}

pub bind_assoc : {A B C : Type 0} (m : Checked A) (f : A → Checked B) (g : B → Checked C)
    → ((m >>= f) >>= g) ≡ (m >>= (λ x. f x >>= g))
bind_assoc = grind arith

pub then_assoc : {A B C : Type 0} (m : Checked A) (n : Checked B) (g : B → Checked C)
    → ((m >> n) >>= g) ≡ (m >> (n >>= g))
then_assoc = grind arith

pub bind_same : {A B : Type 0} (m : Checked A) (f g : A → Checked B) → ((x : A) → f x ≡ g x)
    → (m >>= f) ≡ (m >>= g)
bind_same h = grind arith

pub then_same : {A B : Type 0} (m : Checked A) (f g : Checked B) → f ≡ g → (m >> f) ≡ (m >> g)
then_same h = grind arith

-- The members of a block with more words: its open member is g, and these anchors are in the
-- members before that.
abbrev pub members_as : Done → ℕ → ℕ → Anchors → Anchors → Found Value → Outline
    → Checked (Found Value)
members_as (done_items vs) line column anchors known g rest =
    items ((g.anchors ++ anchors) ++ known) column rest >>= λ m. Ok
    (found (list_value line (vs ++ g.value ∷ m.value)) (m.anchors ++ (g.anchors ++ anchors)))
members_as (done_entries ws k) line column anchors known g rest =
    check_merge k g.value >> (entries ((g.anchors ++ anchors) ++ known) column (explicit_keys ws
    ++ spelled k) rest >>= λ m. Ok (found (map_value line (ws ++ written k g.value ∷ m.value))
    (m.anchors ++ (g.anchors ++ anchors))))
members_as alone line column anchors known g rest = only_leaf rest >> Ok g

abbrev pub members : Open → List Open → Found Value → Outline → Checked (Found Value)
members b bs g rest = members_as b.done b.line b.column b.anchors (known_of bs) g rest

abbrev pub resumed_value : Found Value → Open → List Open → Outline → Checked (Found Value)
resumed_value g b [] o = members b [] g o
resumed_value g b (outer ∷ bs) o =
    members b (outer ∷ bs) g (children outer.head o)
    >>= λ h. resumed_value (named outer.head.anchor h) outer bs (after outer.head o)

abbrev pub resumed : List Open → Outline → Checked (Found Value)
resumed [] o = block [] 1 o
resumed (b ∷ bs) o =
    value_over b.own b.head (children b.head o)
    (block (known_of (b ∷ bs)) b.head.line (children b.head o)) >>= λ g. resumed_value g b bs
    (after b.head o)

-- a block from its first word
whole_as : (s : Shape) (w : Word) (known : Anchors) (rest : Outline) (g : Found Value) →
    (elim s as (λ _. Checked (Found Value)) [
      | dash a ↦ items (g.anchors ++ known) w.column rest
          >>= λ m. Ok (found (list_value w.line (g.value ∷ m.value)) (m.anchors ++ g.anchors))
      | key k a content ↦ check_merge k g.value >> (entries (g.anchors ++ known) w.column
          (spelled k) rest >>= λ m. Ok
          (found (map_value w.line (written k g.value ∷ m.value)) (m.anchors ++ g.anchors)))
      | _ ↦ only_leaf rest >> Ok g
    ]) ≡ members_as (begun_done s) w.line w.column [] known g rest
whole_as s w known rest g = search rules

block-below : (known : Anchors) (line : ℕ) (w : Word) (inner rest : Outline) →
    block known line (below w inner rest)
    ≡ (own_value known w.line w.shape
    >>= λ own. value_over own (head_of w) inner (block known w.line inner)
    >>= λ g. members_as (begun_done w.shape) w.line w.column [] known g rest)
block-below known line w inner rest =
    bind_same (value_of known w inner (block known w.line inner)) _ _
    (whole_as w.shape w known rest) ∙ bind_assoc (own_value known w.line w.shape) _ _

pub explicit_keys-push : (ws : List Written) (k : Key) (v : Value)
    → explicit_keys (ws ++ written k v ∷ []) ≡ explicit_keys ws ++ spelled k
explicit_keys-push [] k v = append-nil (spelled k)
explicit_keys-push (w ∷ ws) k v = simp (append_assoc, (explicit_keys-push ws k v))

-- the items behind one, and those behind that
next-items : (vs : List Value) (line column : ℕ) (A known : Anchors) (v : Value) (e : Found Value)
    (rest : Outline) →
    (items (e.anchors ++ (A ++ known)) column rest >>= λ os. Ok
    (found (list_value line (vs ++ v ∷ e.value ∷ os.value)) ((os.anchors ++ e.anchors) ++ A)))
    ≡ members_as (done_items (vs ++ v ∷ [])) line column A known e rest
next-items vs line column A known v e rest = simp (append_assoc, bind_same)

next-entries : (ws : List Written) (line column : ℕ) (A known : Anchors) (k l : Key) (v : Value)
    (e : Found Value) (rest : Outline) →
    (check_merge l e.value >> (entries (e.anchors ++ (A ++ known)) column
    ((explicit_keys ws ++ spelled k) ++ spelled l) rest >>= λ os. Ok (found
    (map_value line (ws ++ written k v ∷ written l e.value ∷ os.value))
    ((os.anchors ++ e.anchors) ++ A))))
    ≡ members_as (done_entries (ws ++ written k v ∷ []) l) line column A known e rest
next-entries ws line column A known k l v e rest =
    simp (then_same, append_assoc, explicit_keys-push, bind_same)

-- the next word of a block
advance-members : (dn : Done) (line column : ℕ) (anchors known : Anchors) (g : Found Value)
    (w : Word) (inner rest : Outline) →
    members_as dn line column anchors known g (below w inner rest)
    ≡ (advanced_as dn column g.value w
    >>= λ dn2. own_value ((g.anchors ++ anchors) ++ known) w.line w.shape >>= λ own.
    value_over own (head_of w) inner (block ((g.anchors ++ anchors) ++ known) w.line inner)
    >>= λ e. members_as dn2 line column (g.anchors ++ anchors) known e rest)
advance-members (done_items vs) line column anchors known g w inner rest =
    let A = g.anchors ++ anchors in
    then_assoc (item_at column w) _ _
    ∙ then_same (item_at column w) _ _ (
    bind_assoc (value_of (A ++ known) w inner (block (A ++ known) w.line inner)) _ _
    ∙ bind_same (value_of (A ++ known) w inner (block (A ++ known) w.line inner)) _ _
    (λ e. bind_assoc (items (e.anchors ++ (A ++ known)) column rest) _ _
    ∙ next-items vs line column A known g.value e rest)
    ∙ bind_assoc (own_value (A ++ known) w.line w.shape) _ _)
    ∙ sym (then_assoc (item_at column w) _ _)
advance-members (done_entries ws k) line column anchors known g w inner rest =
    let A = g.anchors ++ anchors in
    let keyed = key_at column (explicit_keys ws ++ spelled k) w.column w.shape in
    then_same (check_merge k g.value) _ _ (
    bind_assoc keyed _ _
    ∙ bind_same keyed _ _ (λ l.
    bind_assoc (value_of (A ++ known) w inner (block (A ++ known) w.line inner)) _ _
    ∙ bind_same (value_of (A ++ known) w inner (block (A ++ known) w.line inner)) _ _ (λ e.
    then_assoc (check_merge l e.value) _ _
    ∙ then_same (check_merge l e.value) _ _ (bind_assoc (entries (e.anchors ++ (A ++ known)) column
    ((explicit_keys ws ++ spelled k) ++ spelled l) rest) _ _)
    ∙ next-entries ws line column A known k l g.value e rest)
    ∙ bind_assoc (own_value (A ++ known) w.line w.shape) _ _)
    ∙ sym (bind_assoc keyed _ _))
    ∙ sym (then_assoc (check_merge k g.value) _ _)
    ∙ ap (λ seen. (check_merge k g.value
    >> (key_at column seen w.column w.shape
    >>= λ l. Ok (done_entries (ws ++ written k g.value ∷ []) l))) >>= λ dn2. own_value
    (A ++ known) w.line w.shape >>= λ own.
    value_over own (head_of w) inner (block (A ++ known) w.line inner)
    >>= λ e. members_as dn2 line column A known e rest) (sym (explicit_keys-push ws k g.value))
advance-members alone line column anchors known g w inner rest = refl

members-end : (dn : Done) (line column : ℕ) (anchors known : Anchors) (g : Found Value)
    → members_as dn line column anchors known g end ≡ closed_as dn line anchors g
members-end dn line column anchors known g = grind arith

abbrev moved : Open → Found Value → Done → Word → Value → Open
moved b g dn w own = record {
  line = b.line;
  column = b.column;
  done = dn;
  anchors = g.anchors ++ b.anchors;
  head = head_of w;
  own = own;
}

-- what a word adds to the block on top, with the blocks below it going on behind
advance-resumed : (g : Found Value) (b : Open) (bs : List Open) (w : Word) (o inside : Outline)
    (go : Found Value → Checked (Found Value)) →
    (members b bs g (below w (children (head_of w) o) inside) >>= go)
    ≡ (advanced_as b.done b.column g.value w
    >>= λ dn. own_value ((g.anchors ++ b.anchors) ++ known_of bs) w.line w.shape >>= λ own.
    value_over own (head_of w) (children (head_of w) o)
    (block ((g.anchors ++ b.anchors) ++ known_of bs) w.line (children (head_of w) o)) >>= λ e.
    members (moved b g dn w own) bs e inside >>= go)
advance-resumed g b bs w o inside go = simp (advance-members, bind_assoc, bind_same)

advanced-then : (g : Found Value) (b : Open) (bs : List Open) (w : Word)
    (go : List Open → Checked (Found Value)) →
    (advanced b g bs w >>= go)
    ≡ (advanced_as b.done b.column g.value w
    >>= λ dn. own_value ((g.anchors ++ b.anchors) ++ known_of bs) w.line w.shape
    >>= λ own. go (moved b g dn w own ∷ bs))
advanced-then g b bs w go = simp (bind_assoc, bind_same)

settle-step : (g : Found Value) (b : Open) (bs : List Open) (w : Word) (o : Outline) →
    resumed_value g b bs (below w (children (head_of w) o) (after (head_of w) o))
    ≡ (settled g b bs w >>= λ cs. resumed cs o)
settle-step g b [] w o = simp (advance-members, advanced-then)
settle-step g b (outer ∷ bs) w o =
    elim (is_below outer.head w) as (λ v. is_below outer.head w ≡ v
    → resumed_value g b (outer ∷ bs) (below w (children (head_of w) o) (after (head_of w) o))
    ≡ (settled g b (outer ∷ bs) w >>= λ cs. resumed cs o)) [
      | true ↦ λ e. rw e (advance-resumed g b (outer ∷ bs) w o (children outer.head
          (after (head_of w) o)) (λ h. resumed_value (named outer.head.anchor h) outer bs
          (after outer.head (after (head_of w) o))) ∙ sym (advanced-then g b (outer ∷ bs) w
          (λ cs. resumed cs o)))
      | false ↦ λ e. rw e (
          ap (λ m. m >>= λ h. resumed_value (named outer.head.anchor h) outer bs
          (below w (children (head_of w) o) (after (head_of w) o))) (members-end b.done b.line
          b.column b.anchors (known_of (outer ∷ bs)) g)
          ∙ bind_same (closed b g) _ _ (λ h. settle-step (named outer.head.anchor h) outer bs w o)
          ∙ sym (bind_assoc (closed_into b g outer.head.anchor) _ _ ∙ bind_assoc (closed b g) _ _))
    ] refl

over-end : (t : Bool) (a : Name) (empty own : Value) →
    cond t (let r : Checked (Found Value) = Ok (named a (found empty [])) in r)
    (Ok (named a (found own []))) ≡ Ok (named a (found (cond t empty own) []))
over-end t a empty own = grind arith

-- a word below a word that opens no block, and one below a word that does
below-step : (t : Bool) (b : Open) (bs : List Open) (w : Word) (o : Outline) →
    (cond t (block (known_of (b ∷ bs)) b.head.line
    (below w (children (head_of w) o) (children b.head (after (head_of w) o)))
    >>= λ g. Ok (named b.head.anchor g)) (check false Unsupported
    >> Ok (named b.head.anchor (found b.own [])))
    >>= λ g. resumed_value g b bs (after b.head (after (head_of w) o)))
    ≡ ((check t Unsupported >> begins (b ∷ bs) w) >>= λ cs. resumed cs o)
below-step true b bs w o =
    let known = known_of (b ∷ bs) in
    bind_assoc (block known b.head.line
    (below w (children (head_of w) o) (children b.head (after (head_of w) o)))) _ _
    ∙ ap (λ m. m >>= λ h. resumed_value (named b.head.anchor h) b bs
    (after b.head (after (head_of w) o))) (block-below known b.head.line w
    (children (head_of w) o) (children b.head (after (head_of w) o)))
    ∙ bind_assoc (own_value known w.line w.shape) _ _
    ∙ bind_same (own_value known w.line w.shape) _ _ (λ own. bind_assoc (value_over own (head_of w)
    (children (head_of w) o) (block known w.line (children (head_of w) o))) _ _)
    ∙ sym (bind_assoc (own_value known w.line w.shape) _ _)
below-step false b bs w o = refl

step-resumed : (bs : List Open) (w : Word) (o : Outline)
    → resumed bs (below w (children (head_of w) o) (after (head_of w) o))
    ≡ (step bs w >>= λ cs. resumed cs o)
step-resumed [] w o = simp (block-below, bind_assoc)
step-resumed (b ∷ bs) w o =
    elim (is_below b.head w) as (λ v. is_below b.head w ≡ v
    → resumed (b ∷ bs) (below w (children (head_of w) o) (after (head_of w) o))
    ≡ (step (b ∷ bs) w >>= λ cs. resumed cs o)) [
      | true ↦ λ e. rw e (below-step (opens_block b.head.sort) b bs w o)
      | false ↦ λ e. rw e (ap (λ m. m
          >>= λ g. resumed_value g b bs (below w (children (head_of w) o) (after (head_of w) o)))
          (over-end (opens_block b.head.sort) b.head.anchor (scalar_value [] b.head.line) b.own)
          ∙ settle-step (own_found b) b bs w o)
    ] refl

resumed_value-end : (g : Found Value) (b : Open) (bs : List Open)
    → resumed_value g b bs end ≡ unwound g b bs
resumed_value-end g b [] = members-end b.done b.line b.column b.anchors [] g
resumed_value-end g b (outer ∷ bs) =
    ap (λ m. m >>= λ h. resumed_value (named outer.head.anchor h) outer bs end)
    (members-end b.done b.line b.column b.anchors (known_of (outer ∷ bs)) g)
    ∙ bind_same (closed b g) _ _ (λ h. resumed_value-end (named outer.head.anchor h) outer bs)
    ∙ sym (bind_assoc (closed b g) _ _)

resumed-end : (bs : List Open) → resumed bs end ≡ finished bs
resumed-end bs = search (rules, over-end, resumed_value-end, own_found)

-- The stack, and then the words that are left, read what the outline gives.
pub steps-resumed : (ws : List Word) (bs : List Open)
    → resumed bs (outline ws) ≡ (steps bs ws >>= finished)
steps-resumed [] bs = resumed-end bs
steps-resumed (w ∷ ws) bs =
    step-resumed bs w (outline ws)
    ∙ bind_same (step bs w) _ _ (λ cs. steps-resumed ws cs)
    ∙ sym (bind_assoc (step bs w) _ _)

-- The tree of the words is what the stack gives.
pub tree_of-steps : (ws : List Word)
    → tree_of ws ≡ (steps [] ws >>= λ cs. finished cs >>= λ g. Ok g.value)
tree_of-steps ws =
    ap (λ m. m >>= λ g. Ok g.value) (steps-resumed ws []) ∙ bind_assoc (steps [] ws) _ _
