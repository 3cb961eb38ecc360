-- The anchors that are complete, as those of one open block after another.
use Rattle.std.proofs.Common.{◌≡◌, ◌≤◌, ◌+◌, ◌-◌, ℕ, false, List, [], ◌∷◌, ◌++◌, map, reverse}
use Rattle.std.proofs.Common.{length, take, drop, Some, Ok, refl, sym, ap, subst, ◌∙◌, arith}
use Rattle.std.proofs.Common.{zero, suc, get_or, length-append}
use Rattle.std.proofs.lemmas.List.{reverse-append, map-append, take-append-drop, length-take-le}
use Rattle.std.proofs.lemmas.List.{take-take, take_all, drop-append-le, drop_all, take_more}
use Rattle.std.specs.Prelude.{slice_get, Option, None, Result, IfSome, IfOk, Bool, true, not}
use Rattle.rvs_yaml.proofs.Sketching.{some-last, none-last}
use Rattle.std.proofs.lemmas.Option.{slice_get-get_or}
use Rattle.rvs_tree.specs.Value.{Value}
use Rattle.rvs_tree.specs.ValueView.{value_view}
use Rattle.rvs_tree.specs.declared.counted.Value as made
use Rattle.rvs_base.specs.declared.fault.Fault.{Fault}
use Rattle.rvs_yaml.specs.Gives.{Gives}
use Rattle.rvs_yaml.specs.declared.anchor_list.AnchorList.{AnchorList}
use Rattle.rvs_yaml_text.specs.declared.kind.YamlKind.{YamlKind}
use Rattle.rvs_yaml_text.specs.Word.{Name, Word, Head, Content, is_below}
use Rattle.rvs_yaml_text.specs.WordView.{head_view}
use Rattle.rvs_yaml.specs.Anchors as anchors_spec
use Rattle.rvs_yaml.specs.Checks.{◌>>=◌}
use Rattle.rvs_yaml.specs.Block.{Found, found, content_value}
use Rattle.rvs_yaml.specs.Stack as spec
use Rattle.rvs_yaml.specs.Stack.{Done, known_of, noted, closed_as}
use Rattle.rvs_yaml.specs.Stack.{settled, step}
use Rattle.rvs_yaml.specs.StepParts.{Block, opened, bare, closed_value, put_content}
use Rattle.rvs_yaml.specs.Front.{own_value, ends, front_value, checked_front}
use Rattle.rvs_yaml.specs.Reach.{passed, deepened, seen, sight, KeepsDepth}
use Rattle.rvs_tree.specs.Shown.{Shown}
use Rattle.rvs_yaml.specs.Parsed.{within_limits}
use Rattle.rvs_yaml.specs.Rising.{Rises, befores}
use Rattle.rvs_yaml.specs.StackView.{anchors_view, own_view, open_view, stack_view}
use Rattle.rvs_yaml.specs.StackView.{done_view, block_at, open_at, over, anchored, Names}
use Rattle.rvs_yaml.specs.declared.open.Block as code
use Rattle.rvs_yaml.specs.declared.open.Anchor.{Anchor}
use Rattle.rvs_yaml.specs.declared.open.Open.{Open}
use Rattle.rvs_yaml.proofs.Fronts.{noted-value}
use Rattle.rvs_yaml.proofs.Lookups.{reverse-push}
use Rattle.rvs_yaml.proofs.Outlined.{bind_assoc, bind_same}
use Rattle.rvs_yaml.proofs.Stepping.{settled-bare, settled-over, step-over}

pub anchors-append : (xs ys : List Anchor)
    → anchors_view (xs ++ ys) ≡ anchors_view ys ++ anchors_view xs
anchors-append xs ys = simp (map-append, reverse-append)

pub befores-push : (bs : List Open) (b : Open)
    → befores (bs ++ b ∷ []) ≡ b.block.before ∷ befores bs
befores-push bs b = ap (map (λ (o : Open). o.block.before)) (reverse-push bs b)

pub anchored-push : (all : List Anchor) (bs : List Open) (b : Open)
    → anchored all (bs ++ b ∷ []) ≡ open_at all b ∷ anchored (take b.block.before all) bs
anchored-push all bs b = ap (over all) (reverse-push bs b)

none-left : (all : List Anchor) → length all ≤ 0 → anchors_view all ≡ []
none-left [] h = refl
none-left (a ∷ all) h = absurd (omega (arith, h))

whole : (all : List Anchor) (n : ℕ)
    → anchors_view (drop n all) ++ anchors_view (take n all) ≡ anchors_view all
whole all n =
    sym (anchors-append (take n all) (drop n all)) ∙ ap anchors_view (take-append-drop n all)

known-over : (all : List Anchor) (bs : List Open)
    → Rises (length all) (map (λ (b : Open). b.block.before) bs)
    → known_of (over all bs) ≡ anchors_view all
known-over all [] h = sym (none-left all h)
known-over all (b ∷ bs) h =
    let n = b.block.before in
    let below = subst (λ m. Rises m (map (λ (o : Open). o.block.before) bs))
    (sym (length-take-le n all h.0)) h.1 in
    ap (λ xs. anchors_view (drop n all) ++ xs) (known-over (take n all) bs below) ∙ whole all n

-- the anchors in all blocks are all
pub known-all : (all : List Anchor) (bs : List Open) → Rises (length all) (befores bs)
    → known_of (anchored all bs) ≡ anchors_view all
known-all all bs h = known-over all (reverse bs) h

-- the anchors in a block and those around it are all
pub known-put : (all : List Anchor) (n : ℕ) (bs : List Open) → Rises (length all) (n ∷ befores bs)
    → anchors_view (drop n all) ++ known_of (anchored (take n all) bs) ≡ anchors_view all
known-put all n bs h = grind (arith, length-take-le, known-over, whole)

segment : (m n : ℕ) (all : List Anchor) → m ≤ n → n ≤ length all
    → drop m all ≡ drop m (take n all) ++ drop n all
segment m n all h k =
    let inside : m ≤ length (take n all) = omega (arith, h, length-take-le n all k) in
    ap (drop m) (sym (take-append-drop n all)) ∙ drop-append-le m (take n all) (drop n all) inside

-- A BLOCK THAT CLOSES
closed-joined : (d : Done) (line : ℕ) (xs ys : anchors_spec.Anchors) (v : Value)
    → closed_as d line ys (found v xs) ≡ closed_as d line (xs ++ ys) (found v [])
closed-joined d line xs ys v = grind arith

abbrev with : Block → anchors_spec.Anchors → Block
with b anchors = record { line = b.line; column = b.column; done = b.done; anchors = anchors }

settled-joined : (b : Block) (xs ys : anchors_spec.Anchors) (v : Value) (bs : List spec.Open)
    (w : Word) → settled (found v xs) (bare (with b ys)) bs w
    ≡ settled (found v []) (bare (with b (xs ++ ys))) bs w
settled-joined b xs ys v [] w = refl
settled-joined b xs ys v (o ∷ bs) w = grind (arith, closed-joined)

-- the value of a block and the anchors in it
pub closed-whole : (d : Done) (line : ℕ) (anchors : anchors_spec.Anchors) (v : Value)
    → closed_as d line anchors (found v []) ≡ (closed_value d line v >>= λ u. Ok (found u anchors))
closed-whole d line anchors v = grind arith

noted-found : (name : Name) (v : Value) (xs ys : anchors_spec.Anchors)
    → ys ≡ (noted name (found v xs)).anchors → noted name (found v xs) ≡ found v ys
noted-found name v xs ys e = grind (arith, noted-value)

-- A node that is complete and has its anchor is the open member of the block around it.
pub next-over : (name : Name) (v : Value) (n : ℕ) (all after : List Anchor) (o : Open)
    (bs : List Open) (w : Word) → Names name v n all after → o.block.before ≤ n → n ≤ length all
    → settled (noted name (found v (anchors_view (drop n all)))) (open_at (take n all) o)
    (anchored (take o.block.before (take n all)) bs) w
    ≡ settled (found v []) (bare (block_at after o.block)) (anchored (take o.block.before after) bs)
    w
next-over name v n all after o bs w named h k =
    let m = o.block.before in
    let g = noted name (found v (anchors_view (drop n all))) in
    let xs = anchors_view (drop n after) in
    let ys = anchors_view (drop m (take n all)) in
    let rest = anchored (take m (take n all)) bs in
    let joined : xs ++ ys ≡ anchors_view (drop m after) =
    ap (λ zs. xs ++ anchors_view (drop m zs)) (sym named.outer)
    ∙ sym (anchors-append (drop m (take n after)) (drop n after))
    ∙ ap anchors_view (sym (segment m n after h (omega (arith, k, named.more)))) in
    let below : take m (take n all) ≡ take m after =
    ap (take m) (sym named.outer) ∙ take-take m n after h in
    settled-bare g (block_at (take n all) o.block) (head_view o.head) (own_view o.head.line o.own)
    rest w
    ∙ ap (λ x. settled x (bare (block_at (take n all) o.block)) rest w)
    (noted-found name v (anchors_view (drop n all)) xs named.inner)
    ∙ settled-joined (block_at (take n all) o.block) xs ys v rest w
    ∙ ap (λ zs. settled (found v []) (bare (with (block_at after o.block) zs)) rest w) joined
    ∙ ap (λ zs. settled (found v []) (bare (block_at after o.block)) (anchored zs bs) w) below

-- a block that the word isn't in closes
pub settled-closing : (b : Block) (v : Value) (o : spec.Open) (bs : List spec.Open) (w : Word)
    → is_below o.head w ≡ false → settled (found v []) (bare b) (o ∷ bs) w
    ≡ (closed_value b.done b.line v
    >>= λ u. settled (noted o.head.anchor (found u b.anchors)) o bs w)
settled-closing b v o bs w e = grind (arith, settled-over, closed-whole, bind_assoc)

-- the word on top is complete
pub step-own : (v : Value) (n : ℕ) (all after : List Anchor) (o : Open) (bs : List Open) (w : Word)
    → n ≡ length all → o.block.before ≤ n → is_below (head_view o.head) w ≡ false
    → v ≡ own_value (open_view o) → Names (head_view o.head).anchor v n all after
    → step (open_at all o ∷ anchored (take o.block.before all) bs) w
    ≡ settled (found v []) (bare (block_at after o.block)) (anchored (take o.block.before after) bs)
    w
step-own v n all after o bs w e h below is named =
    grind (arith, take_all, drop_all, step-over, next-over)

pub put-all : (all : List Anchor) (n : ℕ) (b : Block) (bs : List Open) (h : Head) (c : Content)
    → b.anchors ≡ anchors_view (drop n all) → Rises (length all) (n ∷ befores bs)
    → put_content b (anchored (take n all) bs) h c
    ≡ (content_value (anchors_view all) h.line c
    >>= λ own. Ok (opened b h own ∷ anchored (take n all) bs))
put-all all n b bs h c e r = grind (arith, known-put)

-- the block on top is the last
pub last-whole : (bs : List Open) (top : Open) → Some top ≡ slice_get bs (length bs - 1)
    → bs ≡ take (length bs - 1) bs ++ top ∷ []
last-whole bs top h =
    let m = length bs - 1 in
    let inside = some-last bs top h in
    let one : m + 1 ≡ length bs = omega (arith, inside) in
    let here : get_or bs m top ≡ top =
    let there = slice_get-get_or bs m top inside in cc in
    sym (ap (λ n. take n bs) one ∙ take_all (length bs) bs (omega arith))
    ∙ take_more bs m top inside
    ∙ ap (λ b. take m bs ++ b ∷ []) here

-- a block that the word isn't in closes, and names what it stands for
pub closed-over : (v u : Value) (b : code.Block) (o : Open) (rest : List Open)
    (all after : List Anchor) (w : Word) → is_below (head_view o.head) w ≡ false
    → Rises (length all) (b.before ∷ befores (rest ++ o ∷ []))
    → closed_value (done_view b.done) b.line v ≡ Ok u
    → Names (head_view o.head).anchor u b.before all after
    → Rises (length after) (o.block.before ∷ befores rest)
    × (settled (found u []) (bare (block_at after o.block))
    (anchored (take o.block.before after) rest) w
    ≡ settled (found v []) (bare (block_at all b)) (anchored (take b.before all)
    (rest ++ o ∷ [])) w)
closed-over v u b o rest all after w above risen is named =
    grind (arith, befores-push, next-over, settled-closing, anchored-push)

-- whether the innermost block, if there is one, closes at this word
abbrev pub Closing : Option Open → Word → Bool → Type 0
Closing m w b = IfSome m (λ o. b ≡ not (is_below (head_view o.head) w))

closing-true : (b : Bool) → true ≡ not b → b ≡ false
closing-true b h = grind arith

pub closing-false : (b : Bool) → false ≡ not b → b ≡ true
closing-false b h = grind arith

pushed-last : (bs : List Open) (o : Open) (n : ℕ) → n ≡ length bs
    → slice_get (bs ++ o ∷ []) n ≡ Some o
pushed-last [] o zero e = refl
pushed-last [] o (suc n) e = absurd (omega arith)
pushed-last (b ∷ bs) o zero e = absurd (omega arith)
pushed-last (b ∷ bs) o (suc n) e = pushed-last bs o n (omega arith)

-- the block on top closes
pub closes-top : (bs rest : List Open) (o : Open) (w : Word) → bs ≡ rest ++ o ∷ []
    → Closing (slice_get bs (length bs - 1)) w true → is_below (head_view o.head) w ≡ false
closes-top bs rest o w is h =
    let top : slice_get bs (length bs - 1) ≡ Some o =
    subst (λ xs. slice_get xs (length xs - 1) ≡ Some o) (sym is)
    (pushed-last rest o _ (omega (arith, length-append rest (o ∷ [])))) in
    closing-true (is_below (head_view o.head) w) (subst (λ m. Closing m w true) top h)

-- and where there is none, none closes
pub none-closes : (bs : List Open) (w : Word) → length bs ≡ 0
    → Closing (slice_get bs (length bs - 1)) w false
none-closes [] w h = tt
none-closes (b ∷ bs) w h = absurd (omega (arith, h))

-- the block on top closes, and names what it stands for, as the code has it
pub closes-over : (v : Value) (b : code.Block) (o : Open) (bs rest : List Open) (all : List Anchor)
    (r : Result (made.Value × AnchorList) (Fault YamlKind)) (u : made.Value) (kept : AnchorList)
    (around : code.Block) (w : Word) → Closing (slice_get bs (length bs - 1)) w true
    → bs ≡ rest ++ o ∷ [] → Rises (length all) (b.before ∷ befores bs)
    → r ≡ Ok (u, kept) → around ≡ o.block
    → Gives (λ p. value_view p.0) r (closed_value (done_view b.done) b.line v)
    → IfOk r (λ p. Names (head_view o.head).anchor (value_view p.0) b.before all p.1.anchors.items)
    → Rises (length kept.anchors.items) (around.before ∷ befores rest)
    × (settled (found (value_view u) []) (bare (block_at kept.anchors.items around))
    (anchored (take around.before kept.anchors.items) rest) w
    ≡ settled (found v []) (bare (block_at all b)) (anchored (take b.before all) bs) w)
closes-over v b o bs rest all r u kept around w h is risen made here given named =
    let after = kept.anchors.items in
    let all-below = take b.before all in
    let n = value_view u in
    let P : List Open → Type 0 = λ xs. Rises (length after) (o.block.before ∷ befores rest)
    × (settled (found n []) (bare (block_at after o.block))
    (anchored (take o.block.before after) rest) w
    ≡ settled (found v []) (bare (block_at all b)) (anchored all-below xs) w) in
    let Q : code.Block → Type 0 = λ x. Rises (length after) (x.before ∷ befores rest)
    × (settled (found n []) (bare (block_at after x)) (anchored (take x.before after) rest) w
    ≡ settled (found v []) (bare (block_at all b)) (anchored all-below bs) w) in
    subst Q (sym here) (subst P (sym is) (closed-over v n b o rest all after w
    (closes-top bs rest o w is h)
    (subst (λ xs. Rises (length all) (b.before ∷ befores xs)) is risen)
    (subst (λ x. Gives (λ p. value_view p.0) x (closed_value (done_view b.done) b.line v)) made
    given)
    (subst (λ x. IfOk x (λ p. Names (head_view o.head).anchor (value_view p.0) b.before all
    p.1.anchors.items)) made named)))

stays-over : (g : Found Value) (b o : spec.Open) (bs : List spec.Open) (w : Word)
    → is_below o.head w ≡ true → spec.advanced b g (o ∷ bs) w ≡ settled g b (o ∷ bs) w
stays-over g b o bs w e = rw e refl

stays-by : (m : Option Open) (g : Found Value) (b : spec.Open) (all : List Anchor)
    (bs : List Open) (w : Word) → m ≡ slice_get bs (length bs - 1) → Closing m w false
    → spec.advanced b g (anchored all bs) w ≡ settled g b (anchored all bs) w
stays-by None g b all bs w e h =
    let P : List Open → Type 0 =
    λ xs. spec.advanced b g (anchored all xs) w ≡ settled g b (anchored all xs) w in
    subst P (sym (none-last bs e)) refl
stays-by (Some o) g b all bs w e h =
    let rest = take (length bs - 1) bs in
    let P : List spec.Open → Type 0 = λ xs. spec.advanced b g xs w ≡ settled g b xs w in
    subst P (sym (ap (anchored all) (last-whole bs o e) ∙ anchored-push all rest o))
    (stays-over g b (open_at all o) (anchored (take o.block.before all) rest) w
    (closing-false (is_below (head_view o.head) w) h))

-- where the block on top stays, the word goes on with the one above
pub settled-stays : (g : Found Value) (b : spec.Open) (all : List Anchor) (bs : List Open)
    (w : Word) → Closing (slice_get bs (length bs - 1)) w false
    → spec.advanced b g (anchored all bs) w ≡ settled g b (anchored all bs) w
settled-stays g b all bs w h = stays-by (slice_get bs (length bs - 1)) g b all bs w refl h

-- THE FRONT NEEDS NO ANCHORS
map-reverse : (bs : List Open) → reverse (map open_view bs) ≡ map open_view (reverse bs)
map-reverse [] = refl
map-reverse (b ∷ bs) =
    reverse-append (open_view b ∷ []) (map open_view bs)
    ∙ ap (λ xs. xs ++ open_view b ∷ []) (map-reverse bs)
    ∙ sym (ap (map open_view) (reverse-append (b ∷ []) bs)
    ∙ map-append open_view (reverse bs) (b ∷ []))

ends-over : (v : Value) (all : List Anchor) (bs : List Open)
    → ends v (over all bs) ≡ ends v (map open_view bs)
ends-over v all [] = refl
ends-over v all (b ∷ bs) =
    bind_same (closed_value (open_view b).done b.block.line v) _ _
    (λ u. ends-over u (take b.block.before all) bs)

pub ends-anchored : (v : Value) (all : List Anchor) (bs : List Open)
    → ends v (anchored all bs) ≡ ends v (stack_view bs)
ends-anchored v all bs = ends-over v all (reverse bs) ∙ ap (ends v) (sym (map-reverse bs))

front-over : (all : List Anchor) (bs : List Open)
    → front_value (over all bs) ≡ front_value (map open_view bs)
front-over all [] = refl
front-over all (b ∷ bs) = ends-over (own_value (open_view b)) all (b ∷ bs)

pub front-anchored : (all : List Anchor) (bs : List Open)
    → front_value (anchored all bs) ≡ front_value (stack_view bs)
front-anchored all bs = front-over all (reverse bs) ∙ ap front_value (sym (map-reverse bs))

pub checked-anchored : (all : List Anchor) (bs : List Open)
    → checked_front (anchored all bs) ≡ checked_front (stack_view bs)
checked-anchored all bs = ap (λ m. m >>= within_limits) (front-anchored all bs)

seen-over : (f : Shown) (n : ℕ) (all : List Anchor) (bs : List Open)
    → seen f n (over all bs) ≡ seen f n (map open_view bs)
seen-over f n all [] = refl
seen-over f n all (b ∷ bs) =
    seen-over (passed (open_view b).done n f) (deepened (open_view b).done f n)
    (take b.block.before all) bs

sight-over : (all : List Anchor) (bs : List Open) → sight (over all bs) ≡ sight (map open_view bs)
sight-over all [] = refl
sight-over all (b ∷ bs) = grind (arith, seen-over)

pub keeps-anchored : (all : List Anchor) (bs : List Open) → KeepsDepth (anchored all bs)
    → KeepsDepth (stack_view bs)
keeps-anchored all bs k = grind (arith, front-anchored, sight-over, map-reverse)
