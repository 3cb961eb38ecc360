-- Of two anchors with one name the later one serves, whether the earlier one is kept or not.
use Rattle.std.proofs.Common.{◌≡◌, ℕ, Bool, List, [], ◌∷◌, ◌++◌, Some, None, Ok, Err}
use Rattle.std.proofs.Common.{refl}
use Rattle.std.proofs.Common.{sym, ap, ◌∙◌, subst, append-nil, arith, rules}
use Rattle.std.specs.Prelude.{if◌then◌else◌}
use Rattle.rvs_tree.specs.Value.{Value, scalar_value}
use Rattle.rvs_yaml_text.specs.Word.{Name, Word, is_below}
use Rattle.rvs_yaml_text.specs.Word.{opens_block, head_of}
use Rattle.rvs_yaml.specs.Checks.{Checked, ◌>>=◌, ◌>>◌, check}
use Rattle.rvs_yaml.specs.Anchors.{Anchors}
use Rattle.rvs_yaml.specs.Stack.{has_anchor}
use Rattle.rvs_yaml.specs.Block.{Found, found, named, own_value}
use Rattle.rvs_yaml.specs.Block.{tree_of}
use Rattle.rvs_yaml.specs.Stack.{Done, alone, Open, begun_done, begun}
use Rattle.rvs_yaml.specs.Stack.{known_of, begins, noted, closed_as, closed}
use Rattle.rvs_yaml.specs.Stack.{advanced_as, put, advanced, settled, step, steps}
use Rattle.rvs_yaml.specs.StepParts.{closed_value}
use Rattle.rvs_yaml.specs.Front.{ends, front_value}
use Rattle.rvs_yaml_text.specs.declared.kind.YamlKind.TheVariants.{Unsupported}
use Rattle.rvs_yaml.proofs.InOrder as exact
use Rattle.rvs_yaml.proofs.Alike.{Alike, alike-append, alike-noted, own-alike}
use Rattle.rvs_yaml.proofs.Outlined.{bind_same, tree_of-steps}
use Rattle.rvs_yaml.proofs.Fronts.{finished-front}

-- a block with other anchors
abbrev holding : Open → Anchors → Open
holding b anchors = record {
  line = b.line;
  column = b.column;
  done = b.done;
  anchors = anchors;
  head = b.head;
  own = b.own;
}

-- a leaf has no anchor before it
abbrev IsBare : Done → Anchors → Type 0
IsBare alone anchors = anchors ≡ []
IsBare _ anchors = Unit {0}

abbrev redone : List Open → List Anchors → List Open
redone [] more = []
redone (b ∷ bs) [] = b ∷ bs
redone (b ∷ bs) (a ∷ more) = holding b a ∷ redone bs more

-- the stacks name the same values
abbrev Match : List Open → List Anchors → Type 0
Match [] more = Unit {0}
Match (b ∷ bs) [] = ⊥
Match (b ∷ bs) (a ∷ more) = Alike b.anchors a × IsBare b.done a × Match bs more

abbrev Related : Checked (List Open) → Checked (List Open) → Type 0
Related (Ok bs) n = (more : List Anchors) × (n ≡ Ok (redone bs more)) × Match bs more
Related (Err kind) n = n ≡ Err kind

abbrev RelatedFound : Checked (Found Value) → Checked (Found Value) → Type 0
RelatedFound (Ok g) n = (a : Anchors) × (n ≡ Ok (found g.value a)) × Alike g.anchors a
RelatedFound (Err kind) n = n ≡ Err kind

alike-same : (a : Anchors) → Alike a a
alike-same a = λ k. refl

bare-none : (d : Done) → IsBare d []
bare-none d = grind arith

known-alike : (bs : List Open) (more : List Anchors) → Match bs more
    → Alike (known_of bs) (known_of (redone bs more))
known-alike [] more m = alike-same []
known-alike (b ∷ bs) [] m = absurd m
known-alike (b ∷ bs) (a ∷ more) m = grind (arith, alike-append, (known-alike bs more m.2))

opened-related : (m n : Checked Value) (f g : Value → List Open) → n ≡ m
    → ((v : Value) → (more : List Anchors) × (g v ≡ redone (f v) more) × Match (f v) more)
    → Related (m >>= λ v. Ok (f v)) (n >>= λ v. Ok (g v))
opened-related (Ok v) n f g e h =
    let (more, is, match) = h v in
    (more, ap (λ r. r >>= λ v. let q : Checked (List Open) = Ok (g v) in q) e ∙ ap Ok is, match)
opened-related (Err kind) n f g e h = grind arith

begins-related : (bs : List Open) (more : List Anchors) (w : Word) → Match bs more
    → Related (begins bs w) (begins (redone bs more) w)
begins-related bs more w m =
    opened-related (own_value (known_of bs) w.line w.shape)
    (own_value (known_of (redone bs more)) w.line w.shape) (λ own. begun w own ∷ bs)
    (λ own. begun w own ∷ redone bs more)
    (sym (own-alike (known_of bs) (known_of (redone bs more)) (known-alike bs more m) w.line
    w.shape))
    (λ own. ([] ∷ more, refl, (alike-same [], bare-none (begun_done w.shape), m)))

abbrev opened : ℕ → ℕ → Done → Anchors → Word → Value → Open
opened line column d anchors w own = record {
  line = line;
  column = column;
  done = d;
  anchors = anchors;
  head = head_of w;
  own = own;
}

put-related : (line column : ℕ) (d : Done) (a c : Anchors) (bs : List Open) (more : List Anchors)
    (w : Word) → Alike a c → IsBare d c → Match bs more
    → Related (put line column d a bs w) (put line column d c (redone bs more) w)
put-related line column d a c bs more w h b m =
    opened-related (own_value (a ++ known_of bs) w.line w.shape)
    (own_value (c ++ known_of (redone bs more)) w.line w.shape)
    (λ own. opened line column d a w own ∷ bs)
    (λ own. opened line column d c w own ∷ redone bs more)
    (sym (own-alike (a ++ known_of bs) (c ++ known_of (redone bs more))
    (alike-append a (known_of bs) c (known_of (redone bs more)) h (known-alike bs more m)) w.line
    w.shape))
    (λ own. (c ∷ more, refl, (h, b, m)))

-- no block becomes a leaf
advanced-bare : (d : Done) (column : ℕ) (v : Value) (w : Word) (e : Done) (c : Anchors)
    → advanced_as d column v w ≡ Ok e → IsBare e c
advanced-bare d column v w e c h = grind arith

done-related : (m : Checked Done) (f g : Done → Checked (List Open))
    → ((d : Done) → m ≡ Ok d → Related (f d) (g d)) → Related (m >>= f) (m >>= g)
done-related m f g h = grind arith

advanced-related : (b : Open) (f : Anchors) (g : Found Value) (a : Anchors) (bs : List Open)
    (more : List Anchors) (w : Word) → Alike b.anchors f → Alike g.anchors a → Match bs more
    → Related (advanced b g bs w) (advanced (holding b f) (found g.value a) (redone bs more) w)
advanced-related b f g a bs more w h i m =
    grind (arith, done-related, put-related, alike-append, advanced-bare)

merged-related : (m : Checked (Unit {0})) (g : Found Value) (a : Anchors) → Alike g.anchors a
    → RelatedFound (m >> Ok g) (m >> Ok (found g.value a))
merged-related m g a h = grind arith

closed-by : (d : Done) (line : ℕ) (b f : Anchors) (g : Found Value) (a : Anchors) → Alike b f
    → IsBare d f → Alike g.anchors a
    → RelatedFound (exact.closed_as d line b g) (closed_as d line f (found g.value a))
closed-by d line b f g a h e i = search (rules, alike-append, merged-related, append-nil)

noted-value : (t : Bool) (n : List ℕ) (v : Value) (a : Anchors)
    → (if t then found v a else found v ((n, v) ∷ a))
    ≡ found v (if t then found v a else found v ((n, v) ∷ a)).anchors
noted-value t n v a = grind arith

noted-related : (name : Name) (g : Found Value) (a : Anchors) → Alike g.anchors a
    → RelatedFound (Ok (named name g)) (Ok (noted name (found g.value a)))
noted-related None g a h = (a, refl, h)
noted-related (Some n) g a h = (
  (noted (Some n) (found g.value a)).anchors,
  ap Ok (noted-value (has_anchor n a) n g.value a),
  alike-noted n g.value g.anchors a h,
)

named-related : (name : Name) (m n : Checked (Found Value)) → RelatedFound m n
    → RelatedFound (m >>= λ h. Ok (named name h)) (n >>= λ h. Ok (noted name h))
named-related name m n e = search (rules, noted-related)

found-related : (m n : Checked (Found Value)) (f g : Found Value → Checked (List Open))
    → RelatedFound m n
    → ((h : Found Value) (a : Anchors) → Alike h.anchors a → Related (f h) (g (found h.value a)))
    → Related (m >>= f) (n >>= g)
found-related m n f g e next = grind arith

either-related : (t : Bool) (m n p q : Checked (List Open)) → Related m p → Related n q
    → Related (if t then m else n) (if t then p else q)
either-related t m n p q h i = grind arith

settled-related : (bs : List Open) (more : List Anchors) (b : Open) (f : Anchors)
    (g : Found Value) (a : Anchors) (w : Word) → Match bs more → Alike b.anchors f
    → IsBare b.done f → Alike g.anchors a → Related (exact.settled g b bs w)
    (settled (found g.value a) (holding b f) (redone bs more) w)
settled-related [] more b f g a w m h e i = advanced-related b f g a [] more w h i m
settled-related (o ∷ bs) [] b f g a w m h e i = absurd m
settled-related (o ∷ bs) (p ∷ more) b f g a w m h e i =
    either-related (is_below o.head w) _ _ _ _
    (advanced-related b f g a (o ∷ bs) (p ∷ more) w h i m)
    (found-related _ _ _ _ (named-related o.head.anchor (exact.closed b g)
    (closed (holding b f) (found g.value a)) (closed-by b.done b.line b.anchors f g a h e i))
    (λ k c j. settled-related bs more o p k c w m.2 m.0 m.1 j))

own-related : (name : Name) (v : Value)
    → (a : Anchors) × (noted name (found v []) ≡ found (named name (found v [])).value a)
    × Alike (named name (found v [])).anchors a
own-related None v = ([], refl, alike-same [])
own-related (Some n) v = ((n, v) ∷ [], refl, alike-same ((n, v) ∷ []))

then-related : (c : Checked (Unit {0})) (m n : Checked (List Open)) → Related m n
    → Related (c >> m) (c >> n)
then-related c m n h = grind arith

step-related : (bs : List Open) (more : List Anchors) (w : Word) → Match bs more
    → Related (exact.step bs w) (step (redone bs more) w)
step-related [] more w m = begins-related [] more w m
step-related (b ∷ bs) [] w m = absurd m
step-related (b ∷ bs) (f ∷ more) w m =
    let v = if opens_block b.head.sort then scalar_value [] b.head.line else b.own in
    let (a, is, i) = own-related b.head.anchor v in
    either-related (is_below b.head w) _ _ _ _
    (then-related (check (opens_block b.head.sort) Unsupported) _ _
    (begins-related (b ∷ bs) (f ∷ more) w m))
    (subst (λ g. Related (exact.settled (exact.own_found b) b bs w)
    (settled g (holding b f) (redone bs more) w)) (sym is)
    (settled-related bs more b f (exact.own_found b) a w m.2 m.0 m.1 i))

steps-related : (ws : List Word) (bs : List Open) (more : List Anchors) → Match bs more
    → Related (exact.steps bs ws) (steps (redone bs more) ws)
steps-related [] bs more m = (more, refl, m)
steps-related (w ∷ ws) bs more m =
    next-related (exact.step bs w) (step (redone bs more) w) ws (step-related bs more w m)
    (λ cs rest i. steps-related ws cs rest i)
  where
    next-related : (m n : Checked (List Open)) (ws : List Word) → Related m n
        → ((cs : List Open) (more : List Anchors) → Match cs more
        → Related (exact.steps cs ws) (steps (redone cs more) ws))
        → Related (m >>= λ cs. exact.steps cs ws) (n >>= λ cs. steps cs ws)
    next-related (Ok cs) n ws (rest, is, i) next =
        subst (λ r. Related (exact.steps cs ws) (r >>= λ ds. steps ds ws)) (sym is) (next cs rest i)
    next-related (Err kind) n ws e next = ap (λ r. r >>= λ ds. steps ds ws) e

-- the front needs no anchors
ends-redone : (v : Value) (bs : List Open) (more : List Anchors)
    → ends v (redone bs more) ≡ ends v bs
ends-redone v [] more = refl
ends-redone v (b ∷ bs) [] = refl
ends-redone v (b ∷ bs) (a ∷ more) =
    bind_same (closed_value b.done b.line v) _ _ (λ u. ends-redone u bs more)

front-redone : (bs : List Open) (more : List Anchors)
    → front_value (redone bs more) ≡ front_value bs
front-redone bs more = search (rules, ends-redone)

front-related : (m n : Checked (List Open)) → Related m n
    → (m >>= front_value) ≡ (n >>= front_value)
front-related m n e = search (rules, front-redone)

-- THE LAW: the tree of the words is the value of the open blocks behind them
pub tree-front : (ws : List Word) → tree_of ws ≡ (steps [] ws >>= front_value)
tree-front ws =
    tree_of-steps ws
    ∙ bind_same (exact.steps [] ws) _ _ finished-front
    ∙ front-related (exact.steps [] ws) (steps [] ws) (steps-related ws [] [] tt)
