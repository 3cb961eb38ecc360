-- What was not too deep before a line is not too deep behind it, save for what the line's last word
-- has brought.
use Rattle.std.proofs.lemmas.Bool.Decides.{nat_tests}
use Rattle.std.proofs.Common.{◌≡◌, ℕ, suc, ◌+◌, ◌-◌, ◌≤◌, max, Bool, true, false, cond, List, []}
use Rattle.std.proofs.Common.{◌∷◌, ◌++◌, Ok, refl, sym, ap, ◌∙◌, subst, arith, rules}
use Rattle.std.specs.Prelude.{◌||◌, not}
use Rattle.rvs_tree.specs.Data.{Data, depth}
use Rattle.rvs_tree.specs.Value.{Value, Written, scalar_value, list_value, map_value, has_key}
use Rattle.rvs_tree.specs.Value.{explicit_keys, resolved, keys_of, pairs_in, merged_pairs, trees}
use Rattle.rvs_tree.specs.Shown.{Shown, shown_by, at_key, keys_so_far, left_by}
use Rattle.rvs_tree.proofs.Sums.{merged_shallower}
use Rattle.rvs_tree.proofs.Growing.{sift-less}
use Rattle.rvs_tree.proofs.Depths.{some-depth}
use Rattle.rvs_tree.proofs.Within.{Within, Fits, within-new, within-list, within-item, within-entry}
use Rattle.rvs_tree.proofs.Within.{within-merge, within-merge-more, within-own-more}
use Rattle.rvs_yaml_text.specs.Word.{Key, Name, Shape, dash, key, leaf, refused, Word, Head}
use Rattle.rvs_yaml_text.specs.Word.{head_of, is_below, opens_block}
use Rattle.rvs_yaml.specs.Checks.{Checked, ◌>>=◌, ◌>>◌, check}
use Rattle.rvs_yaml.specs.Anchors.{Anchors}
use Rattle.rvs_yaml.specs.Entry.{written}
use Rattle.rvs_yaml.specs.Parsed.{within_limits}
use Rattle.rvs_yaml.specs.Block.{Found, key_at, check_merge}
use Rattle.rvs_yaml.specs.Block as block_spec
use Rattle.rvs_yaml.specs.Stack.{Done, done_items, done_entries, alone, Open, begun_done, begun}
use Rattle.rvs_yaml.specs.Stack.{begins, own_found, closed_into, advanced_as, put, advanced}
use Rattle.rvs_yaml.specs.Stack.{settled, step, steps, known_of}
use Rattle.rvs_yaml.specs.StepParts.{closed_value}
use Rattle.rvs_yaml.specs.Front.{own_value, ends, front_value, checked_front}
use Rattle.rvs_yaml.specs.Reach.{level, levels, reach, passed, deepened, seen, sight, KeepsDepth}
use Rattle.rvs_yaml.proofs.Fronts.{own-value}
use Rattle.rvs_yaml_text.specs.declared.kind.YamlKind.TheVariants.{Unsupported}

-- checks that hold
gone : {A B : Type 0} (c : Checked (Unit {0})) (r : Checked A) (f : A → Checked B) (y : B)
    → ((c >> r) >>= f) ≡ Ok y → (c ≡ Ok tt) × ((r >>= f) ≡ Ok y)
gone h = grind arith

pub then-ok : {B : Type 0} (c : Checked (Unit {0})) (r : Checked B) (y : B) → (c >> r) ≡ Ok y
    → (c ≡ Ok tt) × (r ≡ Ok y)
then-ok h = grind arith

pub record Has {A B : Type 0} (m : Checked A) (f : A → Checked B) (y : B) : Type 0 where
  pub value : A
  pub is : m ≡ Ok value
  pub rest : f value ≡ Ok y

pub bind-ok : {A B : Type 0} (m : Checked A) (f : A → Checked B) (y : B) → (m >>= f) ≡ Ok y
    → Has m f y
bind-ok h = grind arith

-- IN AN OPEN BLOCK
entry-by : (m : Bool) (f : Shown) (n line : ℕ) (ws : List Written) (k : Key) (u v : Value)
    → k.merges ≡ m → Within f n u.tree v.tree →
    Within (λ T. cond m (left_by ws f T) (at_key k.name n T))
    (cond m (suc (f (keys_so_far ws))) (suc n)) (map_value line (ws ++ written k u ∷ [])).tree
    (map_value line (ws ++ written k v ∷ [])).tree
entry-by true f n line ws k u v e h = within-merge f n line ws (written k u) (written k v) e e h
entry-by false f n line ws k u v e h = search (rules, within-entry)

abbrev Next : List Open → Value → Value → Type 0
Next bs a b = (f : Shown) (m : ℕ) (x y : Value) → Within f m x.tree y.tree → ends x bs ≡ Ok a
    → ends y bs ≡ Ok b → depth b.tree ≤ max (depth a.tree) (seen f m bs)

closed-within : (d : Done) (line : ℕ) (f : Shown) (n : ℕ) (u v : Value) (bs : List Open)
    (a b : Value) → Within f n u.tree v.tree → (closed_value d line u >>= λ w. ends w bs) ≡ Ok a
    → (closed_value d line v >>= λ w. ends w bs) ≡ Ok b → Next bs a b
    → depth b.tree ≤ max (depth a.tree) (seen (passed d n f) (deepened d f n) bs)
closed-within (done_items vs) line f n u v bs a b h e g next =
    next (passed (done_items vs) n f) (suc n) (list_value line (vs ++ u ∷ []))
    (list_value line (vs ++ v ∷ [])) (within-list f n line vs u v h) e g
closed-within (done_entries ws k) line f n u v bs a b h e g next =
    let first = gone (check_merge k u) (Ok (map_value line (ws ++ written k u ∷ [])))
    (λ w. ends w bs) a e in
    let second = gone (check_merge k v) (Ok (map_value line (ws ++ written k v ∷ [])))
    (λ w. ends w bs) b g in
    next (passed (done_entries ws k) n f) (deepened (done_entries ws k) f n)
    (map_value line (ws ++ written k u ∷ [])) (map_value line (ws ++ written k v ∷ []))
    (entry-by k.merges f n line ws k u v refl h) first.1 second.1
closed-within alone line f n u v bs a b h e g next = next f n u v h e g

same-ok : (u a : Value) → (let r : Checked Value = Ok u in r) ≡ Ok a → u ≡ a
same-ok u a e = cc

ends-within : (bs : List Open) (f : Shown) (n : ℕ) (u v a b : Value) → Within f n u.tree v.tree
    → ends u bs ≡ Ok a → ends v bs ≡ Ok b → depth b.tree ≤ max (depth a.tree) (seen f n bs)
ends-within [] f n u v a b h e g = grind (arith, same-ok)
ends-within (o ∷ bs) f n u v a b h e g =
    closed-within o.done o.line f n u v bs a b h e g
    (λ i m x y j k l. ends-within bs i m x y a b j k l)

-- Whatever stands in the open member of the block on top: nothing else is deeper than it was.
abbrev pub Grown : Value → List Open → Type 0
Grown v cs = (x : Value) (f : Shown) (n : ℕ) (u : Value) → Fits f n x.tree → ends x cs ≡ Ok u
    → depth u.tree ≤ max (depth v.tree) (seen f n cs)

abbrev opened : ℕ → ℕ → Done → Anchors → Word → Value → Open
opened line column d anchors w own = record {
  line = line;
  column = column;
  done = d;
  anchors = anchors;
  head = head_of w;
  own = own;
}

-- what a step gives
pub record Stepped (v : Value) (w : Word) (cs : List Open) : Type 0 where
  pub top : Open
  pub rest : List Open
  pub is : cs ≡ top ∷ rest
  pub head : top.head ≡ head_of w
  pub grown : Grown v (top ∷ rest)

-- A BLOCK THAT GOES ON
item-grown : (line : ℕ) (f : Shown) (n : ℕ) (vs : List Value) (g v x u : Value) (rest : List Open)
    → ends (list_value line (vs ++ g ∷ [])) rest ≡ Ok v → Fits f n x.tree
    → ends (list_value line ((vs ++ g ∷ []) ++ x ∷ [])) rest ≡ Ok u →
    depth u.tree ≤ max (depth v.tree) (seen (passed (done_items (vs ++ g ∷ [])) n f) (suc n) rest)
item-grown line f n vs g v x u rest e small h =
    ends-within rest (passed (done_items (vs ++ g ∷ [])) n f) (suc n)
    (list_value line (vs ++ g ∷ [])) (list_value line ((vs ++ g ∷ []) ++ x ∷ [])) v u
    (within-item f n line (vs ++ g ∷ []) x small) e h

more-by : (m : Bool) (line : ℕ) (f : Shown) (n : ℕ) (ws : List Written) (l : Key) (v x u : Value)
    (rest : List Open) → l.merges ≡ m → (m ≡ false → has_key l.name (explicit_keys ws) ≡ false)
    → Fits f n x.tree → ends (map_value line ws) rest ≡ Ok v
    → ends (map_value line (ws ++ written l x ∷ [])) rest ≡ Ok u
    → depth u.tree ≤ max (depth v.tree)
    (seen (λ T. cond m (left_by ws f T) (at_key l.name n T))
    (cond m (suc (f (keys_so_far ws))) (suc n)) rest)
more-by true line f n ws l v x u rest e new small g h =
    ends-within rest (left_by ws f) (suc (f (keys_so_far ws))) (map_value line ws)
    (map_value line (ws ++ written l x ∷ [])) v u
    (within-merge-more f n line ws (written l x) e small) g h
more-by false line f n ws l v x u rest e new small g h =
    search (rules, ends-within, within-own-more)

new-by : (m h : Bool) → (m || not h) ≡ true → m ≡ false → h ≡ false
new-by m h e f = grind arith

same-done : (d e : Done) → (let r : Checked Done = Ok d in r) ≡ Ok e → d ≡ e
same-done d e h = cc

same-stack : (bs cs : List Open) → (let r : Checked (List Open) = Ok bs in r) ≡ Ok cs → bs ≡ cs
same-stack bs cs h = cc

-- the key of a word that is the next entry is new, or merges
next-key : (column : ℕ) (seen : List (List ℕ)) (at : ℕ) (s : Shape) (l : Key)
    → key_at column seen at s ≡ Ok l → l.merges ≡ false → has_key l.name seen ≡ false
next-key column seen at s l h e = grind arith

done-grown : (d : Done) (line column : ℕ) (g v : Value) (w : Word) (e : Done) (top : Open)
    (rest : List Open) → top.done ≡ e → top.line ≡ line →
    (closed_value d line g >>= λ y. ends y rest) ≡ Ok v → advanced_as d column g w ≡ Ok e
    → Grown v (top ∷ rest)
done-grown (done_items vs) line column g v w e top rest is at f h x q n u small k =
    grind (arith, then-ok, same-done, item-grown)
done-grown (done_entries ws j) line column g v w e top rest is at f h x q n u small k =
    let parts = then-ok (check_merge j g) _ e h in
    let us = ws ++ written j g ∷ [] in
    let next = bind-ok (key_at column (explicit_keys us) w.column w.shape) _ e parts.1 in
    let l = next.value in
    let same : done_entries us l ≡ e = same-done _ _ next.rest in
    let here : top.done ≡ done_entries us l = is ∙ sym same in
    let there = subst (λ dn. (closed_value dn top.line x >>= λ y. ends y rest) ≡ Ok u) here k in
    let line-there =
    subst (λ m. (closed_value (done_entries us l) m x >>= λ y. ends y rest) ≡ Ok u) at there in
    let good = gone (check_merge l x) (Ok (map_value line (us ++ written l x ∷ [])))
    (λ y. ends y rest) u line-there in
    let before = gone (check_merge j g) (Ok (map_value line us)) (λ y. ends y rest) v f in
    let bound = more-by l.merges line q n us l v x u rest refl
    (next-key column (explicit_keys us) w.column w.shape l next.is) small before.1 good.1 in
    omega (arith, bound, ap (λ d. seen (passed d n q) (deepened d q n) rest) here)
done-grown alone line column g v w e top rest is at f h x q n u small k = cc

advanced-stepped : (b : Open) (g : Found Value) (v : Value) (bs : List Open) (w : Word)
    (cs : List Open) → ends g.value (b ∷ bs) ≡ Ok v → advanced b g bs w ≡ Ok cs → Stepped v w cs
advanced-stepped b g v bs w cs e h =
    let anchors = g.anchors ++ b.anchors in
    let a = bind-ok (advanced_as b.done b.column g.value w)
    (λ d. put b.line b.column d anchors bs w) cs h in
    let o = bind-ok (block_spec.own_value (anchors ++ known_of bs) w.line w.shape) (λ own.
    let r : Checked (List Open) = Ok (opened b.line b.column a.value anchors w own ∷ bs) in r)
    cs a.rest in
    let top = opened b.line b.column a.value anchors w o.value in
    record {
      top = top;
      rest = bs;
      is = sym (same-stack _ _ o.rest);
      head = refl;
      grown = done-grown b.done b.line b.column g.value v w a.value top bs refl refl e a.is;
    }

-- the value of a block that closes is the open member of the block around it
closes-same : (b : Open) (g : Found Value) (name : Name) (k : Found Value) (v : Value)
    (bs : List Open) → closed_into b g name ≡ Ok k → ends g.value (b ∷ bs) ≡ Ok v → ends k.value bs
    ≡ Ok v
closes-same b g name k v bs c e = grind (arith, nat_tests)

settled-by : (t : Bool) (b outer : Open) (g : Found Value) (v : Value) (bs : List Open) (w : Word)
    (cs : List Open) → ends g.value (b ∷ outer ∷ bs) ≡ Ok v →
    cond t (advanced b g (outer ∷ bs) w)
    (closed_into b g outer.head.anchor >>= λ k. settled k outer bs w) ≡ Ok cs →
    ((k : Found Value) → ends k.value (outer ∷ bs) ≡ Ok v → settled k outer bs w ≡ Ok cs
    → Stepped v w cs) → Stepped v w cs
settled-by true b outer g v bs w cs e h next = advanced-stepped b g v (outer ∷ bs) w cs e h
settled-by false b outer g v bs w cs e h next = grind (arith, bind-ok, closes-same)

settled-stepped : (bs : List Open) (b : Open) (g : Found Value) (v : Value) (w : Word)
    (cs : List Open) → ends g.value (b ∷ bs) ≡ Ok v → settled g b bs w ≡ Ok cs → Stepped v w cs
settled-stepped [] b g v w cs e h = advanced-stepped b g v [] w cs e h
settled-stepped (outer ∷ bs) b g v w cs e h = settled-by (is_below outer.head w) b outer g v bs w cs
    e h (λ k i j. settled-stepped bs outer k v w cs i j)

fits-over : (f : Shown) (n : ℕ) (d e : Data) → depth d ≤ 1 → merged_pairs d ≡ []
    → Within f (suc n) d e → Fits f (suc n) e
fits-over f n d e small none h = grind arith

begun-map : (m : Bool) (line : ℕ) (f : Shown) (n : ℕ) (k : Key) (x : Value) → k.merges ≡ m
    → Fits f n x.tree → Fits (λ T. cond m (left_by [] f T) (at_key k.name n T))
    (cond m (suc (f (keys_so_far []))) (suc n)) (map_value line (written k x ∷ [])).tree
begun-map true line f n k x e small =
    fits-over (left_by [] f) (f (keys_so_far [])) (map_value line []).tree _ (omega arith) refl
    (within-merge-more f n line [] (written k x) e small)
begun-map false line f n k x e small = grind (arith, fits-over, within-own-more)

fits-same : (f : Shown) (n : ℕ) (x y : Value) → x ≡ y → Fits f n x.tree → Fits f n y.tree
fits-same f n x y e h = subst (λ (z : Value). Fits f n z.tree) e h

begun-fits : (s : Shape) (line : ℕ) (f : Shown) (n : ℕ) (x y : Value)
    → closed_value (begun_done s) line x ≡ Ok y → Fits f n x.tree
    → Fits (passed (begun_done s) n f) (deepened (begun_done s) f n) y.tree
begun-fits (dash a) line f n x y h small =
    search (rules, fits-same, same-ok, fits-over, within-item)
begun-fits (key k a content) line f n x y h small =
    let parts = then-ok (check_merge k x) _ y h in
    fits-same (passed (done_entries [] k) n f) (deepened (done_entries [] k) f n)
    (map_value line (written k x ∷ [])) y (same-ok _ y parts.1)
    (begun-map k.merges line f n k x refl small)
begun-fits (leaf content) line f n x y h small = fits-same f n x y (same-ok x y h) small
begun-fits (refused kind) line f n x y h small = fits-same f n x y (same-ok x y h) small

below-grown : (w : Word) (own v z : Value) (bs : List Open) → ends z bs ≡ Ok v
    → Grown v (begun w own ∷ bs)
below-grown w own v z bs e x f n u small k =
    let y = bind-ok (closed_value (begun_done w.shape) w.line x) (λ q. ends q bs) u k in
    let g = passed (begun_done w.shape) n f in
    let m = deepened (begun_done w.shape) f n in
    ends-within bs g m z y.value v u
    (within-new g m z.tree y.value.tree (begun-fits w.shape w.line f n x y.value y.is small))
    e y.rest

below-stepped : (bs : List Open) (v z : Value) (w : Word) (cs : List Open) → ends z bs ≡ Ok v
    → begins bs w ≡ Ok cs → Stepped v w cs
below-stepped bs v z w cs e h = grind (arith, bind-ok, same-stack, below-grown)

step-by : (t : Bool) (b : Open) (bs : List Open) (v : Value) (w : Word) (cs : List Open)
    → front_value (b ∷ bs) ≡ Ok v →
    cond t (check (opens_block b.head.sort) Unsupported >> begins (b ∷ bs) w)
    (settled (own_found b) b bs w) ≡ Ok cs → Stepped v w cs
step-by true b bs v w cs e h = below-stepped (b ∷ bs) v (own_value b) w cs e
    (then-ok (check (opens_block b.head.sort) Unsupported) _ cs h).1
step-by false b bs v w cs e h = grind (arith, settled-stepped, own-value)

step-stepped : (bs : List Open) (v : Value) (w : Word) (cs : List Open) → front_value bs ≡ Ok v
    → step bs w ≡ Ok cs → Stepped v w cs
step-stepped [] v w cs e h = below-stepped [] v (scalar_value [] 1) w cs e h
step-stepped (b ∷ bs) v w cs e h = step-by (is_below b.head w) b bs v w cs e h

-- LATER WORDS OF A LINE
-- each word, where it is read, is below the one before it
abbrev pub Below : Head → Word → Type 0
Below h w = (bs : List Open) (b : Open) (cs : List Open) → b.head ≡ h → step (b ∷ bs) w ≡ Ok cs
    → is_below h w ≡ true

abbrev pub Follows : Head → List Word → Type 0
Follows h [] = Unit {0}
Follows h (w ∷ ws) = Below h w × Follows (head_of w) ws

abbrev pub Lined : List Word → Type 0
Lined [] = Unit {0}
Lined (w ∷ ws) = Follows (head_of w) ws

record Ended (cs : List Open) (u : Value) (b : Open) (bs : List Open) : Type 0 where
  value : Value
  shown : Shown
  bound : ℕ
  fits : Fits shown bound value.tree
  is : ends value (b ∷ bs) ≡ Ok u
  reached : seen shown bound (b ∷ bs) ≤ sight cs

step-below : (t : Bool) (b : Open) (bs : List Open) (w : Word) (cs : List Open) → t ≡ true →
    cond t (check (opens_block b.head.sort) Unsupported >> begins (b ∷ bs) w)
    (settled (own_found b) b bs w) ≡ Ok cs → begins (b ∷ bs) w ≡ Ok cs
step-below t b bs w cs e h = grind arith

ended-over : (cs : List Open) (u own : Value) (w : Word) (b : Open) (bs : List Open)
    → Ended cs u (begun w own) (b ∷ bs) → Ended cs u b bs
ended-over cs u own w b bs r =
    let y =
    bind-ok (closed_value (begun_done w.shape) w.line r.value) (λ q. ends q (b ∷ bs)) u r.is in
    record {
      value = y.value;
      shown = passed (begun_done w.shape) r.bound r.shown;
      bound = deepened (begun_done w.shape) r.shown r.bound;
      fits = begun-fits w.shape w.line r.shown r.bound r.value y.value y.is r.fits;
      is = y.rest;
      reached = omega (arith, r.reached);
    }

ended : (ws : List Word) (b : Open) (bs cs : List Open) (u : Value) → Follows b.head ws
    → steps (b ∷ bs) ws ≡ Ok cs → front_value cs ≡ Ok u → Ended cs u b bs
ended [] b bs cs u f h e =
    let same = same-stack (b ∷ bs) cs h in
    record {
      value = own_value b;
      shown = shown_by (own_value b).tree;
      bound = depth (own_value b).tree;
      fits = record { deep = omega arith; merged = λ T. omega arith };
      is = ap front_value same ∙ e;
      reached = omega (arith, ap sight same);
    }
ended (w ∷ ws) b bs cs u f h e =
    let s = bind-ok (step (b ∷ bs) w) (λ ds. steps ds ws) cs h in
    let begun-here =
    step-below (is_below b.head w) b bs w s.value (f.0 bs b s.value refl s.is) s.is in
    let o = bind-ok (block_spec.own_value (known_of (b ∷ bs)) w.line w.shape)
    (λ own. let r : Checked (List Open) = Ok (begun w own ∷ b ∷ bs) in r) s.value begun-here in
    let next = ap (λ ds. steps ds ws) (same-stack _ _ o.rest) ∙ s.rest in
    ended-over cs u o.value w b bs (ended ws (begun w o.value) (b ∷ bs) cs u f.1 next e)

record Shallow (m : Checked Value) : Type 0 where
  value : Value
  is : m ≡ Ok value
  small : depth value.tree ≤ 32

shallow : (m : Checked Value) → (m >>= within_limits) ≡ Ok tt → Shallow m
shallow m h = grind arith

pub words-kept : (ws : List Word) (bs cs : List Open) → Lined ws → checked_front bs ≡ Ok tt
    → steps bs ws ≡ Ok cs → KeepsDepth cs
words-kept [] bs cs f k h u e = grind (arith, shallow, same-ok, same-stack)
words-kept (w ∷ ws) bs cs f k h u e =
    let v = shallow (front_value bs) k in
    let s = bind-ok (step bs w) (λ ds. steps ds ws) cs h in
    let t = step-stepped bs v.value w s.value v.is s.is in
    let r = ended ws t.top t.rest cs u (subst (λ x. Follows x ws) (sym t.head) f)
    (ap (λ ds. steps ds ws) (sym t.is) ∙ s.rest) e in
    omega (arith, v.small, t.grown r.value r.shown r.bound u r.fits r.is, r.reached)

-- THE BOUND WITHOUT A LOOK AT KEYS
at-less : (b : Bool) (n c : ℕ) → n ≤ c → cond b 0 n ≤ c
at-less b n c h = grind arith

seen-by : (m : Bool) (f : Shown) (n c : ℕ) (ws : List Written) (k : Key) (bs : List Open)
    → ((T : List (List ℕ)) → f T ≤ c) → n ≤ suc c
    → ((g : Shown) (p d : ℕ) → ((T : List (List ℕ)) → g T ≤ d) → p ≤ suc d
    → seen g p bs ≤ suc d + levels bs)
    → seen (λ T. cond m (left_by ws f T) (at_key k.name n T))
    (cond m (suc (f (keys_so_far ws))) (suc n)) bs ≤ suc c + (cond m 0 1 + levels bs)
seen-by true f n c ws k bs h e next =
    omega (
      arith,
      next (left_by ws f) (suc (f (keys_so_far ws))) c
          (λ T. h ((keys_of (resolved (explicit_keys ws) [] ws) ++ T) ++ keys_so_far ws))
          (omega (arith, h (keys_so_far ws))),
    )
seen-by false f n c ws k bs h e next =
    omega (
      arith,
      next (at_key k.name n) (suc n) (suc c)
          (λ T. at-less (has_key k.name T) n (suc c) e) (omega (arith, e)),
    )

seen-block : (d : Done) (f : Shown) (n c : ℕ) (bs : List Open) → ((T : List (List ℕ)) → f T ≤ c)
    → n ≤ suc c
    → ((g : Shown) (p e : ℕ) → ((T : List (List ℕ)) → g T ≤ e) → p ≤ suc e
    → seen g p bs ≤ suc e + levels bs)
    → seen (passed d n f) (deepened d f n) bs ≤ suc c + (level d + levels bs)
seen-block (done_items vs) f n c bs h e next =
    omega (
      arith,
      next (passed (done_items vs) n f) (suc n) (suc c)
          (λ T. omega (arith, h (keys_of (pairs_in (trees vs)) ++ T))) (omega (arith, e)),
    )
seen-block (done_entries ws k) f n c bs h e next = seen-by k.merges f n c ws k bs h e next
seen-block alone f n c bs h e next = omega (arith, next f n c h e)

seen-levels : (bs : List Open) (f : Shown) (n c : ℕ) → ((T : List (List ℕ)) → f T ≤ c) → n ≤ suc c
    → seen f n bs ≤ suc c + levels bs
seen-levels [] f n c h e = omega (arith, e)
seen-levels (b ∷ bs) f n c h e =
    seen-block b.done f n c bs h e (λ g p d i j. seen-levels bs g p d i j)

pub sight-reach : (bs : List Open) → sight bs ≤ reach bs
sight-reach [] = omega arith
sight-reach (b ∷ bs) =
    let d = (own_value b).tree in
    omega (
      arith,
      some-depth d,
      seen-levels (b ∷ bs) (shown_by d) (depth d) (depth d - 1)
          (λ T. omega (arith, sift-less T (merged_pairs d), merged_shallower d))
          (omega (arith, some-depth d)),
    )
