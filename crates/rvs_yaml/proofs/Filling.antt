-- A word without its flow collection, and then that, are what the word is.
use Rattle.std.proofs.Common.{◌≡◌, ℕ, Bool, true, false, List, [], ◌∷◌, None, Some, refl}
use Rattle.std.proofs.Common.{sym, ap, ◌∙◌, arith, rules}
use Rattle.std.specs.Prelude.{if◌then◌else◌}
use Rattle.rvs_tree.specs.Value.{Value}
use Rattle.rvs_yaml_text.specs.Word.{Key, Bracket, Token, nothing, text, alias, flow, faulty, Name}
use Rattle.rvs_yaml_text.specs.Word.{Shape, dash, key, leaf, refused, Word, Head, is_below}
use Rattle.rvs_yaml_text.specs.Word.{opens_block}
use Rattle.rvs_yaml_text.specs.Text.{word_at}
use Rattle.rvs_yaml.specs.Checks.{Checked, ◌>>=◌, ◌>>◌, check}
use Rattle.rvs_yaml.specs.Anchors.{Anchors}
use Rattle.rvs_yaml.specs.Block.{Found}
use Rattle.rvs_yaml.specs.Stack.{Done, Open, begins, put}
use Rattle.rvs_yaml.specs.Stack.{advanced_as, advanced, closed_into, settled, own_found, step}
use Rattle.rvs_yaml.specs.Filling.{Flow, flow_of, hollow_shape, hollow, filled}
use Rattle.rvs_yaml_text.specs.declared.kind.YamlKind.TheVariants.{Unsupported}
use Rattle.rvs_yaml.proofs.Outlined.{bind_assoc, bind_same, then_assoc, then_same}

-- two words that differ in what is filled in behind
record Hollows (w u : Word) (f : Flow) : Type 0 where
  below : (h : Head) → is_below h w ≡ is_below h u
  beginning : (bs : List Open) → begins bs w ≡ (begins bs u >>= filled f)
  advancing : (d : Done) (column : ℕ) (v : Value)
      → advanced_as d column v w ≡ advanced_as d column v u
  putting : (line column : ℕ) (d : Done) (anchors : Anchors) (bs : List Open)
      → put line column d anchors bs w ≡ (put line column d anchors bs u >>= filled f)

advanced-hollow : (w u : Word) (f : Flow) (b : Open) (g : Found Value) (bs : List Open)
    → Hollows w u f → advanced b g bs w ≡ (advanced b g bs u >>= filled f)
advanced-hollow w u f b g bs h = grind (arith, bind_same, bind_assoc)

abbrev settle_or : Bool → Found Value → Open → Open → List Open → Word → Checked (List Open)
settle_or t g b outer bs w = if t then advanced b g (outer ∷ bs) w
    else closed_into b g outer.head.anchor >>= λ h. settled h outer bs w

settle-by : (t : Bool) (w u : Word) (f : Flow) (g : Found Value) (b outer : Open) (bs : List Open)
    → Hollows w u f
    → ((k : Found Value) → settled k outer bs w ≡ (settled k outer bs u >>= filled f)) →
    settle_or t g b outer bs w ≡ (settle_or t g b outer bs u >>= filled f)
settle-by t w u f g b outer bs h ih = search (rules, advanced-hollow, bind_same, bind_assoc)

settled-hollow : (w u : Word) (f : Flow) (g : Found Value) (b : Open) (bs : List Open)
    → Hollows w u f → settled g b bs w ≡ (settled g b bs u >>= filled f)
settled-hollow w u f g b [] h = advanced-hollow w u f b g [] h
settled-hollow w u f g b (outer ∷ bs) h =
    ap (λ t. settle_or t g b outer bs w) (h.below outer.head) ∙ settle-by (is_below outer.head u) w
    u f g b outer bs h (λ k. settled-hollow w u f k outer bs h)

abbrev step_or : Bool → Open → List Open → Word → Checked (List Open)
step_or t b bs w = if t then (check (opens_block b.head.sort) Unsupported >> begins (b ∷ bs) w)
    else settled (own_found b) b bs w

step-by : (t : Bool) (w u : Word) (f : Flow) (b : Open) (bs : List Open) → Hollows w u f
    → step_or t b bs w ≡ (step_or t b bs u >>= filled f)
step-by true w u f b bs h =
    then_same (check (opens_block b.head.sort) Unsupported) _ _ (h.beginning (b ∷ bs))
    ∙ sym (then_assoc (check (opens_block b.head.sort) Unsupported) _ _)
step-by false w u f b bs h = settled-hollow w u f (own_found b) b bs h

step-words : (w u : Word) (f : Flow) (bs : List Open) → Hollows w u f
    → step bs w ≡ (step bs u >>= filled f)
step-words w u f [] h = h.beginning []
step-words w u f (b ∷ bs) h =
    ap (λ t. step_or t b bs w) (h.below b.head) ∙ step-by (is_below b.head u) w u f b bs h

nothing-more : (m : Checked (List Open)) → m ≡ (m >>= filled None)
nothing-more m = grind arith

advancing-key : (k : Key) (a : Name) (b : Bracket) (ts : List Token) (line column : ℕ) (d : Done)
    (c : ℕ) (v : Value) → advanced_as d c v (word_at line column (key k a (flow b ts)))
    ≡ advanced_as d c v (word_at line column (key k a (text [])))
advancing-key k a b ts line column d c v = grind arith

advancing-leaf : (b : Bracket) (ts : List Token) (line column : ℕ) (d : Done) (c : ℕ) (v : Value)
    → advanced_as d c v (word_at line column (leaf (flow b ts)))
    ≡ advanced_as d c v (word_at line column (leaf (text [])))
advancing-leaf b ts line column d c v = grind arith

step-shape : (line column : ℕ) (s : Shape) (bs : List Open) → step bs (word_at line column s)
    ≡ (step bs (word_at line column (hollow_shape s)) >>= filled (flow_of s))
step-shape line column (dash a) bs = nothing-more (step bs (word_at line column (dash a)))
step-shape line column (refused k) bs = nothing-more (step bs (word_at line column (refused k)))
step-shape line column (key k a nothing) bs =
    nothing-more (step bs (word_at line column (key k a nothing)))
step-shape line column (key k a (text t)) bs =
    nothing-more (step bs (word_at line column (key k a (text t))))
step-shape line column (key k a (alias n e)) bs =
    nothing-more (step bs (word_at line column (key k a (alias n e))))
step-shape line column (key k a (faulty e)) bs =
    nothing-more (step bs (word_at line column (key k a (faulty e))))
step-shape line column (key k a (flow b ts)) bs =
    step-words (word_at line column (key k a (flow b ts))) (word_at line column (key k a (text [])))
    (Some (b, ts)) bs (record {
      below = λ h. refl;
      beginning = λ cs. refl;
      advancing = advancing-key k a b ts line column;
      putting = λ l m d anchors cs. refl;
    })
step-shape line column (leaf nothing) bs =
    nothing-more (step bs (word_at line column (leaf nothing)))
step-shape line column (leaf (text t)) bs =
    nothing-more (step bs (word_at line column (leaf (text t))))
step-shape line column (leaf (alias n e)) bs =
    nothing-more (step bs (word_at line column (leaf (alias n e))))
step-shape line column (leaf (faulty e)) bs =
    nothing-more (step bs (word_at line column (leaf (faulty e))))
step-shape line column (leaf (flow b ts)) bs =
    step-words (word_at line column (leaf (flow b ts))) (word_at line column (leaf (text [])))
    (Some (b, ts)) bs (record {
      below = λ h. refl;
      beginning = λ cs. refl;
      advancing = advancing-leaf b ts line column;
      putting = λ l m d anchors cs. refl;
    })

pub step-hollow : (bs : List Open) (w : Word)
    → step bs w ≡ (step bs (hollow w) >>= filled (flow_of w.shape))
step-hollow bs w = step-shape w.line w.column w.shape bs
