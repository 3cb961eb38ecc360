-- Anchors that name the same values. What is read with them is the same.
use Rattle.std.proofs.Common.{◌≡◌, ℕ, Bool, true, false, cond, List, [], ◌∷◌, ◌++◌, Option, Some}
use Rattle.std.proofs.Common.{None, refl, ap, ◌∙◌, arith, rules}
use Rattle.std.specs.Prelude.{◌&&◌, ◌||◌, bytes_eq, if◌then◌else◌}
use Rattle.std.proofs.lemmas.Slice.Eq.{bytes_eq-Decides}
use Rattle.rvs_tree.specs.Value.{Value}
use Rattle.rvs_yaml_text.specs.Word.{Bracket, Token}
use Rattle.rvs_yaml_text.specs.Word.{Content, Shape}
use Rattle.rvs_yaml.specs.Checks.{◌>>=◌, ◌>>◌}
use Rattle.rvs_yaml.specs.Anchors.{Anchors, lookup}
use Rattle.rvs_yaml.specs.Stack.{has_anchor}
use Rattle.rvs_yaml.specs.Flow.{FlowState}
use Rattle.rvs_yaml.specs.Flow.{Nest, none, one, group, first_place}
use Rattle.rvs_yaml.specs.Flow.{with_value, with_token, may_open, ends_with, fits}
use Rattle.rvs_yaml.specs.Flow.{collection, flow_value}
use Rattle.rvs_yaml.specs.Block.{found, content_value, own_value}
use Rattle.rvs_yaml.specs.Stack.{noted}
use Rattle.rvs_yaml.proofs.Outlined.{bind_same, then_same}

abbrev pub Alike : Anchors → Anchors → Type 0
Alike a b = (k : List ℕ) → lookup k a ≡ lookup k b

abbrev first : Option Value → Option Value → Option Value
first None o = o
first (Some v) o = Some v

first-by : (t : Bool) (v : Value) (m n o : Option Value) → n ≡ first m o
    → cond t (Some v) n ≡ first (cond t (Some v) m) o
first-by t v m n o h = grind arith

lookup-append : (k : List ℕ) (a b : Anchors) → lookup k (a ++ b) ≡ first (lookup k a) (lookup k b)
lookup-append k [] b = refl
lookup-append k (x ∷ a) b = grind (arith, first-by, (lookup-append k a b))

pub alike-append : (a b c d : Anchors) → Alike a c → Alike b d → Alike (a ++ b) (c ++ d)
alike-append a b c d h i = grind (arith, lookup-append)

-- A NODE'S OWN ANCHOR
missed-by : (t : Bool) (v : Value) (b : Bool) (o : Option Value) → (b ≡ false → o ≡ None)
    → (t || b) ≡ false → cond t (Some v) o ≡ None
missed-by t v b o h e = grind arith

missed : (k : List ℕ) (a : Anchors) → has_anchor k a ≡ false → lookup k a ≡ None
missed k [] e = refl
missed k (x ∷ a) e = grind (arith, missed-by, (missed k a))

found-by : (t : Bool) (v w : Value) (b : Bool) (o p : Option Value) → (b ≡ true → first o p ≡ o)
    → (t || b) ≡ true → first (cond t (Some v) o) p ≡ cond t (Some v) o
found-by t v w b o p h e = grind arith

kept : (k : List ℕ) (a : Anchors) (o : Option Value) → has_anchor k a ≡ true
    → first (lookup k a) o ≡ lookup k a
kept k [] o e = cc
kept k (x ∷ a) o e = grind (arith, found-by, (kept k a o))

behind-by : (t : Bool) (v : Value) (o p : Option Value) → (t ≡ true → first o (Some v) ≡ p)
    → (t ≡ false → o ≡ p) → first o (cond t (Some v) None) ≡ p
behind-by t v o p h i = grind arith

same-name : (n k : List ℕ) → bytes_eq n k ≡ true → n ≡ k
same-name n k e = (bytes_eq-Decides n k).0 e

-- where the name is there already
alike-kept : (n : List ℕ) (v : Value) (a b : Anchors) → Alike a b → has_anchor n b ≡ true
    → Alike (a ++ (n, v) ∷ []) b
alike-kept n v a b h e = search (rules, lookup-append, behind-by, same-name, kept)

new-by : (t : Bool) (v : Value) (o : Option Value) → (t ≡ true → o ≡ None)
    → first o (cond t (Some v) None) ≡ cond t (Some v) o
new-by t v o h = grind arith

-- where it is new
alike-new : (n : List ℕ) (v : Value) (a b : Anchors) → Alike a b → has_anchor n b ≡ false
    → Alike (a ++ (n, v) ∷ []) ((n, v) ∷ b)
alike-new n v a b h e = grind (arith, lookup-append, new-by, missed, same-name)

noted-by : (t : Bool) (n : List ℕ) (v : Value) (a b : Anchors) → Alike a b → has_anchor n b ≡ t
    → Alike (a ++ (n, v) ∷ []) (if t then found v b else found v ((n, v) ∷ b)).anchors
noted-by t n v a b h e = search (rules, alike-kept, alike-new)

pub alike-noted : (n : List ℕ) (v : Value) (a b : Anchors) → Alike a b
    → Alike (a ++ (n, v) ∷ []) (noted (Some n) (found v b)).anchors
alike-noted n v a b h = noted-by (has_anchor n b) n v a b h refl

token-alike : (a b : Anchors) → Alike a b → (line : ℕ) (p : FlowState) (m : Token)
    → with_token a line p m ≡ with_token b line p m
token-alike a b h line p m = grind arith

collection-alike : (a b : Anchors) → Alike a b → (line : ℕ) (good : Bool) (p : FlowState) (n : Nest)
    → collection a line good p n ≡ collection b line good p n
collection-alike a b h line good p none = refl
collection-alike a b h line good p (one m rest) =
    ap (λ r. r >>= λ next. collection a line (good && fits next) next rest)
    (token-alike a b h line p m)
    ∙ bind_same (with_token b line p m) _ _
    (λ next. collection-alike a b h line (good && fits next) next rest)
collection-alike a b h line good p (group c inner end rest) =
    then_same (may_open p) _ _ (
    ap (λ r. r >>= λ v. ends_with c end >> (with_value p v.0
    >>= λ next. collection a line (v.1 && fits next) next rest))
    (collection-alike a b h line good (first_place c) inner)
    ∙ bind_same (collection b line good (first_place c) inner) _ _
    (λ v. then_same (ends_with c end) _ _ (bind_same (with_value p v.0) _ _
    (λ next. collection-alike a b h line (v.1 && fits next) next rest))))

flow-alike : (a b : Anchors) → Alike a b → (line : ℕ) (c : Bracket) (ms : List Token)
    → flow_value a line c ms ≡ flow_value b line c ms
flow-alike a b h line c ms = grind (arith, collection-alike)

content-alike : (a b : Anchors) → Alike a b → (line : ℕ) (c : Content)
    → content_value a line c ≡ content_value b line c
content-alike a b h line c = search (rules, flow-alike)

pub own-alike : (a b : Anchors) → Alike a b → (line : ℕ) (s : Shape)
    → own_value a line s ≡ own_value b line s
own-alike a b h line s = search (rules, content-alike)
