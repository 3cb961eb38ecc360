-- Steps of the stack, part by part.
use Rattle.std.proofs.Common.{◌≡◌, ℕ, false, List, [], ◌∷◌, ◌++◌, Ok, refl, sym, ap, ◌∙◌, arith}
use Rattle.rvs_yaml.specs.Checks.{Checked, ◌>>=◌}
use Rattle.rvs_tree.specs.Value.{Value}
use Rattle.rvs_yaml_text.specs.Word.{Content, Shape, Word, Head, head_of}
use Rattle.rvs_yaml_text.specs.Word.{is_below}
use Rattle.rvs_yaml.specs.Anchors.{Anchors}
use Rattle.rvs_yaml.specs.Block.{Found, own_value, content_value}
use Rattle.rvs_yaml.specs.Stack.{Done, Open, begun_done, begins, put}
use Rattle.rvs_yaml.specs.Stack.{advanced, closed_into, settled, own_found, step}
use Rattle.rvs_yaml.specs.StepParts.{Block, own_content, put_content, advanced_content, opened}
use Rattle.rvs_yaml.specs.StepParts.{bare}
use Rattle.rvs_yaml.proofs.Outlined.{bind_assoc, bind_same}

pub own-content : (known : Anchors) (line : ℕ) (s : Shape)
    → content_value known line (own_content s) ≡ own_value known line s
own-content known line s = grind arith

abbrev pub block_with : ℕ → ℕ → Done → Anchors → Block
block_with line column done anchors =
    record { line = line; column = column; done = done; anchors = anchors }

put-own : (b : Block) (bs : List Open) (w : Word)
    → put_content b bs (head_of w) (own_content w.shape) ≡ put b.line b.column b.done b.anchors bs w
put-own b bs w = simp own-content

pub begins-put : (bs : List Open) (w : Word) (h : Head) (p : Done × Content) → h ≡ head_of w
    → p ≡ (begun_done w.shape, own_content w.shape)
    → put_content (block_with h.line h.column p.0 []) bs h p.1 ≡ begins bs w
begins-put bs w h p e q = grind (arith, put-own)

-- the block goes on with a word whose parts are p
pub advanced-put : (b : Block) (g : Found Value) (bs : List Open) (w : Word) (h : Head)
    (anchors : Anchors) → h ≡ head_of w → anchors ≡ g.anchors ++ b.anchors →
    (advanced_content b.done b.column g.value w
    >>= λ p. put_content (block_with b.line b.column p.0 anchors) bs h p.1) ≡ advanced (bare b)
    g bs w
advanced-put b g bs w h anchors e a = grind (arith, bind_assoc, bind_same, put-own)

-- what the next steps are, once the parts are there
pub then-parts : {A B : Type 0} (m : Checked A) (p : A) (f : A → Checked B) (t : Checked B)
    → (m >>= f) ≡ t → m ≡ Ok p → f p ≡ t
then-parts m p f t e is = sym (ap (λ n. n >>= f) is) ∙ e

-- of the block on top only what it has so far counts
pub settled-bare : (g : Found Value) (b : Block) (h : Head) (own : Value) (bs : List Open)
    (w : Word) → settled g (opened b h own) bs w ≡ settled g (bare b) bs w
settled-bare g b h own [] w = refl
settled-bare g b h own (o ∷ bs) w = refl

pub settled-over : (g : Found Value) (b o : Open) (bs : List Open) (w : Word)
    → is_below o.head w ≡ false
    → settled g b (o ∷ bs) w ≡ (closed_into b g o.head.anchor >>= λ h. settled h o bs w)
settled-over g b o bs w e = rw e refl

pub step-over : (b : Open) (bs : List Open) (w : Word) → is_below b.head w ≡ false
    → step (b ∷ bs) w ≡ settled (own_found b) b bs w
step-over b bs w e = rw e refl
