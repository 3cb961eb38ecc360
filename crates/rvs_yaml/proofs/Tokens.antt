-- The tokens of a text, one after another.
use Rattle.std.proofs.Common.{◌≡◌, ℕ, suc, Bool, true, false, List, [], ◌∷◌, drop, Ok, refl}
use Rattle.std.proofs.Common.{arith}
use Rattle.std.specs.Prelude.{◌==◌, ◌&&◌}
use Rattle.std.proofs.lemmas.Bool.Decides.{nat_tests}
use Rattle.rvs_base.specs.Answers.{seen}
use Rattle.rvs_yaml_text.specs.Bytes.{space_byte}
use Rattle.rvs_yaml_text.specs.Scalar.{starts_with}
use Rattle.rvs_yaml.specs.Checks.{Checked, ◌>>=◌}
use Rattle.rvs_yaml.specs.Anchors.{Anchors}
use Rattle.rvs_yaml_text.specs.Tokens.{tokens, next_token, closes, FirstToken}
use Rattle.rvs_yaml.specs.TokenParts.{flowing, is_flow_end, next_flowing}
use Rattle.rvs_yaml.specs.FlowSteps.{Reading, flow_step, flow_steps}

and_left : (x y : Bool) → (x && y) ≡ true → x ≡ true
and_left x y h = grind arith

no_space : (b : ℕ) → (b == 35) ≡ true → (b == 32) ≡ false
no_space b h = grind (arith, nat_tests)

-- a comment or nothing has no tokens
pub tokens-end : (n : ℕ) (cl sp : Bool) (bs : List ℕ) → is_flow_end sp bs ≡ true
    → tokens n cl sp bs ≡ []
tokens-end n cl sp bs h = grind arith

-- nor has a space
pub tokens-space : (n : ℕ) (cl sp : Bool) (bs : List ℕ) → starts_with space_byte bs ≡ true
    → tokens (suc n) cl sp bs ≡ tokens n cl true (drop 1 bs)
tokens-space n cl sp bs h = grind (arith, nat_tests)

-- a token, and those behind it
pub tokens-token : (n : ℕ) (cl sp : Bool) (bs : List ℕ) → starts_with space_byte bs ≡ false
    → is_flow_end sp bs ≡ false → tokens (suc n) cl sp bs
    ≡ (next_token cl bs).0 ∷ tokens n (closes (next_token cl bs).0) false (next_token cl bs).1
tokens-token n cl sp bs h e = grind (arith, nat_tests)

abbrev pub behind_token : Bool → List ℕ → List ℕ
behind_token cl bs = (next_token cl bs).1

-- a space or a token more
pub tokens-next : (poor : Bool) (known : Anchors) (line : ℕ) (r : Reading) (n : ℕ) (cl sp : Bool)
    (bs : List ℕ) → is_flow_end sp bs ≡ false →
    flow_steps poor known line r (tokens (suc n) cl sp bs)
    ≡ (next_flowing poor known line (flowing r cl sp bs)
    >>= λ f. flow_steps poor known line f.reading (tokens n f.closed f.spaced f.rest))
tokens-next poor known line r n cl sp bs h = grind (arith, nat_tests)

-- what is checked, seen by a function, is the check and the function behind it
pub seen-bind : {A B : Type 0} (f : A → B) (m : Checked A)
    → seen f m ≡ (m >>= λ x. let r : Checked B = Ok (f x) in r)
seen-bind = grind arith

next-false : (poor : Bool) (known : Anchors) (line : ℕ) (r : Reading) (cl sp : Bool) (bs : List ℕ)
    → starts_with space_byte bs ≡ false → next_flowing poor known line (flowing r cl sp bs)
    ≡ (flow_step poor known line r (next_token cl bs).0 >>= λ s.
    Ok (flowing s (closes (next_token cl bs).0) false (next_token cl bs).1))
next-false poor known line r cl sp bs h = rw h refl

-- a token more, where no space comes next
pub next-token : (poor : Bool) (known : Anchors) (line : ℕ) (r : Reading) (cl sp : Bool)
    (bs : List ℕ) (t : FirstToken) → starts_with space_byte bs ≡ false → t ≡ next_token cl bs →
    seen (λ s. flowing s (closes t.0) false t.1) (flow_step poor known line r t.0)
    ≡ next_flowing poor known line (flowing r cl sp bs)
next-token poor known line r cl sp bs t h e = grind (arith, seen-bind, next-false)
