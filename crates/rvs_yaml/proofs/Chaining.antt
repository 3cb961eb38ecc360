-- Which blocks are around what merges into them.
use Rattle.std.proofs.Common.{◌≡◌, ℕ, ◌≤◌, ◌<◌, ◌+◌, Bool, true, false, cond, List, [], ◌∷◌, ◌++◌}
use Rattle.std.proofs.Common.{refl, sym, ap, ◌∙◌, subst, arith, length, take, get_or, rules}
use Rattle.std.proofs.Math.Dec.{eqb}
use Rattle.std.proofs.lemmas.Option.{slice_get-get_or}
use Rattle.std.specs.Prelude.{◌||◌}
use Rattle.rvs_tree.specs.Shown.{Holds}
use Rattle.rvs_tree.specs.Value.{has_key}
use Rattle.rvs_tree.proofs.Sifting.{in-more}
use Rattle.rvs_tree.proofs.Sums.{has_key-append}
use Rattle.rvs_yaml.specs.Chain.{chained, in_chain, done_keys, chain_keys}
use Rattle.rvs_yaml.specs.Around.{AreAround}
use Rattle.rvs_yaml.specs.Stack.{Done, Open}
use Rattle.rvs_yaml.specs.StackView.{done_view, open_view, stack_view}
use Rattle.rvs_yaml.specs.declared.open.Open as code
use Rattle.rvs_yaml.proofs.Lookups.{stack-more}

-- no keys are taken around what doesn't merge
pub chain-none : (bs : List Open) → in_chain bs ≡ false → chain_keys bs ≡ []
chain-none [] e = refl
chain-none (b ∷ bs) e = ap (λ t. cond t (done_keys b.done ++ chain_keys bs) []) e

-- a map that merges does so whatever is around it
pub chained-more : (d : Done) (inside : Bool) → chained d false ≡ true → chained d inside ≡ true
chained-more d inside e = grind arith

pub front-key : (k : List ℕ) (A B : List (List ℕ)) → has_key k A ≡ true
    → has_key k (A ++ B) ≡ true
front-key k A B h = has_key-append k A B ∙ ap (λ b. b || has_key k B) h

-- the keys around a block, and its own, are around what merges into it
pub keys-around : (d : Done) (inside : Bool) (keys : List (List ℕ)) → (inside ≡ false → keys ≡ [])
    → chained d true ≡ true
    → Holds keys (cond (chained d inside) (done_keys d ++ keys) [])
keys-around d inside keys none e = search (rules, in-more)

pub own-around : (d : Done) (inside : Bool) (keys : List (List ℕ))
    → chained d inside ≡ true → Holds (done_keys d) (cond (chained d inside)
    (done_keys d ++ keys) [])
own-around d inside keys e k h = grind (arith, front-key)

-- what stands in place of a block that isn't there doesn't matter where there is one
pub same-at : (bs : List code.Open) (m : ℕ) (b c : code.Open) → m < length bs
    → get_or bs m b ≡ get_or bs m c
same-at bs m b c h = grind (arith, slice_get-get_or)

same-block : (bs : List code.Open) (m : ℕ) (b c : code.Open) → m < length bs
    → b ≡ get_or bs m b → c ≡ get_or bs m c → b ≡ c
same-block bs m b c h e f = e ∙ same-at bs m b c h ∙ sym f

-- what is known of the blocks from `at` on, when what is in the last of them is where one looks
-- outwards from
pub record Looked (bs : List code.Open) (at root end : ℕ) : Type 0 where
  pub inside : at ≤ end
  pub small : root ≤ end
  pub all : at ≤ root
  pub more : Holds (chain_keys (stack_view (take at bs))) (chain_keys (stack_view (take end bs)))
  pub passing : in_chain (stack_view (take at bs)) ≡ true → AreAround bs at end
  pub rooted : AreAround bs root end

by-test : {X : Type 0} (m j : ℕ) → m ≤ j → (b : Bool) → eqb j m ≡ b → (j ≡ m → X)
    → (m + 1 ≤ j → X) → X
by-test m b l h e = grind arith

by-place : {X : Type 0} (m j : ℕ) → m ≤ j → (j ≡ m → X) → (m + 1 ≤ j → X) → X
by-place m j l same above = by-test m j l (eqb j m) refl same above

-- one block more, whose open member merges
opened : (bs : List code.Open) (m root end : ℕ) (b : code.Open) → m < length bs
    → b ≡ get_or bs m b → Looked bs (m + 1) root end
    → chained (done_view b.block.done) (in_chain (stack_view (take m bs))) ≡ true
    → AreAround bs m end
opened bs m root end b here is g e j c l u at =
    search (rules, stack-more, by-place, own-around, same-block)

-- the next block outwards, whose open member passes what merges into it
pub looked-more : (bs : List code.Open) (m root end : ℕ) (b : code.Open) → m < length bs
    → b ≡ get_or bs m b → Looked bs (m + 1) root end
    → chained (done_view b.block.done) true ≡ true → Looked bs m root end
looked-more bs m root end b here is g e =
    let I = in_chain (stack_view (take m bs)) in
    let K = chain_keys (stack_view (take m bs)) in
    let view : stack_view (take (m + 1) bs) ≡ open_view b ∷ stack_view (take m bs) =
    stack-more bs m b here ∙ ap (λ x. open_view x ∷ stack_view (take m bs)) (sym is) in
    record {
      inside = omega (arith, g.inside);
      small = g.small;
      all = omega (arith, g.all);
      more = λ k h. g.more k (ap (λ xs. has_key k (chain_keys xs)) view
          ∙ keys-around (done_view b.block.done) I K (chain-none (stack_view (take m bs))) e k h);
      passing = λ i. opened bs m root end b here is g
          (subst (λ x. chained (done_view b.block.done) x ≡ true) (sym i) e);
      rooted = g.rooted;
    }

-- the next one, which merges
pub looked-root : (bs : List code.Open) (m root end : ℕ) (b : code.Open) → m < length bs
    → b ≡ get_or bs m b → Looked bs (m + 1) root end
    → chained (done_view b.block.done) false ≡ true → Looked bs m m end
looked-root bs m root end b here is g e =
    let d = done_view b.block.done in
    let I = in_chain (stack_view (take m bs)) in
    let next = looked-more bs m root end b here is g (chained-more d true e) in
    record {
      inside = next.inside;
      small = next.inside;
      all = omega arith;
      more = next.more;
      passing = next.passing;
      rooted = opened bs m root end b here is g (chained-more d I e);
    }
