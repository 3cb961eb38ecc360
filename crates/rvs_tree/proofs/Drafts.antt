-- What drafts stand for, part by part.
use Rattle.std.proofs.Common.{◌≡◌, ℕ, ◌+◌, ◌<◌, cond, Bool, true, false, List, [], ◌∷◌, ◌++◌}
use Rattle.std.proofs.Common.{map, reverse, refl, sym, ap, ◌∙◌, rules, arith, Global}
use Rattle.std.proofs.Common.{zero-add, add-zero, add_assoc, append_assoc, ◌≤◌, Result, Ok, Err}
use Rattle.std.proofs.Common.{IfOk, OnOk, Vec, bytes_eq}
use Rattle.std.specs.Prelude.{String, string_bytes, ◌||◌}
use Rattle.std.specs.Borrow.{Bor}
use Rattle.std.proofs.lemmas.List.{reverse-append}
use Rattle.std.specs.declared.rc.Rc.{Rc}
use Rattle.rvs_tree.specs.Data.{sequence, items_of, is_list}
use Rattle.rvs_tree.specs.Value.{merged_pairs, pairs_in, Written, has_key}
use Rattle.rvs_tree.specs.GatheredView.{taken_view}
use Rattle.rvs_tree.specs.declared.taken.Taken.{Taken}
use Rattle.rvs_tree.specs.declared.gathering.Gathered.{Gathered}
use Rattle.rvs_tree.specs.Data as data_spec
use Rattle.rvs_tree.specs.TreeSize.{total}
use Rattle.rvs_tree.specs.PartsView.{refs_view, next_view, part_size, draft_size, sizes, ref_sizes}
use Rattle.rvs_tree.specs.PartsView.{brings}
use Rattle.rvs_tree.proofs.Views.{list_of-items_of}
use Rattle.rvs_tree.proofs.Sums.{map-append}
use Rattle.rvs_tree.proofs.Single.{or-swap}
use Rattle.rvs_tree.specs.TreeView.{rc_view}
use Rattle.rvs_tree.specs.DraftView.{draft_view, part_view, merging_entry, merged_trees}
use Rattle.rvs_tree.specs.DraftView.{data_of}
use Rattle.rvs_tree.specs.declared.tree.Tree.{Tree}
use Rattle.rvs_tree.specs.declared.draft.Draft.{Draft, the_lemmas as draft_lemmas}
use Rattle.rvs_tree.specs.declared.draft.Part.{Part, the_lemmas as part_lemmas}
use Rattle.rvs_tree.specs.declared.draft.Part.TheVariants as part

pub view-whole : (p : Part) (t : Rc Tree Global) → p ≡ part.Whole t
    → part_view p ≡ merging_entry (rc_view t)
view-whole p t e = search (rules, part_lemmas)

pub view-nested : (p : Part) (d : Rc Draft Global) → p ≡ part.Nested d
    → part_view p ≡ merging_entry (draft_view d.value)
view-nested p d e = search (rules, part_lemmas)

pub view-map : (d : Draft) → d.is_list ≡ false
    → draft_view d ≡ data_of (map part_view d.parts.items) d.line
view-map d e = search (rules, draft_lemmas)

pub view-list : (d : Draft) → d.is_list ≡ true
    → draft_view d ≡ sequence (items_of (merged_trees (map part_view d.parts.items))) d.line
view-list d e = search (rules, draft_lemmas)

list-by : (b : Bool) (d : Draft) → d.is_list ≡ b → b ≡ is_list (draft_view d)
list-by b d e = search (rules, view-list, view-map)

pub list-is : (d : Draft) → d.is_list ≡ is_list (draft_view d)
list-is d = list-by d.is_list d refl

pub draft-map : (d : Draft) → is_list (draft_view d) ≡ false
    → draft_view d ≡ data_of (map part_view d.parts.items) d.line
draft-map d h = view-map d (list-is d ∙ h)

pub draft-list : (d : Draft) → is_list (draft_view d) ≡ true
    → merged_pairs (draft_view d) ≡ pairs_in (merged_trees (map part_view d.parts.items))
draft-list d h = grind (arith, view-list, list-is, list_of-items_of)

pub size-draft : (d : Draft) → draft_size d ≡ sizes d.parts.items
size-draft d = search (rules, draft_lemmas)

pub refs-push : (ps : List (Bor Part)) (p : Bor Part)
    → refs_view (ps ++ p ∷ []) ≡ refs_view ps ++ part_view p.now ∷ []
refs-push ps p = map-append (λ q. part_view q.now) ps (p ∷ [])

total-append : (xs ys : List ℕ) → total (xs ++ ys) ≡ total xs + total ys
total-append [] ys = sym (zero-add (total ys))
total-append (x ∷ xs) ys = simp (add_assoc, (total-append xs ys))

pub sizes-push : (ps : List (Bor Part)) (p : Bor Part)
    → ref_sizes (ps ++ p ∷ []) ≡ ref_sizes ps + part_size p.now
sizes-push ps p = simp (map-append, total-append, add-zero)

pub next-push : (ps : List (Bor Part)) (p : Bor Part)
    → next_view (ps ++ p ∷ []) ≡ part_view p.now ∷ next_view ps
next-push ps p = ap reverse (refs-push ps p) ∙ reverse-append (refs_view ps) (part_view p.now ∷ [])

sizes-append : (xs ys : List Part) → sizes (xs ++ ys) ≡ sizes xs + sizes ys
sizes-append xs ys = simp (map-append, total-append)

sizes-one : (p : Part) → sizes (p ∷ []) ≡ part_size p
sizes-one p = add-zero (part_size p)

pub parts-fewer : (work rest : List Part) (p : Part) → work ≡ rest ++ p ∷ [] → 0 < part_size p
    → sizes rest < sizes work
parts-fewer work rest p e s = omega (arith, ap sizes e, sizes-append rest (p ∷ []), sizes-one p, s)

pub parts-appended : (b : Bool) (work rest new items : List Part) (p : Part) → work ≡ rest ++ p ∷ []
    → new ≡ cond b (rest ++ items) rest → sizes items < part_size p → sizes new < sizes work
parts-appended b work rest new items p e n s = search (rules, sizes-append, sizes-one)

-- entries with one more, beside something else
pub push-refs : {X E : Type 0} (r : Result (Vec (Bor Part) Global × X) E) (ps qs : List (Bor Part))
    (p : Bor Part) (ws : List Written) → IfOk r (λ x. x.0.items ≡ ps ++ p ∷ []) → ps ≡ qs
    → part_view p.now ∷ [] ≡ ws → IfOk r (λ x. refs_view x.0.items ≡ refs_view qs ++ ws)
push-refs (Ok x) ps qs p ws h s e =
    ap refs_view h ∙ refs-push ps p ∙ ap (λ us. refs_view us ++ part_view p.now ∷ []) s
    ∙ ap (λ us. refs_view qs ++ us) e
push-refs (Err k) ps qs p ws h s e = h

pub push-sizes : {X E : Type 0} (r : Result (Vec (Bor Part) Global × X) E) (ps qs : List (Bor Part))
    (p : Bor Part) → IfOk r (λ x. x.0.items ≡ ps ++ p ∷ []) → ps ≡ qs
    → IfOk r (λ x. ref_sizes x.0.items ≤ ref_sizes qs + part_size p.now)
push-sizes (Ok x) ps qs p h s =
    omega (arith, ap ref_sizes h, sizes-push ps p, ap ref_sizes s)
push-sizes (Err k) ps qs p h s = h

pub push-taken : {X E : Type 0} (r : Result (X × Taken) E) (t : Taken) (ks : List (List ℕ))
    → IfOk r (λ x. x.1 ≡ t) → taken_view t ≡ ks → IfOk r (λ x. taken_view x.1 ≡ ks)
push-taken (Ok x) t ks h e = ap taken_view h ∙ e
push-taken (Err k) t ks h e = h

-- what is brought with these before the rest
pub stack-brings : {E : Type 0} (r : Result Gathered E) (g : Gathered) (ws us : List Written)
    (ps : data_spec.Pairs) → OnOk r (ws ≡ us) → IfOk r (λ v. v ≡ g) → brings g us ≡ ps
    → IfOk r (λ v. brings v ws ≡ ps)
stack-brings (Ok v) g ws us ps s h e = ap (λ x. brings x ws) h ∙ ap (brings g) s ∙ e
stack-brings (Err k) g ws us ps s h e = h

pub stack-small : {X E : Type 0} (r : Result X E) (n m k : ℕ) → OnOk r (n ≡ m) → m ≤ k
    → OnOk r (n ≤ k)
stack-small (Ok v) n m k s h = omega (arith, s, h)
stack-small (Err e) n m k s h = s

pub stack-next : (first rest work new : List (Bor Part)) (p : Bor Part) → first ≡ rest ++ p ∷ []
    → new ≡ work ++ p ∷ []
    → refs_view rest ++ next_view new ≡ refs_view first ++ next_view work
stack-next first rest work new p e f =
    ap (λ x. refs_view rest ++ x) (ap next_view f ∙ next-push work p)
    ∙ sym (append_assoc (refs_view rest) (part_view p.now ∷ []) (next_view work))
    ∙ sym (ap (λ x. x ++ next_view work) (ap refs_view e ∙ refs-push rest p))

pub stack-sizes : (first rest work new : List (Bor Part)) (p : Bor Part) → first ≡ rest ++ p ∷ []
    → new ≡ work ++ p ∷ []
    → ref_sizes new + ref_sizes rest ≡ ref_sizes work + ref_sizes first
stack-sizes first rest work new p e f =
    omega (arith, ap ref_sizes f, sizes-push work p, ap ref_sizes e, sizes-push rest p)

pub taken-push : (old new : List (String Global)) (s : String Global) (k : List ℕ)
    → new ≡ old ++ s ∷ [] → string_bytes s ≡ k
    → reverse (map string_bytes new) ≡ k ∷ reverse (map string_bytes old)
taken-push old new s k e f =
    ap (λ ns. reverse (map string_bytes ns)) e
    ∙ ap reverse (map-append string_bytes old (s ∷ []))
    ∙ reverse-append (map string_bytes old) (string_bytes s ∷ [])
    ∙ ap (λ n. n ∷ reverse (map string_bytes old)) f

pub taken-has : (k n : List ℕ) (T : List (List ℕ))
    → (has_key k T || bytes_eq n k) ≡ has_key k (n ∷ T)
taken-has k n T = grind (arith, or-swap)

pub any-ok : {X E P : Type 0} (r : Result X E) → P → OnOk r P
any-ok r p = grind arith
