-- What several nodes hold, where one of them changes.
use Rattle.std.proofs.Common.{◌≡◌, ◌≢◌, Bool, true, false, inl, inr, refl, sym, ap, ◌∙◌, subst, ℕ, ◌+◌, ◌<◌, zero, suc, List, [], ◌∷◌, ◌++◌, Contains, length, take, set, get_or, Option, None, Some, Result, Ok, Err, arith}
use Rattle.std.specs.Prelude.{slice_get, All, OnOk, OnErr, IsSomeAnd}
use Rattle.std.specs.List.{items_where_true}
use Rattle.std.specs.List.Retain.{IsFiltered, ReturnsInTurn}
use Rattle.std.proofs.lemmas.Option.{slice_get_within}
use Rattle.std.proofs.lemmas.List.{take_more, take_more_set, append-nil}
use Rattle.std.proofs.lemmas.List.Concat.{flat_map-append}
use Rattle.std.proofs.lemmas.List.Elements.{All-nil, All-push, All-set, Contains-append_left, Contains-append_right, Contains-append_cases}
use Rattle.grid_index.specs.declared.placed.Placed.{Placed}
use Rattle.plane_terms.specs.Rectangle.{Rectangle}
use Rattle.plane_terms.proofs.ListLemmas.{contains_among}
use Rattle.grid_index.specs.Near.{HoldsSame, Gains, Loses, Adds}
use Rattle.grid_index.specs.Nodes.{NodeView, all_items, height_over, AreFilled}
use Rattle.grid_index.proofs.Adding.{contains_none, adds_joined}
use Rattle.grid_index.proofs.Members.{among, gained}
use Rattle.grid_index.proofs.Snugs.{filled_through}

-- ---- two lists joined
pub held_itself : (ps : List Placed) → HoldsSame ps ps
held_itself ps = λ q. ((λ h. h), (λ h. h))

pub same_joined : (ps qs ss ts : List Placed) → HoldsSame ps qs → HoldsSame ss ts → HoldsSame (ps ++ ss) (qs ++ ts)
same_joined ps qs ss ts f g = λ q. (
  (λ h. elim (Contains-append_cases qs ts q h) [
    | inl k ↦ Contains-append_left ps ss q ((f q).0 k)
    | inr k ↦ Contains-append_right ps ss q ((g q).0 k)
  ]),
  (λ h. elim (Contains-append_cases ps ss q h) [
    | inl k ↦ Contains-append_left qs ts q ((f q).1 k)
    | inr k ↦ Contains-append_right qs ts q ((g q).1 k)
  ]),
)

pub gained_left : (ps qs ss : List Placed) (p : Placed) → Gains ps qs p → Gains (ps ++ ss) (qs ++ ss) p
gained_left ps qs ss p f = λ q. (
  (λ h. elim (Contains-append_cases qs ss q h) [
    | inl k ↦ elim ((f q).0 k) [ inl m ↦ inl (Contains-append_left ps ss q m) | inr e ↦ inr e ]
    | inr k ↦ inl (Contains-append_right ps ss q k)
  ]),
  (λ h. elim h [
    | inl k ↦ elim (Contains-append_cases ps ss q k) [
      | inl m ↦ Contains-append_left qs ss q ((f q).1 (inl m))
      | inr m ↦ Contains-append_right qs ss q m
    ]
    | inr e ↦ Contains-append_left qs ss q ((f q).1 (inr e))
  ]),
)

pub gained_right : (ps ss ts : List Placed) (p : Placed) → Gains ss ts p → Gains (ps ++ ss) (ps ++ ts) p
gained_right ps ss ts p f = λ q. (
  (λ h. elim (Contains-append_cases ps ts q h) [
    | inl k ↦ inl (Contains-append_left ps ss q k)
    | inr k ↦ elim ((f q).0 k) [ inl m ↦ inl (Contains-append_right ps ss q m) | inr e ↦ inr e ]
  ]),
  (λ h. elim h [
    | inl k ↦ elim (Contains-append_cases ps ss q k) [
      | inl m ↦ Contains-append_left ps ts q m
      | inr m ↦ Contains-append_right ps ts q ((f q).1 (inl m))
    ]
    | inr e ↦ Contains-append_right ps ts q ((f q).1 (inr e))
  ]),
)

pub lost_joined : (ps qs ss ts : List Placed) (p : Placed) → Loses ps qs p → Loses ss ts p → Loses (ps ++ ss) (qs ++ ts) p
lost_joined ps qs ss ts p f g = λ q. (
  (λ h. elim (Contains-append_cases qs ts q h) [
    | inl k ↦ let m = (f q).0 k in (Contains-append_left ps ss q m.0, m.1)
    | inr k ↦ let m = (g q).0 k in (Contains-append_right ps ss q m.0, m.1)
  ]),
  (λ h. elim (Contains-append_cases ps ss q h.0) [
    | inl k ↦ Contains-append_left qs ts q ((f q).1 (k, h.1))
    | inr k ↦ Contains-append_right qs ts q ((g q).1 (k, h.1))
  ]),
)

pub lost_none : (p : Placed) → Loses [] [] p
lost_none p = λ q. ((λ h. absurd (contains_none q h)), (λ h. absurd (contains_none q h.0)))

-- ---- one node among several
pub gained_at : (ls : List NodeView) (i : ℕ) (d m : NodeView) (p : Placed) → i < length ls → Gains (get_or ls i d).items m.items p
    → Gains (all_items ls) (all_items (set ls i m)) p
gained_at [] i d m p h g = absurd (omega (arith, h))
gained_at (l ∷ ls) zero d m p h g = gained_left l.items m.items (all_items ls) p g
gained_at (l ∷ ls) (suc i) d m p h g = gained_right l.items (all_items ls) (all_items (set ls i m)) p (gained_at ls i d m p (omega (arith, h)) g)

pub same_at : (ls : List NodeView) (i : ℕ) (d m : NodeView) → i < length ls → HoldsSame (get_or ls i d).items m.items
    → HoldsSame (all_items ls) (all_items (set ls i m))
same_at [] i d m h g = absurd (omega (arith, h))
same_at (l ∷ ls) zero d m h g = same_joined l.items m.items (all_items ls) (all_items ls) g (held_itself (all_items ls))
same_at (l ∷ ls) (suc i) d m h g = same_joined l.items l.items (all_items ls) (all_items (set ls i m)) (held_itself l.items)
    (same_at ls i d m (omega (arith, h)) g)

-- ---- one node more
pub items_pushed : (ns : List NodeView) (n : NodeView) → all_items (ns ++ n ∷ []) ≡ all_items ns ++ n.items
items_pushed ns n = flat_map-append (λ (m : NodeView). m.items) ns (n ∷ []) ∙ ap (λ ps. all_items ns ++ ps) (append-nil n.items)

pub gained_pushed : (ns ms : List NodeView) (n : NodeView) (p : Placed) → n.items ≡ p ∷ [] → ms ≡ ns ++ n ∷ [] → Gains (all_items ns) (all_items ms) p
gained_pushed ns ms n p one e = gained (all_items ns) (all_items ms) p (ap all_items e ∙ (items_pushed ns n ∙ ap (λ ps. all_items ns ++ ps) one))

-- ---- nodes each of which holds something
append_none : {A : Type 0} (xs ys : List A) → xs ++ ys ≡ [] → xs ≡ []
append_none [] ys e = refl
append_none (x ∷ xs) ys e = absurd (omega (arith, ap length e))

pub none_held : (ps : List Placed) (ns : List NodeView) → AreFilled ns → ps ++ all_items ns ≡ [] → (ps ≡ []) × (ns ≡ [])
none_held [] [] all e = (refl, refl)
none_held [] (n ∷ ns) all e = absurd (all 0 n (omega arith) (append_none n.items (all_items ns) e))
none_held (p ∷ ps) ns all e = absurd (omega (arith, ap length e))

pub filled_at : {T E : Type 0} (o : Result T E) (ns : List NodeView) (i : ℕ) (d m : NodeView) (p : Placed) → i < length ns → d ≡ get_or ns i d → AreFilled ns
    → OnOk o (Gains d.items m.items p) → OnErr o (HoldsSame d.items m.items) → AreFilled (set ns i m)
filled_at o ns i d m p h is all ok err = All-set (λ (n : NodeView). n.items ≢ []) ns i m
    (filled_through o d.items m.items p ok err (subst (λ (n : NodeView). n.items ≢ []) (sym is) (all i d h))) all

-- ---- the nodes that hold nothing go
pub items_left : {F : Type 0} (R : F → NodeView → Bool → F → Type 0) → ((f : F) (n : NodeView) (b : Bool) (g : F) → R f n b g → b ≡ false → n.items ≡ [])
    → (f : F) (ns ms : List NodeView) → IsFiltered R f ns ms → all_items ms ≡ all_items ns
items_left {F} R says f ns ms h = ap all_items h.4 ∙ kept h.0 f ns h.1 h.2 h.3
  where
    kept : (bs : List Bool) (f : F) (ns : List NodeView) (g : F) → length bs ≡ length ns → ReturnsInTurn R f bs ns g
        → all_items (items_where_true bs ns) ≡ all_items ns
    kept [] f [] g e t = refl
    kept [] f (n ∷ ns) g e t = absurd (omega arith)
    kept (b ∷ bs) f [] g e t = absurd t
    kept (true ∷ bs) f (n ∷ ns) g e t = ap (λ ps. n.items ++ ps) (kept bs t.0 ns g (omega arith) t.2)
    kept (false ∷ bs) f (n ∷ ns) g e t = kept bs t.0 ns g (omega arith) t.2
        ∙ ap (λ ps. ps ++ all_items ns) (sym (says f n false t.0 t.1 refl))

pub items_more : (ls : List NodeView) (i : ℕ) (d : NodeView) → i < length ls → all_items (take (i + 1) ls) ≡ all_items (take i ls) ++ (get_or ls i d).items
items_more ls i d h =
    ap all_items (take_more ls i d h) ∙ (flat_map-append (λ (l : NodeView). l.items) (take i ls) (get_or ls i d ∷ [])
    ∙ ap (λ ps. all_items (take i ls) ++ ps) (append-nil (get_or ls i d).items))

items_more_set : (ls : List NodeView) (i : ℕ) (m : NodeView) → i < length ls → all_items (take (i + 1) (set ls i m)) ≡ all_items (take i ls) ++ m.items
items_more_set ls i m h =
    ap all_items (take_more_set ls i m h) ∙ (flat_map-append (λ (l : NodeView). l.items) (take i ls) (m ∷ [])
    ∙ ap (λ ps. all_items (take i ls) ++ ps) (append-nil m.items))

-- one node more is looked at
pub nodes_more : {A : Type 0} (f : Placed → A) (t : Rectangle → Bool) (ns : List NodeView) (i : ℕ) (n : NodeView) (xs ys zs : List A) → i < length ns
    → n ≡ get_or ns i n → Adds f t (Contains (all_items (take i ns))) xs ys → Adds f t (Contains n.items) ys zs
    → Adds f t (Contains (all_items (take (i + 1) ns))) xs zs
nodes_more f t ns i n xs ys zs h is first second =
    let more : all_items (take (i + 1) ns) ≡ all_items (take i ns) ++ n.items =
    items_more ns i n h ∙ ap (λ (m : NodeView). all_items (take i ns) ++ m.items) (sym is) in
    subst (λ qs. Adds f t (Contains qs) xs zs) (sym more) (adds_joined f t (all_items (take i ns)) n.items xs ys zs first second)

-- the nodes before i have lost it, those from i on are as they were; now node i loses it
pub lost_more : (ls ms : List NodeView) (i : ℕ) (d m : NodeView) (p : Placed) → i < length ls → i < length ms
    → Loses (all_items (take i ls)) (all_items (take i ms)) p → get_or ls i d ≡ get_or ms i d → Loses (get_or ms i d).items m.items p
    → Loses (all_items (take (i + 1) ls)) (all_items (take (i + 1) (set ms i m))) p
lost_more ls ms i d m p h k so_far same now =
    let old = items_more ls i d h in
    let new = items_more_set ms i m k in
    subst (λ qs. Loses qs (all_items (take (i + 1) (set ms i m))) p) (sym old)
    (subst (λ qs. Loses (all_items (take i ls) ++ (get_or ls i d).items) qs p) (sym new)
    (lost_joined (all_items (take i ls)) (all_items (take i ms)) (get_or ls i d).items m.items p so_far
    (subst (λ (l : NodeView). Loses l.items m.items p) (sym same) now)))

-- ---- one change after another
pub gains_after : (ps qs ss : List Placed) (p : Placed) → HoldsSame ps qs → Gains qs ss p → Gains ps ss p
gains_after ps qs ss p same gains = λ q. (
  (λ h. elim ((gains q).0 h) [ inl k ↦ inl ((same q).0 k) | inr e ↦ inr e ]),
  (λ h. elim h [ inl k ↦ (gains q).1 (inl ((same q).1 k)) | inr e ↦ (gains q).1 (inr e) ]),
)

pub on_err : {A E : Type 0} (r : Result A E) (P : Type 0) → P → OnErr r P
on_err (Ok x) P p = tt
on_err (Err e) P p = p

pub some_at : {A : Type 0} (xs : List A) (i : ℕ) (P : A → Type 0) → IsSomeAnd (slice_get xs i) P → i < length xs
some_at {A} xs i P h = by (slice_get xs i) refl h
  where
    by : (o : Option A) → slice_get xs i ≡ o → IsSomeAnd o P → i < length xs
    by None e k = absurd k
    by (Some x) e k = slice_get_within xs i x e

-- what a node held itself is held by its quarters, and one more
pub gained_divided : (ps qs : List Placed) (ns ms os : List NodeView) (p : Placed) → ns ≡ [] → qs ≡ [] → HoldsSame ps (all_items ms)
    → Gains (all_items ms) (all_items os) p → Gains (ps ++ all_items ns) (qs ++ all_items os) p
gained_divided ps qs ns ms os p none empty same gains =
    subst (λ (l : List NodeView). Gains (ps ++ all_items l) (qs ++ all_items os) p) (sym none)
    (subst (λ l. Gains l (qs ++ all_items os) p) (sym (append-nil ps))
    (subst (λ l. Gains ps (l ++ all_items os) p) (sym empty) (gains_after ps (all_items ms) (all_items os) p same gains)))

pub none_below : (ns : List NodeView) → height_over ns ≡ 0 → ns ≡ []
none_below [] e = refl
none_below (n ∷ ns) e = absurd (omega arith)

-- beside what a node held stands a node with one more
gained_first : (ps : List Placed) (p : Placed) → Gains ps (p ∷ ps) p
gained_first ps p = λ q. (
  (λ h. elim (among (p ∷ ps) q h) [ inl e ↦ inr e | inr k ↦ inl (contains_among ps q k) ]),
  (λ h. contains_among (p ∷ ps) q (elim h [ inl k ↦ inr (among ps q k) | inr e ↦ inl e ])),
)

pub filled_beside : (ns ms os : List NodeView) (n m : NodeView) (p : Placed) → ns ≡ [] → ms ≡ ns ++ n ∷ [] → os ≡ ms ++ m ∷ [] → n.items ≡ p ∷ []
    → m.items ≢ [] → AreFilled os
filled_beside ns ms os n m p none first second one some =
    let P : NodeView → Type 0 = λ (l : NodeView). l.items ≢ [] in
    let single : All P ns = subst (All P) (sym none) (All-nil P) in
    let each : All P ms = subst (All P) (sym first) (All-push P ns n single (λ e. absurd (omega (arith, ap length (sym one ∙ e))))) in
    subst (All P) (sym second) (All-push P ms m each some)

pub gained_beside : (ps qs : List Placed) (ns ms os : List NodeView) (n m : NodeView) (p : Placed) → qs ≡ [] → ns ≡ [] → ms ≡ ns ++ n ∷ []
    → os ≡ ms ++ m ∷ [] → n.items ≡ p ∷ [] → m.items ≡ ps → Gains ps (qs ++ all_items os) p
gained_beside ps qs ns ms os n m p empty none first second one held =
    let single : all_items ms ≡ p ∷ [] = ap all_items first ∙ (items_pushed ns n ∙ (ap (λ l. all_items l ++ n.items) none ∙ one)) in
    let both : all_items os ≡ p ∷ ps = ap all_items second ∙ (items_pushed ms m ∙ (ap (λ l. l ++ m.items) single ∙ ap (λ l. p ∷ l) held)) in
    subst (λ l. Gains ps l p) (sym (ap (λ l. l ++ all_items os) empty ∙ both)) (gained_first ps p)
