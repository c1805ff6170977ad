-- What an index over blocks finds, and how it follows them.
use Rattle.std.proofs.Common.{◌≡◌, ◌≢◌, ◌⊎◌, inl, inr, refl, sym, ap, ◌∙◌, subst, ℕ, zero, suc, ◌+◌, ◌<◌, Bool, true, false, not, List, [], ◌∷◌, ◌++◌, Contains, take, set, length, get_or, arith, Option, Some, None, Result, Ok, Err}
use Rattle.std.specs.Prelude.{◌↔◌, IfSome, IfOk}
use Rattle.std.specs.Result.{result_ok}
use Rattle.std.specs.List.{list_any, filter}
use Rattle.std.proofs.lemmas.Bool.{and_parts, and_from, or_cases, not-true, not_from_false, false≢true}
use Rattle.std.proofs.lemmas.Bool.Decides.{Decides-and, Decides-int_eq}
use Rattle.std.proofs.lemmas.Int.{ints}
use Rattle.std.proofs.lemmas.List.{take_more, get_or-set_same, get_or-set_other}
use Rattle.std.proofs.lemmas.List.Elements.{Contains-append_left, Contains-append_right, Contains-append_cases, Contains-push, Contains-push_cases}
use Rattle.std.proofs.lemmas.List.Folds.{Any-from_list_any, list_any_at}
use Rattle.plane_terms.specs.Lists.{Every}
use Rattle.plane_terms.specs.Rectangle.{Rectangle, IsProper, IsRectangle, is_within, rects_meet}
use Rattle.plane_terms.proofs.ListLemmas.{every_among, contains_among}
use Rattle.plane_terms.proofs.Truths.{same_by_truth}
use Rattle.sound_laws.proofs.Edits.{same_or_not}
use Rattle.sound_laws.proofs.Planes.{within_from_test}
use Rattle.grid_index.specs.declared.placed.Placed.{Placed}
use Rattle.grid_index.specs.declared.relation.Relation.{Relation}
use Rattle.grid_index.specs.declared.relation.Relation.TheVariants.{Meets, Holds, IsNested}
use Rattle.grid_index.specs.Near.{Gains, Loses, IsNear, IsNearRect}
use Rattle.grid_index.specs.Relations.{stands, is_found}
use Rattle.grid_index.proofs.Adding.{contains_none}
use Rattle.grid_index.proofs.Members.{among, filtered_from, filtered_to}
use Rattle.dirty_area.specs.Blocks.{joined}
use Rattle.dirty_area.specs.Indexed.{IsIndexed, IsAt, GainsSome, LosesSome, MeetsAt, placed_at, is_same}
use Rattle.dirty_area.specs.Parts.{AreNear}

-- ---- an index that is there
pub in_some : {A : Type 0} (P : A → Type 0) (o : Option A) (x : A) → o ≡ Some x → IfSome o P → P x
in_some P o x e h = subst (λ u. IfSome u P) e h

pub ok_in_some : {A E : Type 0} (P : A → Type 0) (o : Result A E) (u : Option A) → u ≡ result_ok o → IfOk o P → IfSome u P
ok_in_some P (Ok x) u e h = subst (λ v. IfSome v P) (sym e) h
ok_in_some P (Err x) u e h = subst (λ v. IfSome v P) (sym e) tt

-- one that another is made from
pub through : (o u : Option (List Placed)) (P : List Placed → Type 0) (R : List Placed → List Placed → Type 0) (Q : List Placed → Type 0)
    → ((ps qs : List Placed) → P ps → R ps qs → Q qs) → ((ps : List Placed) → o ≡ Some ps → IfSome u (R ps)) → (o ≡ None → u ≡ None)
    → IfSome o P → IfSome u Q
through (Some ps) (Some qs) P R Q step some none h = step ps qs h (some ps refl)
through (Some ps) None P R Q step some none h = tt
through None (Some qs) P R Q step some none h = absurd (let e = none refl in cc)
through None None P R Q step some none h = tt

-- ---- lists one after another
pub at_joined : (xss : List (List Rectangle)) (k : ℕ) (s : Rectangle) → Contains (get_or xss k []) s → Contains (joined xss) s
at_joined [] k s h = absurd (contains_none s h)
at_joined (xs ∷ xss) zero s h = Contains-append_left xs (joined xss) s h
at_joined (xs ∷ xss) (suc k) s h = Contains-append_right xs (joined xss) s (at_joined xss k s h)

pub joined_at : (xss : List (List Rectangle)) (s : Rectangle) → Contains (joined xss) s → (k : ℕ) × Contains (get_or xss k []) s
joined_at [] s h = absurd (contains_none s h)
joined_at (xs ∷ xss) s h = elim (Contains-append_cases xs (joined xss) s h) [
  | inl m ↦ (0, m)
  | inr m ↦ let k = joined_at xss s m in (suc k.0, k.1)
]

pub within_length : {A : Type 0} (xss : List (List A)) (k : ℕ) (s : A) → Contains (get_or xss k []) s → k < length xss
within_length [] k s h = absurd (contains_none s h)
within_length (xs ∷ xss) zero s h = omega arith
within_length (xs ∷ xss) (suc k) s h = let l = within_length xss k s h in omega (arith, l)

-- ---- what it finds
pub inner_meets : (s r : Rectangle) → IsProper s → is_within s r ≡ true → rects_meet r s ≡ true
inner_meets s r g e = let i = within_from_test s r e in grind (arith, ints)

outer_meets : (s r : Rectangle) → IsProper r → is_within r s ≡ true → rects_meet r s ≡ true
outer_meets s r g e = let i = within_from_test r s e in grind (arith, ints)

pub meets_back : (s r : Rectangle) → rects_meet s r ≡ true → rects_meet r s ≡ true
meets_back s r e = grind (arith, ints)

standing_meets : (k : Relation) (s r : Rectangle) → IsProper s → IsProper r → stands k s r ≡ true → rects_meet r s ≡ true
standing_meets Meets s r g h e = meets_back s r e
standing_meets Holds s r g h e = outer_meets s r h e
standing_meets IsNested s r g h e = elim (or_cases (is_within r s) (is_within s r) e) [ inl t ↦ outer_meets s r h t | inr t ↦ inner_meets s r g t ]

pub found_indexed : (k : Relation) (xss : List (List Rectangle)) (ps : List Placed) (r : Rectangle) → Every IsRectangle (joined xss) → IsRectangle r
    → IsIndexed xss ps → list_any (is_found k r) ps ≡ list_any (λ s. stands k s r) (joined xss)
found_indexed k xss ps r all one indexed = same_by_truth (list_any (is_found k r) ps) (list_any (λ s. stands k s r) (joined xss)) found asked
  where
    found : list_any (is_found k r) ps ≡ true → list_any (λ s. stands k s r) (joined xss) ≡ true
    found e =
        let a = Any-from_list_any (is_found k r) ps e in
        let p = a.1 in
        let c = at_joined xss p.handle p.rect ((indexed p).0 (a.0, a.2, a.3)) in
        let t = (and_parts (rects_meet r p.rect) (stands k p.rect r) a.4).1 in
        list_any_at (λ s. stands k s r) (joined xss) c.0 p.rect c.1 (ap (λ s. stands k s r) c.2 ∙ t)

    asked : list_any (λ s. stands k s r) (joined xss) ≡ true → list_any (is_found k r) ps ≡ true
    asked e =
        let a = Any-from_list_any (λ s. stands k s r) (joined xss) e in
        let s = a.1 in
        let m = standing_meets k s r (every_among IsRectangle (joined xss) all s (among (joined xss) s (a.0, a.2, a.3))).proper one.proper a.4 in
        let at = joined_at xss s (a.0, a.2, a.3) in
        let c = (indexed (placed_at at.0 s)).1 at.1 in
        list_any_at (is_found k r) ps c.0 (placed_at at.0 s) c.1 (ap (is_found k r) c.2 ∙ and_from (rects_meet r s) (stands k s r) m a.4)

-- ---- those that meet a rectangle
pub near_indexed : (xss : List (List Rectangle)) (ps : List Placed) (r : Rectangle) (ms : List Rectangle) → IsIndexed xss ps
    → ((s : Rectangle) → Contains ms s ↔ IsNearRect r ps s) → AreNear (joined xss) r ms
near_indexed xss ps r ms indexed near s = (
  (λ h.
      let m = (near s).0 h in
      let c = at_joined xss m.0.handle m.0.rect ((indexed m.0).0 m.1) in
      (subst (λ o. Contains (joined xss) o) m.2 c, meets_back r s (subst (λ o. rects_meet r o ≡ true) m.2 m.3))),
  (λ h.
      let at = joined_at xss s h.0 in
      (near s).1 (placed_at at.0 s, (indexed (placed_at at.0 s)).1 at.1, refl, meets_back s r h.1)),
)

pub near_filtered : (d : List Rectangle) (r : Rectangle) (ms : List Rectangle) → ms ≡ filter (λ s. rects_meet s r) d → AreNear d r ms
near_filtered d r ms e s = (
  (λ h.
      let k = filtered_from (λ o. rects_meet o r) d s (among _ s (subst (λ l. Contains l s) e h)) in
      (contains_among d s k.0, k.1)),
  (λ h. subst (λ l. Contains l s) (sym e) (contains_among _ s (filtered_to (λ o. rects_meet o r) d s (among d s h.0) h.1))),
)

-- the places of those
pub places_indexed : (xss : List (List Rectangle)) (ps : List Placed) (r : Rectangle) (v : List ℕ) → IsIndexed xss ps
    → ((a : ℕ) → Contains v a ↔ IsNear r ps a) → (k : ℕ) → Contains v k ↔ MeetsAt xss r k
places_indexed xss ps r v indexed near k = (
  (λ h.
      let m = (near k).0 h in
      let c = subst (λ a. Contains (get_or xss a []) m.0.rect) m.2 ((indexed m.0).0 m.1) in
      (m.0.rect, c, meets_back r m.0.rect m.3)),
  (λ h. (near k).1 (placed_at k h.0, (indexed (placed_at k h.0)).1 h.1, refl, meets_back h.0 r h.2)),
)

-- ---- one rectangle at a time
same_placed : (k : ℕ) (r : Rectangle) (q : Placed) → q.rect ≡ r → q.handle ≡ k → q ≡ placed_at k r
same_placed k r q e z =
    let same : q ≡ placed_at k r = λ i. record { rect = e i; handle = z i } in
    same

pub gained_none : (k : ℕ) (f : Rectangle → Bool) (ps : List Placed) → GainsSome k [] f ps ps
gained_none k f ps q = ((λ h. inl h), (λ h. elim h [ inl m ↦ m | inr m ↦ absurd (contains_none q.rect m.0.1) ]))

pub lost_none : (k : ℕ) (f : Rectangle → Bool) (ps : List Placed) → LosesSome k [] f ps ps
lost_none k f ps q = ((λ h. (h, λ m. contains_none q.rect m.0.1)), (λ h. h.0))

gained_one : (k : ℕ) (xs : List Rectangle) (f : Rectangle → Bool) (r : Rectangle) (os ps qs : List Placed) → f r ≡ true
    → Gains ps qs (placed_at k r) → GainsSome k xs f os ps → GainsSome k (xs ++ r ∷ []) f os qs
gained_one k xs f r os ps qs passing gains before q = (to, from)
  where
    to : Contains qs q → Contains os q ⊎ (IsAt k (xs ++ r ∷ []) q × (f q.rect ≡ true))
    to h = elim ((gains q).0 h) [
      | inl m ↦ elim ((before q).0 m) [
        | inl o ↦ inl o
        | inr o ↦ inr ((o.0.0, Contains-append_left xs (r ∷ []) q.rect o.0.1), o.1)
      ]
      | inr e ↦
          let rect : q.rect ≡ r = ap (λ (p : Placed). p.rect) e in
          inr ((ap (λ (p : Placed). p.handle) e, subst (λ s. Contains (xs ++ r ∷ []) s) (sym rect) (Contains-push xs r)), ap f rect ∙ passing)
    ]

    from : Contains os q ⊎ (IsAt k (xs ++ r ∷ []) q × (f q.rect ≡ true)) → Contains qs q
    from h = elim h [
      | inl m ↦ (gains q).1 (inl ((before q).1 (inl m)))
      | inr m ↦ elim (Contains-push_cases xs r q.rect m.0.1) [
        | inl o ↦ (gains q).1 (inl ((before q).1 (inr ((m.0.0, o), m.1))))
        | inr e ↦ (gains q).1 (inr (same_placed k r q (sym e) m.0.0))
      ]
    ]

gained_other : (k : ℕ) (xs : List Rectangle) (f : Rectangle → Bool) (r : Rectangle) (os ps : List Placed) → f r ≡ false
    → GainsSome k xs f os ps → GainsSome k (xs ++ r ∷ []) f os ps
gained_other k xs f r os ps other before q = (
  (λ h. elim ((before q).0 h) [
    | inl o ↦ inl o
    | inr o ↦ inr ((o.0.0, Contains-append_left xs (r ∷ []) q.rect o.0.1), o.1)
  ]),
  (λ h. elim h [
    | inl o ↦ (before q).1 (inl o)
    | inr m ↦ elim (Contains-push_cases xs r q.rect m.0.1) [
      | inl o ↦ (before q).1 (inr ((m.0.0, o), m.1))
      | inr e ↦ absurd (false≢true (sym other ∙ (ap f e ∙ m.1)))
    ]
  ]),
)

pub gained_next : (k : ℕ) (xs : List Rectangle) (f : Rectangle → Bool) (i : ℕ) (r : Rectangle) (os ps qs : List Placed) → i < length xs
    → r ≡ get_or xs i r → (f r ≡ true → Gains ps qs (placed_at k r)) → (f r ≡ false → qs ≡ ps) → GainsSome k (take i xs) f os ps
    → GainsSome k (take (i + 1) xs) f os qs
gained_next k xs f i r os ps qs l is passing other before =
    let more : take (i + 1) xs ≡ take i xs ++ r ∷ [] = take_more xs i r l ∙ ap (λ s. take i xs ++ s ∷ []) (sym is) in
    subst (λ e. GainsSome k e f os qs) (sym more) (at (f r) refl)
  where
    at : (b : Bool) → f r ≡ b → GainsSome k (take i xs ++ r ∷ []) f os qs
    at true e = gained_one k (take i xs) f r os ps qs e (passing e) before
    at false e = subst (λ o. GainsSome k (take i xs ++ r ∷ []) f os o) (sym (other e)) (gained_other k (take i xs) f r os ps e before)

lost_one : (k : ℕ) (xs : List Rectangle) (f : Rectangle → Bool) (r : Rectangle) (os ps qs : List Placed) → f r ≡ true
    → Loses ps qs (placed_at k r) → LosesSome k xs f os ps → LosesSome k (xs ++ r ∷ []) f os qs
lost_one k xs f r os ps qs passing loses before q = (to, from)
  where
    to : Contains qs q → Contains os q × ¬ (IsAt k (xs ++ r ∷ []) q × (f q.rect ≡ true))
    to h =
        let a = (loses q).0 h in
        let b = (before q).0 a.0 in (
          b.0,
          λ m. elim (Contains-push_cases xs r q.rect m.0.1) [
            | inl o ↦ b.1 ((m.0.0, o), m.1)
            | inr e ↦ a.1 (same_placed k r q (sym e) m.0.0)
          ],
        )

    from : Contains os q × ¬ (IsAt k (xs ++ r ∷ []) q × (f q.rect ≡ true)) → Contains qs q
    from h = (loses q).1 (
      (before q).1 (h.0, λ m. h.1 ((m.0.0, Contains-append_left xs (r ∷ []) q.rect m.0.1), m.1)),
      λ e.
          let rect : q.rect ≡ r = ap (λ (p : Placed). p.rect) e in
          h.1 ((ap (λ (p : Placed). p.handle) e, subst (λ s. Contains (xs ++ r ∷ []) s) (sym rect) (Contains-push xs r)), ap f rect ∙ passing),
    )

lost_other : (k : ℕ) (xs : List Rectangle) (f : Rectangle → Bool) (r : Rectangle) (os ps : List Placed) → f r ≡ false
    → LosesSome k xs f os ps → LosesSome k (xs ++ r ∷ []) f os ps
lost_other k xs f r os ps other before q = (
  (λ h.
      let b = (before q).0 h in (
        b.0,
        λ m. elim (Contains-push_cases xs r q.rect m.0.1) [
          | inl o ↦ b.1 ((m.0.0, o), m.1)
          | inr e ↦ false≢true (sym other ∙ (ap f e ∙ m.1))
        ],
      )),
  (λ h. (before q).1 (h.0, λ m. h.1 ((m.0.0, Contains-append_left xs (r ∷ []) q.rect m.0.1), m.1))),
)

pub lost_next : (k : ℕ) (xs : List Rectangle) (f : Rectangle → Bool) (i : ℕ) (r : Rectangle) (os ps qs : List Placed) → i < length xs
    → r ≡ get_or xs i r → (f r ≡ true → Loses ps qs (placed_at k r)) → (f r ≡ false → qs ≡ ps) → LosesSome k (take i xs) f os ps
    → LosesSome k (take (i + 1) xs) f os qs
lost_next k xs f i r os ps qs l is passing other before =
    let more : take (i + 1) xs ≡ take i xs ++ r ∷ [] = take_more xs i r l ∙ ap (λ s. take i xs ++ s ∷ []) (sym is) in
    subst (λ e. LosesSome k e f os qs) (sym more) (at (f r) refl)
  where
    at : (b : Bool) → f r ≡ b → LosesSome k (take i xs ++ r ∷ []) f os qs
    at true e = lost_one k (take i xs) f r os ps qs e (passing e) before
    at false e = subst (λ o. LosesSome k (take i xs ++ r ∷ []) f os o) (sym (other e)) (lost_other k (take i xs) f r os ps e before)

-- ---- one block
-- a list in place of another, where the index holds the same of it
pub block_set : (xss : List (List Rectangle)) (k : ℕ) (ys : List Rectangle) (ps qs : List Placed) → k < length xss → IsIndexed xss ps
    → ((q : Placed) → q.handle ≢ k → Contains qs q ↔ Contains ps q) → ((q : Placed) → q.handle ≡ k → Contains qs q ↔ Contains ys q.rect)
    → IsIndexed (set xss k ys) qs
block_set xss k ys ps qs l indexed others here q = elim (same_or_not q.handle k) [
  | inl e ↦
      let same : get_or (set xss k ys) q.handle [] ≡ ys = ap (λ i. get_or (set xss k ys) i []) e ∙ get_or-set_same xss k ys [] l in
      subst (λ zs. Contains qs q ↔ Contains zs q.rect) (sym same) (here q e)
  | inr n ↦
      let same : get_or (set xss k ys) q.handle [] ≡ get_or xss q.handle [] = get_or-set_other xss k q.handle ys [] n in
      let a = others q n in
      let b = indexed q in
      subst (λ zs. Contains qs q ↔ Contains zs q.rect) (sym same) ((λ h. b.0 (a.0 h)), (λ h. a.1 (b.1 h)))
]

pub one_put : (xss : List (List Rectangle)) (k : ℕ) (r : Rectangle) (ps qs : List Placed) → k < length xss → Gains ps qs (placed_at k r)
    → IsIndexed xss ps → IsIndexed (set xss k (get_or xss k [] ++ r ∷ [])) qs
one_put xss k r ps qs l gains indexed = block_set xss k (xs ++ r ∷ []) ps qs l indexed others here
  where
    xs : List Rectangle
    xs = get_or xss k []

    others : (q : Placed) → q.handle ≢ k → Contains qs q ↔ Contains ps q
    others q n = (
      (λ h. elim ((gains q).0 h) [ inl m ↦ m | inr e ↦ absurd (n (ap (λ (p : Placed). p.handle) e)) ]),
      (λ h. (gains q).1 (inl h)),
    )

    here : (q : Placed) → q.handle ≡ k → Contains qs q ↔ Contains (xs ++ r ∷ []) q.rect
    here q e = (
      (λ h. elim ((gains q).0 h) [
        | inl m ↦ Contains-append_left xs (r ∷ []) q.rect (subst (λ i. Contains (get_or xss i []) q.rect) e ((indexed q).0 m))
        | inr t ↦ subst (λ s. Contains (xs ++ r ∷ []) s) (sym (ap (λ (p : Placed). p.rect) t)) (Contains-push xs r)
      ]),
      (λ h. elim (Contains-push_cases xs r q.rect h) [
        | inl m ↦ (gains q).1 (inl ((indexed q).1 (subst (λ i. Contains (get_or xss i []) q.rect) (sym e) m)))
        | inr t ↦ (gains q).1 (inr (same_placed k r q (sym t) e))
      ]),
    )

is_false : (b : Bool) → (b ≡ true → ⊥) → b ≡ false
is_false false h = refl
is_false true h = absurd (h refl)

pub some_dropped : (xss : List (List Rectangle)) (k : ℕ) (xs : List Rectangle) (f : Rectangle → Bool) (ps qs : List Placed) → k < length xss
    → get_or xss k [] ≡ xs → LosesSome k xs f ps qs → IsIndexed xss ps → IsIndexed (set xss k (filter (λ s. not (f s)) xs)) qs
some_dropped xss k xs f ps qs l is loses indexed = block_set xss k (filter (λ s. not (f s)) xs) ps qs l indexed others here
  where
    others : (q : Placed) → q.handle ≢ k → Contains qs q ↔ Contains ps q
    others q n = ((λ h. ((loses q).0 h).0), (λ h. (loses q).1 (h, λ m. n m.0.0)))

    at : (q : Placed) → q.handle ≡ k → get_or xss q.handle [] ≡ xs
    at q e = ap (λ i. get_or xss i []) e ∙ is

    here : (q : Placed) → q.handle ≡ k → Contains qs q ↔ Contains (filter (λ s. not (f s)) xs) q.rect
    here q e = (
      (λ h.
          let a = (loses q).0 h in
          let m : Contains xs q.rect = subst (λ zs. Contains zs q.rect) (at q e) ((indexed q).0 a.0) in
          let out : f q.rect ≡ false = is_false (f q.rect) (λ t. a.1 ((e, m), t)) in
          contains_among _ q.rect (filtered_to (λ s. not (f s)) xs q.rect (among xs q.rect m) (not_from_false (f q.rect) out))),
      (λ h.
          let a = filtered_from (λ s. not (f s)) xs q.rect (among _ q.rect h) in
          (loses q).1 (
            (indexed q).1 (subst (λ zs. Contains zs q.rect) (sym (at q e)) (contains_among xs q.rect a.0)),
            λ m. false≢true (sym (not-true (f q.rect) a.1) ∙ m.1),
          )),
    )

-- ---- whether a list has a rectangle
is_one : (s t : Rectangle) → is_same s t ≡ true → s ≡ t
is_one s t e =
    let k = (Decides-and _ _ (Decides-int_eq s.x0 t.x0)
    (Decides-and _ _ (Decides-int_eq s.y0 t.y0)
    (Decides-and _ _ (Decides-int_eq s.x1 t.x1) (Decides-int_eq s.y1 t.y1)))).0 e in
    let same : s ≡ t = λ i. record { x0 = k.0 i; y0 = k.1.0 i; x1 = k.1.1.0 i; y1 = k.1.1.1 i } in
    same

one_is : (s : Rectangle) → is_same s s ≡ true
one_is s =
    (Decides-and _ _ (Decides-int_eq s.x0 s.x0)
    (Decides-and _ _ (Decides-int_eq s.y0 s.y0)
    (Decides-and _ _ (Decides-int_eq s.x1 s.x1) (Decides-int_eq s.y1 s.y1)))).1 (refl, (refl, (refl, refl)))

abbrev pub has_one : List Rectangle → Rectangle → Bool
has_one xs s = list_any (λ t. is_same t s) xs

has_from : (xs : List Rectangle) (s : Rectangle) → has_one xs s ≡ true → Contains xs s
has_from xs s e =
    let a = Any-from_list_any (λ t. is_same t s) xs e in
    subst (λ t. Contains xs t) (is_one a.1 s a.4) (a.0, a.2, a.3)

has_to : (xs : List Rectangle) (s : Rectangle) → Contains xs s → has_one xs s ≡ true
has_to xs s m = list_any_at (λ t. is_same t s) xs m.0 s m.1 (ap (λ t. is_same t s) m.2 ∙ one_is s)

-- ---- a block in place of another
pub block_traded : (xss : List (List Rectangle)) (k : ℕ) (xs ys : List Rectangle) (ps qs os : List Placed) → k < length xss
    → get_or xss k [] ≡ xs → LosesSome k xs (λ s. not (has_one ys s)) ps qs → GainsSome k ys (λ s. not (has_one xs s)) qs os → IsIndexed xss ps
    → IsIndexed (set xss k ys) os
block_traded xss k xs ys ps qs os l is loses gains indexed = block_set xss k ys ps os l indexed others here
  where
    others : (q : Placed) → q.handle ≢ k → Contains os q ↔ Contains ps q
    others q n = (
      (λ h. elim ((gains q).0 h) [ inl m ↦ ((loses q).0 m).0 | inr m ↦ absurd (n m.0.0) ]),
      (λ h. (gains q).1 (inl ((loses q).1 (h, λ m. n m.0.0)))),
    )

    at : (q : Placed) → q.handle ≡ k → get_or xss q.handle [] ≡ xs
    at q e = ap (λ i. get_or xss i []) e ∙ is

    to : (q : Placed) → q.handle ≡ k → Contains os q → Contains ys q.rect
    to q e h = elim ((gains q).0 h) [
      | inl m ↦
          let a = (loses q).0 m in
          let x : Contains xs q.rect = subst (λ zs. Contains zs q.rect) (at q e) ((indexed q).0 a.0) in
          kept a.1 x (has_one ys q.rect) refl
      | inr m ↦ m.0.1
    ]
      where
        kept : ¬ (IsAt k xs q × (not (has_one ys q.rect) ≡ true)) → Contains xs q.rect → (b : Bool) → has_one ys q.rect ≡ b → Contains ys q.rect
        kept n x true t = has_from ys q.rect t
        kept n x false t = absurd (n ((e, x), not_from_false (has_one ys q.rect) t))

    from : (q : Placed) → q.handle ≡ k → Contains ys q.rect → Contains os q
    from q e h = was (has_one xs q.rect) refl
      where
        was : (b : Bool) → has_one xs q.rect ≡ b → Contains os q
        was false t = (gains q).1 (inr ((e, h), not_from_false (has_one xs q.rect) t))
        was true t = (gains q).1 (inl ((loses q).1 (
          (indexed q).1 (subst (λ zs. Contains zs q.rect) (sym (at q e)) (has_from xs q.rect t)),
          λ m. false≢true (sym (not-true (has_one ys q.rect) m.1) ∙ has_to ys q.rect h),
        )))

    here : (q : Placed) → q.handle ≡ k → Contains os q ↔ Contains ys q.rect
    here q e = (to q e, from q e)

-- ---- a block more
at_pushed : (xss : List (List Rectangle)) (ys : List Rectangle) (k : ℕ) (s : Rectangle) → Contains (get_or (xss ++ ys ∷ []) k []) s
    ↔ (Contains (get_or xss k []) s ⊎ ((k ≡ length xss) × Contains ys s))
at_pushed [] ys zero s = ((λ h. inr (refl, h)), (λ h. elim h [ inl m ↦ absurd (contains_none s m) | inr m ↦ m.1 ]))
at_pushed [] ys (suc k) s = ((λ h. absurd (contains_none s h)), (λ h. elim h [ inl m ↦ absurd (contains_none s m) | inr m ↦ absurd (omega (arith, m.0)) ]))
at_pushed (xs ∷ xss) ys zero s = ((λ h. inl h), (λ h. elim h [ inl m ↦ m | inr m ↦ absurd (omega (arith, m.0)) ]))
at_pushed (xs ∷ xss) ys (suc k) s =
    let i = at_pushed xss ys k s in (
      (λ h. elim (i.0 h) [ inl m ↦ inl m | inr m ↦ inr (ap suc m.0, m.1) ]),
      (λ h. elim h [ inl m ↦ i.1 (inl m) | inr m ↦ i.1 (inr (omega (arith, m.0), m.1)) ]),
    )

pub block_pushed : (xss : List (List Rectangle)) (ys : List Rectangle) (ps qs : List Placed) → GainsSome (length xss) ys (λ s. true) ps qs
    → IsIndexed xss ps → IsIndexed (xss ++ ys ∷ []) qs
block_pushed xss ys ps qs gains indexed q =
    let i = at_pushed xss ys q.handle q.rect in (
      (λ h. elim ((gains q).0 h) [ inl m ↦ i.1 (inl ((indexed q).0 m)) | inr m ↦ i.1 (inr m.0) ]),
      (λ h. elim (i.0 h) [ inl m ↦ (gains q).1 (inl ((indexed q).1 m)) | inr m ↦ (gains q).1 (inr (m, refl)) ]),
    )

pub empty_pushed : (xss : List (List Rectangle)) (ps : List Placed) → IsIndexed xss ps → IsIndexed (xss ++ [] ∷ []) ps
empty_pushed xss ps indexed = block_pushed xss [] ps ps (gained_none (length xss) (λ s. true) ps) indexed
