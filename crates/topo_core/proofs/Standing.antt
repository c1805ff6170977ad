-- Each live feature stands in the index after a change, and after one that was refused.
use Rattle.std.proofs.Common.{◌≡◌, ◌≢◌, ◌↔◌, ◌⊎◌, inl, inr, ℕ, List, [], Option, Some, None, refl, sym, ap, subst, ◌∙◌, Contains}
use Rattle.std.specs.Option.{IfSome, option_map}
use Rattle.plane_terms.specs.Rectangle.{Rectangle}
use Rattle.topology_terms.specs.Feature.{Feature, feature_at, env, IsSetAt}
use Rattle.topology_terms.specs.Entry.{Entry}
use Rattle.topology_terms.specs.Project.{InForce}
use Rattle.sound_laws.proofs.Edits.{same_or_not}
use Rattle.sound_laws.proofs.FeatureLists.{handle_of}
use Rattle.feature_store.specs.Stored.{Stored, IsSame}
use Rattle.grid_index.specs.Near.{HoldsSame, Gains, Loses}
use Rattle.grid_index.specs.declared.placed.Placed.{Placed}
use Rattle.validation.specs.Placed.{placed_of, ArePlaced}
use Rattle.topo_core.specs.Topologies.{project_of, AreLive, IsIndexed}

pub none_placed : (ps : List Placed) (F : List Feature) → F ≡ [] → ArePlaced ps F
unfolding feature_at
none_placed ps F e h f k = let l = rw e at k in absurd cc

pub still_placed : (ps qs : List Placed) (F : List Feature) → HoldsSame ps qs → ArePlaced ps F → ArePlaced qs F
still_placed ps qs F same placed h f e = (same (placed_of f)).1 (placed h f e)

-- the pair of a feature that is there
placed_some : (o : Option Feature) (q : Placed) → option_map placed_of o ≡ Some q → (f : Feature) × (o ≡ Some f) × (placed_of f ≡ q)
placed_some None q e = absurd cc
placed_some (Some f) q e = (f, refl, cc)

some_placed : (o : Option Feature) (f : Feature) → o ≡ Some f → option_map placed_of o ≡ Some (placed_of f)
some_placed o f e = rw e refl

handle_same : (f g : Feature) → placed_of f ≡ placed_of g → f.handle ≡ g.handle
handle_same f g e = ap (λ (q : Placed). q.handle) e

own_handle : (o : Option Feature) (h : ℕ) (f : Feature) → IfSome o (λ (g : Feature). g.handle ≡ h) → o ≡ Some f → f.handle ≡ h
own_handle o h f own e = subst (λ p. IfSome p (λ (g : Feature). g.handle ≡ h)) e own

-- ---- what the index holds after a pair is put, and another taken unless it stays
abbrev pub IsPut : Option Placed → List Placed → List Placed → Type 0
IsPut comes ps mid = (q : Placed) → Contains mid q ↔ (Contains ps q ⊎ (comes ≡ Some q))

abbrev pub IsTaken : Option Placed → Option Placed → List Placed → List Placed → Type 0
IsTaken gone stays mid new = (q : Placed) → Contains new q ↔ (Contains mid q × (gone ≡ Some q → stays ≡ Some q))

same_some : (p q : Placed) → Some p ≡ Some q → q ≡ p
same_some p q e = cc

pub put_some : (comes : Option Placed) (p : Placed) (ps mid : List Placed) → comes ≡ Some p → Gains ps mid p → IsPut comes ps mid
put_some comes p ps mid e put q = (
  (λ k. elim ((put q).0 k) [ inl m ↦ inl m | inr m ↦ inr (e ∙ ap (λ (x : Placed). Some x) (sym m)) ]),
  (λ k. (put q).1 (elim k [ inl m ↦ inl m | inr m ↦ inr (same_some p q (sym e ∙ m)) ])),
)

-- where the live feature of the handle lies, there is a pair
pub stands_placed : (h : ℕ) (F : List Feature) (ps : List Placed) (o : Option Placed) → o ≡ option_map placed_of (feature_at F h)
    → ArePlaced ps F → (q : Placed) → o ≡ Some q → Contains ps q
stands_placed h F ps o s all = at (feature_at F h) refl s
  where
    none_some : {A : Type 0} {a : A} → None ≡ Some a → ⊥
    none_some e = cc

    at : (x : Option Feature) → feature_at F h ≡ x → o ≡ option_map placed_of x → (q : Placed) → o ≡ Some q → Contains ps q
    at None e t q k = absurd (none_some (sym t ∙ k))
    at (Some f) e t q k = subst (Contains ps) (sym (same_some (placed_of f) q (sym t ∙ k))) (all h f e)

pub take_some : (gone stays : Option Placed) (p : Placed) (mid new : List Placed) → gone ≡ Some p → (stays ≡ Some p → ⊥) → Loses mid new p
    → IsTaken gone stays mid new
take_some gone stays p mid new e other lost q = (
  (λ k. let y = (lost q).0 k in (y.0, λ g. absurd (y.1 (same_some p q (sym e ∙ g))))),
  (λ k. (lost q).1 (k.0, λ same. other (k.1 (e ∙ ap (λ (x : Placed). Some x) (sym same)) ∙ ap (λ (x : Placed). Some x) same))),
)

-- the pair of what should have come is taken back
pub placed_back : (h : ℕ) (kept : Option Feature) (F : List Feature) (ps mid new : List Placed)
    → IfSome kept (λ (f : Feature). f.handle ≡ h) → IsPut (option_map placed_of kept) ps mid
    → IsTaken (option_map placed_of kept) (option_map placed_of (feature_at F h)) mid new → ArePlaced ps F → ArePlaced new F
placed_back h kept F ps mid new own put taken placed k f e =
    (taken (placed_of f)).1 (
      (put (placed_of f)).1 (inl (placed k f e)),
      λ came.
          let g = placed_some kept (placed_of f) came in
          let here : k ≡ h = sym (handle_of F k f e) ∙ (sym (handle_same g.0 f g.2) ∙ own_handle kept h g.0 own g.1) in
          some_placed (feature_at F h) f (subst (λ n. feature_at F n ≡ Some f) here e),
    )

-- what comes stands in it, and what has gone does not
pub placed_set : (h : ℕ) (kept : Option Feature) (F G : List Feature) (ps mid new : List Placed) → IsSetAt h kept F G
    → IsPut (option_map placed_of kept) ps mid
    → IsTaken (option_map placed_of (feature_at F h)) (option_map placed_of kept) mid new → ArePlaced ps F → ArePlaced new G
placed_set h kept F G ps mid new set put taken placed k g e = elim (same_or_not k h) [
  | inl s ↦
      let came : kept ≡ Some g = sym set.here ∙ subst (λ n. feature_at G n ≡ Some g) s e in
      let pair = some_placed kept g came in
      (taken (placed_of g)).1 ((put (placed_of g)).1 (inr pair), λ gone. pair)
  | inr d ↦
      let stood : feature_at F k ≡ Some g = sym (set.others k d) ∙ e in
      (taken (placed_of g)).1 (
        (put (placed_of g)).1 (inl (placed k g stood)),
        λ gone.
            let f = placed_some (feature_at F h) (placed_of g) gone in
            absurd (d (sym (handle_of F k g stood) ∙ (sym (handle_same f.0 g f.2) ∙ handle_of F h f.0 f.1))),
      )
]

-- ---- a feature under the next handle
abbrev pub IsNextPut : Rectangle → ℕ → List Placed → List Placed → Type 0
IsNextPut r n ps mid = (q : Placed) → Contains mid q ↔ (Contains ps q ⊎ (q ≡ record { rect = r; handle = n }))

pub next_back : (r : Rectangle) (n : ℕ) (F : List Feature) (ps mid new : List Placed) → feature_at F n ≡ None → IsNextPut r n ps mid
    → ((q : Placed) → Contains new q ↔ (Contains mid q × (q ≢ record { rect = r; handle = n }))) → ArePlaced ps F → ArePlaced new F
next_back r n F ps mid new none put taken placed k f e =
    (taken (placed_of f)).1 (
      (put (placed_of f)).1 (inl (placed k f e)),
      λ same.
          let here : k ≡ n = sym (handle_of F k f e) ∙ ap (λ (q : Placed). q.handle) same in
          let l : Some f ≡ None = sym (subst (λ m. feature_at F m ≡ Some f) here e) ∙ none in
          cc,
    )

pub next_placed : (n : ℕ) (f : Feature) (F G : List Feature) (ps mid : List Placed) → f.handle ≡ n → IsSetAt n (Some f) F G
    → IsNextPut (env f) n ps mid → ArePlaced ps F → ArePlaced mid G
next_placed n f F G ps mid own set put placed k g e = elim (same_or_not k n) [
  | inl s ↦
      let l : Some f ≡ Some g = sym set.here ∙ subst (λ m. feature_at G m ≡ Some g) s e in
      let same : f ≡ g = cc in
      (put (placed_of g)).1 (inr (subst (λ (x : Feature). placed_of x ≡ record { rect = env f; handle = n }) same
      (ap (λ m. record { rect = env f; handle = m }) own)))
  | inr d ↦ (put (placed_of g)).1 (inl (placed k g (sym (set.others k d) ∙ e)))
]

-- ---- a change that was refused once there was room
pub same_indexed : (s r : Stored) (rules : List InForce) (d e : List Rectangle) (es : List Entry) (ps qs : List Placed) → IsSame s r → e ≡ d
    → (ArePlaced ps r.features → ArePlaced qs r.features) → (AreLive ps r.features → AreLive qs r.features)
    → IsIndexed (project_of s rules d es) ps → IsIndexed (project_of r rules e es) qs
same_indexed s r rules d e es ps qs same dirt placed live t = record {
  topology = rw (same.classes, same.features, same.next, dirt) t.topology;
  placed = placed (subst (ArePlaced ps) (sym same.features) t.placed);
  live = live (subst (AreLive ps) (sym same.features) t.live);
}
