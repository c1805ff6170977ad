-- Each pair of the index is of a live feature after a change, and after one that was refused.
use Rattle.std.proofs.Common.{◌≡◌, ◌≢◌, ◌↔◌, ◌⊎◌, ◌∙◌, inl, inr, refl, sym, ap, subst, ℕ, List, [], ◌∷◌, Option, Some, None, Contains, length, take, get_or, ◌<◌, ◌+◌}
use Rattle.std.specs.Option.{option_map, option_to_list}
use Rattle.plane_terms.specs.Lists.{Every, SomeOf}
use Rattle.plane_terms.specs.Rectangle.{Rectangle}
use Rattle.plane_terms.proofs.ListLemmas.{SomeOf-append_left, SomeOf-append_right}
use Rattle.feature_store.specs.declared.slot.Slot.{Slot}
use Rattle.feature_store.specs.Slots.{feature_in, filled}
use Rattle.feature_store.proofs.Filling.{filled_more}
use Rattle.topology_terms.specs.Feature.{Feature, feature_at, env, IsAscending, IsSetAt}
use Rattle.sound_laws.proofs.Edits.{same_or_not}
use Rattle.sound_laws.proofs.FeatureLists.{handle_of, each_live}
use Rattle.grid_index.specs.Near.{HoldsSame}
use Rattle.grid_index.proofs.Adding.{contains_none}
use Rattle.grid_index.specs.declared.placed.Placed.{Placed}
use Rattle.validation.specs.Placed.{placed_of}
use Rattle.topo_core.specs.Topologies.{AreLive}
use Rattle.topo_core.proofs.Standing.{IsPut, IsTaken, IsNextPut}

placed_is : (o : Option Feature) (q : Placed) → option_map placed_of o ≡ Some q → (f : Feature) × (o ≡ Some f) × (q ≡ placed_of f)
placed_is None q e = absurd cc
placed_is (Some f) q e = (f, refl, cc)

-- what comes stands in it, and what has gone does not
pub set_live : (h : ℕ) (kept : Option Feature) (F G : List Feature) (ps mid new : List Placed)
    → IsSetAt h kept F G → IsPut (option_map placed_of kept) ps mid
    → IsTaken (option_map placed_of (feature_at F h)) (option_map placed_of kept) mid new → AreLive ps F → AreLive new G
set_live h kept F G ps mid new set put taken live q c =
    let t = (taken q).0 c in
    elim ((put q).0 t.0) [
      | inr came ↦ comes came
      | inl stood ↦
          let l = live q stood in
          elim (same_or_not l.0 h) [
            | inr d ↦ (l.0, l.1, set.others l.0 d ∙ l.2, l.3)
            | inl s ↦ comes (t.1 (rw (subst (λ n. feature_at F n ≡ Some l.1) s l.2) (ap (λ (x : Placed). Some x) (sym l.3))))
          ]
    ]
  where
    comes : option_map placed_of kept ≡ Some q → (n : ℕ) × (f : Feature) × (feature_at G n ≡ Some f) × (q ≡ placed_of f)
    comes came = let g = placed_is kept q came in (h, g.0, set.here ∙ g.1, g.2)

-- the pair of what should have come is taken back
pub back_live : (h : ℕ) (kept : Option Feature) (F : List Feature) (ps mid new : List Placed) → IsPut (option_map placed_of kept) ps mid
    → IsTaken (option_map placed_of kept) (option_map placed_of (feature_at F h)) mid new → AreLive ps F → AreLive new F
back_live h kept F ps mid new put taken live q c =
    let t = (taken q).0 c in
    elim ((put q).0 t.0) [
      | inl stood ↦ live q stood
      | inr came ↦ let g = placed_is (feature_at F h) q (t.1 came) in (h, g.0, g.1, g.2)
    ]

-- a feature under the next handle
pub next_live : (n : ℕ) (f : Feature) (F G : List Feature) (ps mid : List Placed) → f.handle ≡ n → feature_at F n ≡ None → IsSetAt n (Some f) F G
    → IsNextPut (env f) n ps mid → AreLive ps F → AreLive mid G
next_live n f F G ps mid own none set put live q c = elim ((put q).0 c) [
  | inr new ↦ (n, f, set.here, new ∙ ap (λ m. record { rect = env f; handle = m }) (sym own))
  | inl stood ↦
      let l = live q stood in
      (l.0, l.1, set.others l.0 (λ s. let e : Some l.1 ≡ None = sym (subst (λ m. feature_at F m ≡ Some l.1) s l.2) ∙ none in cc) ∙ l.2, l.3)
]

pub next_back_live : (r : Rectangle) (n : ℕ) (F : List Feature) (ps mid new : List Placed) → IsNextPut r n ps mid
    → ((q : Placed) → Contains new q ↔ (Contains mid q × (q ≢ record { rect = r; handle = n }))) → AreLive ps F → AreLive new F
next_back_live r n F ps mid new put taken live q c =
    let t = (taken q).0 c in
    elim ((put q).0 t.0) [ inl stood ↦ live q stood | inr same ↦ absurd (t.1 same) ]

-- ---- an index of nothing, and one that holds what another held
pub none_live : (ps : List Placed) (F : List Feature) → ps ≡ [] → AreLive ps F
none_live ps F e q c = absurd (contains_none q (subst (λ xs. Contains xs q) e c))

pub still_live : (ps qs : List Placed) (F : List Feature) → HoldsSame ps qs → AreLive ps F → AreLive qs F
still_live ps qs F same live q c = live q ((same q).0 c)

-- ---- what was put one by one
some_and_every : {A : Type 0} (P Q : A → Type 0) (xs : List A) → SomeOf P xs → Every Q xs → (x : A) × P x × Q x
some_and_every P Q [] h e = elim h [ ]
some_and_every P Q (x ∷ xs) h e = elim h [ inl p ↦ (x, p, e.0) | inr r ↦ some_and_every P Q xs r e.1 ]

pub put_live : (ps : List Placed) (F : List Feature) → IsAscending F
    → ((q : Placed) → Contains ps q → SomeOf (λ (f : Feature). q ≡ placed_of f) F) → AreLive ps F
put_live ps F u only q c =
    let own = each_live (λ (f : Feature). feature_at F f.handle ≡ Some f) F u
    (λ h f e. subst (λ n. feature_at F n ≡ Some f) (sym (handle_of F h f e)) e) in
    let x = some_and_every (λ (f : Feature). q ≡ placed_of f) (λ (f : Feature). feature_at F f.handle ≡ Some f) F (only q c) own in
    (x.0.handle, x.0, x.2, x.1)

pub some_filled_more : (P : Feature → Type 0) (S : List Slot) (i : ℕ) (s : Slot) → i < length S → s ≡ get_or S i s
    → SomeOf P (filled (take i S)) ⊎ SomeOf P (option_to_list (feature_in s)) → SomeOf P (filled (take (i + 1) S))
some_filled_more P S i s l e h = rw (filled_more S i s l e) (elim h [
  | inl k ↦ SomeOf-append_left P (filled (take i S)) (option_to_list (feature_in s)) k
  | inr k ↦ SomeOf-append_right P (filled (take i S)) (option_to_list (feature_in s)) k
])
