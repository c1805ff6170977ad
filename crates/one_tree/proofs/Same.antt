-- It is decided whether two features are the same.
use Rattle.std.proofs.Common.{◌≡◌, ◌≢◌, ◌⊎◌, inl, inr, ℤ, pos, negsuc, List, [], ◌∷◌, Option, Some, None, refl, ap}
use Rattle.plane_terms.specs.Point.{Place}
use Rattle.plane_terms.specs.Shape.{Shape}
use Rattle.plane_terms.specs.declared.kind.Kind.{Kind}
use Rattle.plane_terms.specs.declared.kind.Kind.TheVariants as kind
use Rattle.topology_terms.specs.Feature.{Feature, feature_of}
use Rattle.sound_laws.proofs.Edits.{same_or_not}

abbrev pub IsDecided : {A : Type 0} → A → A → Type 0
IsDecided x y = (x ≡ y) ⊎ (x ≢ y)

pub same_list : {A : Type 0} → ((x y : A) → IsDecided x y) → (xs ys : List A) → IsDecided xs ys
same_list d [] [] = inl refl
same_list d [] (y ∷ ys) = inr (λ e. cc)
same_list d (x ∷ xs) [] = inr (λ e. cc)
same_list d (x ∷ xs) (y ∷ ys) = elim (d x y) [
  | inr n ↦ inr (λ e. n cc)
  | inl h ↦ elim (same_list d xs ys) [ inr n ↦ inr (λ e. n cc) | inl t ↦ inl cc ]
]

pub same_option : {A : Type 0} → ((x y : A) → IsDecided x y) → (o q : Option A) → IsDecided o q
same_option d None None = inl refl
same_option d None (Some y) = inr (λ e. cc)
same_option d (Some x) None = inr (λ e. cc)
same_option d (Some x) (Some y) = elim (d x y) [ inl h ↦ inl cc | inr n ↦ inr (λ e. n cc) ]

same_int : (x y : ℤ) → IsDecided x y
same_int (pos m) (pos n) = elim (same_or_not m n) [ inl h ↦ inl cc | inr d ↦ inr (λ e. d cc) ]
same_int (pos m) (negsuc n) = inr (λ e. cc)
same_int (negsuc m) (pos n) = inr (λ e. cc)
same_int (negsuc m) (negsuc n) = elim (same_or_not m n) [ inl h ↦ inl cc | inr d ↦ inr (λ e. d cc) ]

places : (p q : Place) → p.x ≡ q.x → p.y ≡ q.y → p ≡ q
places p q h t = let e : record { x = p.x; y = p.y } ≡ q = rw (h, t) refl in e

shapes : (s t : Shape) → s.kind ≡ t.kind → s.parts ≡ t.parts → s ≡ t
shapes s t h u = let e : record { kind = s.kind; parts = s.parts } ≡ t = rw (h, u) refl in e

pub features : (f g : Feature) → f.handle ≡ g.handle → f.class ≡ g.class → f.subtype ≡ g.subtype → f.shape ≡ g.shape → f ≡ g
features f g h k t u = let e : feature_of f.handle f.class f.subtype f.shape ≡ g = rw (h, k, t, u) refl in e

same_place : (p q : Place) → IsDecided p q
same_place p q = elim (same_int p.x q.x) [
  | inr n ↦ inr (λ e. n (ap (λ (r : Place). r.x) e))
  | inl h ↦ elim (same_int p.y q.y) [ inr n ↦ inr (λ e. n (ap (λ (r : Place). r.y) e)) | inl t ↦ inl (places p q h t) ]
]

same_kind : (k l : Kind) → IsDecided k l
same_kind kind.Point kind.Point = inl refl
same_kind kind.Point kind.Line = inr (λ e. cc)
same_kind kind.Point kind.Polygon = inr (λ e. cc)
same_kind kind.Line kind.Point = inr (λ e. cc)
same_kind kind.Line kind.Line = inl refl
same_kind kind.Line kind.Polygon = inr (λ e. cc)
same_kind kind.Polygon kind.Point = inr (λ e. cc)
same_kind kind.Polygon kind.Line = inr (λ e. cc)
same_kind kind.Polygon kind.Polygon = inl refl

same_shape : (s t : Shape) → IsDecided s t
same_shape s t = elim (same_kind s.kind t.kind) [
  | inr n ↦ inr (λ e. n (ap (λ (r : Shape). r.kind) e))
  | inl h ↦ elim (same_list (same_list (same_list same_place)) s.parts t.parts) [
    | inr n ↦ inr (λ e. n (ap (λ (r : Shape). r.parts) e))
    | inl u ↦ inl (shapes s t h u)
  ]
]

same_feature : (f g : Feature) → IsDecided f g
same_feature f g = elim (same_or_not f.handle g.handle) [
  | inr n ↦ inr (λ e. n (ap (λ (r : Feature). r.handle) e))
  | inl h ↦ elim (same_or_not f.class g.class) [
    | inr n ↦ inr (λ e. n (ap (λ (r : Feature). r.class) e))
    | inl k ↦ elim (same_or_not f.subtype g.subtype) [
      | inr n ↦ inr (λ e. n (ap (λ (r : Feature). r.subtype) e))
      | inl t ↦ elim (same_shape f.shape g.shape) [
        | inr n ↦ inr (λ e. n (ap (λ (r : Feature). r.shape) e))
        | inl u ↦ inl (features f g h k t u)
      ]
    ]
  ]
]

pub same_kept : (o q : Option Feature) → IsDecided o q
same_kept = same_option same_feature

-- what does not differ is the same
pub not_apart : (o q : Option Feature) → ¬ (o ≢ q) → o ≡ q
not_apart o q n = elim (same_kept o q) [ inl e ↦ e | inr d ↦ absurd (n d) ]
