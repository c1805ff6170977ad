-- A shape has one fault at most.
use Rattle.std.proofs.Common.{ℕ, zero, suc, ◌≡◌, List, [], ◌∷◌, Some, refl, sym, ap, ◌∙◌, subst, ◌⊎◌, inl, inr}
use Rattle.std.specs.List.{slice_get}
use Rattle.std.proofs.lemmas.Bool.{cases_order}
use Rattle.plane_terms.specs.Segment.{Segment, Overlap}
use Rattle.plane_terms.specs.Shape.{Shape, rings_of, segments_of}
use Rattle.plane_terms.specs.Share.{CrossOnce}
use Rattle.plane_terms.specs.ShapeFaults.{IsShort, IsFirstOf, IsFew, IsBefore, IsPair, AreBad, IsFirstPair, IsFault}
use Rattle.plane_terms.specs.declared.share.Share.TheVariants as share
use Rattle.plane_terms.specs.declared.shape_fault.ShapeFault.{ShapeFault}
use Rattle.plane_terms.specs.declared.shape_fault.ShapeFault.TheVariants.{TooFew, TooMany, Cross, Along, NoMemory}
use Rattle.cell_laws.proofs.Shares.{means_one}

pub first_of : {A : Type 0} (P : A → Type 0) (xs : List A) (m n : ℕ) → IsFirstOf P xs m → IsFirstOf P xs n → m ≡ n
first_of P [] m n h k = absurd h
first_of P (x ∷ xs) zero zero h k = refl
first_of P (x ∷ xs) zero (suc n) h k = absurd (k.0 h)
first_of P (x ∷ xs) (suc m) zero h k = absurd (h.0 k)
first_of P (x ∷ xs) (suc m) (suc n) h k = ap suc (first_of P xs m n h.1 k.1)

few : (s : Shape) (m n : ℕ) → IsFew s m → IsFew s n → m ≡ n
few s m n (inl h) (inl k) = h.1 ∙ sym k.1
few s m n (inl h) (inr k) = absurd (k.0 h.0)
few s m n (inr h) (inl k) = absurd (h.0 k.0)
few s m n (inr h) (inr k) = first_of (IsShort s.kind) (rings_of s) m n h.1 k.1

-- ---- bad pairs
bad_pair : (R : Segment → Segment → Type 0) (ss : List Segment) (i j : ℕ) → ((s t : Segment) → R s t → AreBad s t) → IsPair R ss i j
    → IsPair AreBad ss i j
bad_pair R ss i j bad p =
    record { ordered = p.ordered; s = p.s; t = p.t; first = p.first; second = p.second; says = bad p.s p.t p.says }

pairs_order : (i j a b : ℕ) → IsBefore a b i j ⊎ (IsBefore i j a b ⊎ ((i ≡ a) × (j ≡ b)))
pairs_order i j a b = elim (cases_order i a) [
  | inl e ↦ elim (cases_order j b) [ inl f ↦ inr (inr (e, f)) | inr (inl l) ↦ inr (inl (inr (e, l))) | inr (inr l) ↦ inl (inr (sym e, l)) ]
  | inr (inl l) ↦ inr (inl (inl l))
  | inr (inr l) ↦ inl (inl l)
]

pair : (R Q : Segment → Segment → Type 0) (ss : List Segment) (i j a b : ℕ) → ((s t : Segment) → R s t → AreBad s t)
    → ((s t : Segment) → Q s t → AreBad s t) → IsFirstPair R ss i j → IsFirstPair Q ss a b → (i ≡ a) × (j ≡ b)
pair R Q ss i j a b bad ill h k = by (pairs_order i j a b)
  where
    by : IsBefore a b i j ⊎ (IsBefore i j a b ⊎ ((i ≡ a) × (j ≡ b))) → (i ≡ a) × (j ≡ b)
    by (inl l) = absurd (h.first a b l (bad_pair Q ss a b ill k.pair))
    by (inr (inl l)) = absurd (k.first i j l (bad_pair R ss i j bad h.pair))
    by (inr (inr e)) = e

crosses : (s t : Segment) → CrossOnce s t → AreBad s t
crosses s t c = inl c

runs : (s t : Segment) → Overlap s t → AreBad s t
runs s t o = inr o

one_some : (s t : Segment) → Some s ≡ Some t → s ≡ t
one_some s t e = cc

same_at : (ss : List Segment) (i a : ℕ) (s t : Segment) → i ≡ a → slice_get ss i ≡ Some s → slice_get ss a ≡ Some t → s ≡ t
same_at ss i a s t e h k = one_some s t (sym h ∙ (ap (slice_get ss) e ∙ k))

share_differs : share.Cross ≡ share.Along → ⊥
share_differs e = cc

cross_or_along : (ss : List Segment) (i j a b : ℕ) → IsFirstPair CrossOnce ss i j → IsFirstPair Overlap ss a b → ⊥
cross_or_along ss i j a b h k =
    let e = pair CrossOnce Overlap ss i j a b crosses runs h k in
    let s = same_at ss i a h.pair.s k.pair.s e.0 h.pair.first k.pair.first in
    let t = same_at ss j b h.pair.t k.pair.t e.1 h.pair.second k.pair.second in
    let along : Overlap h.pair.s h.pair.t = subst (λ x. Overlap x h.pair.t) (sym s) (subst (Overlap k.pair.s) (sym t) k.pair.says) in
    share_differs (means_one share.Cross share.Along h.pair.s h.pair.t h.pair.says along)

-- ---- one fault
pub one_shape_fault : (s : Shape) (e f : ShapeFault) → (e ≡ NoMemory → ⊥) → (f ≡ NoMemory → ⊥) → IsFault s e → IsFault s f → e ≡ f
one_shape_fault s NoMemory f d c h k = absurd (d refl)
one_shape_fault s e NoMemory d c h k = absurd (c refl)
one_shape_fault s (TooFew m) (TooFew n) d c h k = ap TooFew (few s m n h k)
one_shape_fault s (TooFew m) (TooMany n) d c h k = absurd (k.0 m h)
one_shape_fault s (TooFew m) (Cross a b) d c h k = absurd (k.0 m h)
one_shape_fault s (TooFew m) (Along a b) d c h k = absurd (k.0 m h)
one_shape_fault s (TooMany m) (TooFew n) d c h k = absurd (h.0 n k)
one_shape_fault s (TooMany m) (TooMany n) d c h k = ap TooMany (h.1.0 ∙ sym k.1.0)
one_shape_fault s (TooMany m) (Cross a b) d c h k = absurd (k.1 m h.1)
one_shape_fault s (TooMany m) (Along a b) d c h k = absurd (k.1 m h.1)
one_shape_fault s (Cross i j) (TooFew n) d c h k = absurd (h.0 n k)
one_shape_fault s (Cross i j) (TooMany n) d c h k = absurd (h.1 n k.1)
one_shape_fault s (Cross i j) (Cross a b) d c h k =
    let e = pair CrossOnce CrossOnce (segments_of s) i j a b crosses crosses h.3 k.3 in
    ap (λ n. Cross n j) e.0 ∙ ap (λ n. Cross a n) e.1
one_shape_fault s (Cross i j) (Along a b) d c h k = absurd (cross_or_along (segments_of s) i j a b h.3 k.3)
one_shape_fault s (Along i j) (TooFew n) d c h k = absurd (h.0 n k)
one_shape_fault s (Along i j) (TooMany n) d c h k = absurd (h.1 n k.1)
one_shape_fault s (Along i j) (Cross a b) d c h k = absurd (cross_or_along (segments_of s) a b i j k.3 h.3)
one_shape_fault s (Along i j) (Along a b) d c h k =
    let e = pair Overlap Overlap (segments_of s) i j a b runs runs h.3 k.3 in
    ap (λ n. Along n j) e.0 ∙ ap (λ n. Along a n) e.1
