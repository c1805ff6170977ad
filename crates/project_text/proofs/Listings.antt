-- The lines of a section, and the half-planes of a cell, one more at a time.
use Rattle.std.proofs.Common.{ℕ, zero, suc, ◌≡◌, ◌+◌, Bool, ltb, List, [], ◌∷◌, ◌++◌, take, drop, length, sym, ◌∙◌, ap, append_assoc, append-nil, add-one, Option, Some, None, refl, arith}
use Rattle.std.proofs.lemmas.Bool.{le-ltb}
use Rattle.std.specs.Prelude.{flat_map, slice_get}
use Rattle.plane_terms.specs.HalfPlane.{HalfPlane}
use Rattle.topology_terms.specs.Feature.{Class}
use Rattle.topology_terms.specs.Lookups.{class_at}
use Rattle.project_text.specs.Pushed.{class_text, half_text, halves_text, some}

abbrev pub said_of : {X : Type 0} → (X → List ℕ) → Option X → List ℕ
said_of f None = []
said_of f (Some x) = f x

take_more : {X : Type 0} (f : X → List ℕ) (xs : List X) (i : ℕ) → flat_map f (take (suc i) xs) ≡ flat_map f (take i xs) ++ said_of f
    (slice_get xs i)
take_more f [] zero = refl
take_more f [] (suc i) = refl
take_more f (y ∷ ys) zero = append-nil (f y)
take_more f (y ∷ ys) (suc i) = ap (λ t. f y ++ t) (take_more f ys i) ∙ sym (append_assoc (f y) (flat_map f (take i ys))
    (said_of f (slice_get ys i)))

more_said : {X : Type 0} (f : X → List ℕ) (xs : List X) (i : ℕ) (t start old new : List ℕ) → said_of f (slice_get xs i) ≡ t
    → old ≡ start ++ flat_map f (take i xs)
    → new ≡ old ++ t → new ≡ start ++ flat_map f (take (i + 1) xs)
more_said f xs i t start old new at before more =
    let e : flat_map f (take (suc i) xs) ≡ flat_map f (take i xs) ++ t = take_more f xs i ∙ ap (λ o. flat_map f (take i xs) ++ o) at in
    rw add-one (more ∙ (ap (λ u. u ++ t) before ∙ (append_assoc start (flat_map f (take i xs)) t ∙ ap (λ u. start ++ u) (sym e))))

class_said : (o : Option Class) → said_of (λ (c : Class). class_text (Some c)) o ≡ class_text o
class_said None = refl
class_said (Some c) = refl

class_here : (cs : List Class) (i : ℕ) → class_at cs (i + 1) ≡ slice_get cs i
class_here cs i = grind arith

-- one class more is said
pub class_more : (cs : List Class) (i : ℕ) (start old new : List ℕ) → old ≡ start ++ flat_map (λ (c : Class). class_text (Some c))
    (take i cs)
    → new ≡ old ++ class_text (class_at cs (i + 1)) → new ≡ start ++ flat_map (λ (c : Class). class_text (Some c)) (take (i + 1) cs)
class_more cs i start old new before more =
    more_said (λ (c : Class). class_text (Some c)) cs i (class_text (class_at cs (i + 1))) start old new
    (class_said (slice_get cs i) ∙ ap class_text (sym (class_here cs i))) before more

-- ---- cells

halves_drop : (hs : List HalfPlane) (i : ℕ) (h : HalfPlane) → slice_get hs i ≡ Some h
    → halves_text (drop i hs) ≡ half_text h (some (drop (suc i) hs)) ++ halves_text (drop (suc i) hs)
halves_drop [] i h at = cc
halves_drop (g ∷ hs) zero h at = let e : g ≡ h = cc in ap (λ k. halves_text (k ∷ hs)) e
halves_drop (g ∷ hs) (suc i) h at = halves_drop hs i h at

pub more_left : (hs : List HalfPlane) (i : ℕ) → some (drop i hs) ≡ ltb i (length hs)
more_left [] zero = refl
more_left [] (suc i) = sym (le-ltb (suc i) 0 (omega arith))
more_left (h ∷ hs) zero = grind arith
more_left (h ∷ hs) (suc i) = more_left hs i ∙ grind arith

-- of what was to come, one half-plane more is said
pub half_more : (hs : List HalfPlane) (i : ℕ) (h : HalfPlane) (m : Bool) (now new whole : List ℕ) → slice_get hs i ≡ Some h
    → m ≡ ltb (i + 1) (length hs)
    → now ++ halves_text (drop i hs) ≡ whole → new ≡ now ++ half_text h m → new ++ halves_text (drop (i + 1) hs) ≡ whole
half_more hs i h m now new whole at more before said =
    let rest = halves_text (drop (suc i) hs) in
    let e : m ≡ some (drop (suc i) hs) = more ∙ (ap (λ k. ltb k (length hs)) (add-one i) ∙ sym (more_left hs (suc i))) in
    let t : halves_text (drop i hs) ≡ half_text h m ++ rest = halves_drop hs i h at ∙ ap (λ b. half_text h b ++ rest) (sym e) in
    rw add-one (ap (λ u. u ++ rest) said ∙ (append_assoc now (half_text h m) rest ∙ (ap (λ u. now ++ u) (sym t) ∙ before)))
