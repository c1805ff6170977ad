-- Lists put together part by part.
use Rattle.std.proofs.Common.{◌≡◌, ◌≢◌, Some, inl, inr, ℕ, ◌<◌, ◌+◌, List, [], ◌∷◌, ◌++◌, refl, sym, ◌∙◌, append_assoc, append-nil, take, length, get_or, ap}
use Rattle.std.specs.Prelude.{slice_get}
use Rattle.std.proofs.lemmas.Bool.{cases_Bool}
use Rattle.std.proofs.lemmas.List.{take_more}
use Rattle.std.proofs.lemmas.Option.{get_or_from_slice_get, slice_get_within}
use Rattle.plane_terms.specs.Lists.{Every, Paired}
use Rattle.plane_terms.proofs.ListLemmas.{every_append}
use Rattle.topology_terms.specs.Entry.{Entry, has_key}
use Rattle.sound_laws.proofs.Lists.{Lacks, has_parts}
use Rattle.validation_laws.specs.Parts.{IsJoined}

-- one element more
pub take_one : {A : Type 0} (xs : List A) (i : ℕ) (x : A) → slice_get xs i ≡ Some x → take (i + 1) xs ≡ take i xs ++ x ∷ []
take_one xs i x e = take_more xs i x (slice_get_within xs i x e) ∙ ap (λ y. take i xs ++ y ∷ []) (get_or_from_slice_get xs i x x e)

-- one part more
pub joined_more : {A B : Type 0} (P : A → List B → Type 0) (xs : List A) (ys : List B) (x : A) (part : List B) → IsJoined P xs ys → P x part
    → IsJoined P (xs ++ x ∷ []) (ys ++ part)
joined_more P [] ys x part h k = (part, ([], (rw h (sym (append-nil part)), k, refl)))
joined_more P (z ∷ xs) ys x part h k = (
  h.0,
  (
    h.1.0 ++ part,
    (
      rw (h.1.1.0, append_assoc) refl,
      h.1.1.1,
      joined_more P xs h.1.0 x part
          h.1.1.2 k,
    ),
  ),
)

-- one pair more
pub paired_more : {A B : Type 0} (R : A → B → Type 0) (xs : List A) (ys : List B) (x : A) (y : B) → Paired R xs ys → R x y
    → Paired R (xs ++ x ∷ []) (ys ++ y ∷ [])
paired_more R [] [] x y h k = (k, tt)
paired_more R [] (z ∷ ys) x y h k = absurd h
paired_more R (z ∷ xs) [] x y h k = absurd h
paired_more R (z ∷ xs) (w ∷ ys) x y h k = (h.0, paired_more R xs ys x y h.1 k)

-- a loop over a list puts one part more behind what was there before
pub part_more : {A B : Type 0} (P : A → List B → Type 0) (xs : List A) (i : ℕ) (x : A) (before out new : List B) → i < length xs
    → x ≡ get_or xs i x
    → (ys : List B) × (out ≡ before ++ ys) × IsJoined P (take i xs) ys → (part : List B) × (new ≡ out ++ part) × P x part
    → (ys : List B) × (new ≡ before ++ ys) × IsJoined P (take (i + 1) xs) ys
part_more P xs i x before out new l e h k = (
  h.0 ++ k.0,
  k.1 ∙ (ap (λ t. t ++ k.0) h.1 ∙ append_assoc before h.0 k.0),
  rw (take_more xs i x l, ← e)
      (joined_more P (take i xs) h.0 x k.0 h.2 k.2),
)

-- what holds of all that is put for each element holds of what is put together
pub every_part : {A B : Type 0} (P : A → List B → Type 0) (Q : B → Type 0) → ((x : A) (part : List B) → P x part → Every Q part)
    → (xs : List A) (ys : List B) → IsJoined P xs ys → Every Q ys
every_part P Q f [] ys h = rw h tt
every_part P Q f (x ∷ xs) ys h = rw h.1.1.0 (every_append Q h.0 h.1.0 (f x h.0 h.1.1.1) (every_part P Q f xs h.1.0 h.1.1.2))

-- ---- entries of another key
pub of_other_rule : (r a b : ℕ) (e : Entry) → e.rule ≢ r → Lacks r a b e
of_other_rule r a b e n = elim (cases_Bool (has_key e r a b)) [ inl t ↦ absurd (n (has_parts e r a b t).0) | inr t ↦ t ]

pub of_other_subject : (r a b : ℕ) (e : Entry) → e.subject ≢ a → Lacks r a b e
of_other_subject r a b e n = elim (cases_Bool (has_key e r a b)) [ inl t ↦ absurd (n (has_parts e r a b t).1) | inr t ↦ t ]
