-- Of the errors of an index's handles those whose frames meet the dirt are picked, as of all errors.
use Rattle.std.proofs.Common.{◌≡◌, ◌⊎◌, inl, inr, ◌∙◌, ap, ℕ, ◌<◌, ◌+◌, Bool, true, false, cond, List, [], ◌∷◌, ◌++◌, append-nil, refl, sym, subst, take, length, get_or, Contains}
use Rattle.std.specs.Cmp.{nat_eq_equiv}
use Rattle.std.specs.List.{filter, flat_map}
use Rattle.std.proofs.lemmas.Bool.{false≢true}
use Rattle.std.proofs.lemmas.List.{take_more}
use Rattle.std.proofs.lemmas.List.Concat.{flat_map-append}
use Rattle.std.proofs.lemmas.Map.Views.{list_any-from_Contains}
use Rattle.plane_terms.specs.Lists.{Every, SomeOf}
use Rattle.plane_terms.proofs.ListLemmas.{every_map}
use Rattle.plane_terms.specs.Rectangle.{Rectangle}
use Rattle.plane_terms.specs.Dirt.{MeetsDirt}
use Rattle.topology_terms.specs.Entry.{Entry}
use Rattle.validation_laws.specs.Picked.{ArePicked}
use Rattle.grid_index.specs.declared.placed.Placed.{Placed}
use Rattle.error_store.specs.Frames.{framed_of, AreFramed}
use Rattle.error_store.specs.Runs.{is_of}
use Rattle.validation.specs.Placed.{HasNear}
use Rattle.validation.proofs.Picking.{covered_meets, picked_joined}

-- the subject of each error whose frame meets the dirt is among the handles
pub frames_near : (ps : List Placed) (es : List Entry) (d : List Rectangle) (ns : List ℕ) → AreFramed ps es → HasNear ns ps d
    → Every (λ (e : Entry). MeetsDirt d e.frame → Contains ns e.subject) es
frames_near ps es d ns framed near = every_map (λ (e : Entry). Contains ps (framed_of e))
    (λ (e : Entry). MeetsDirt d e.frame → Contains ns e.subject)
    (λ e c m. near (framed_of e) c (covered_meets d e.frame m.0 m.1 m.2)) es framed

-- ---- run after run
pub picked_runs : {X : Type 0} (P : Entry → Type 0) (number : Entry → ℕ) (of : X → List Entry) (xs : List X) (i : ℕ) (x : X)
    (before out new : List ℕ) → i < length xs → x ≡ get_or xs i x → ArePicked P number (flat_map of (take i xs)) before out
    → ArePicked P number (of x) out new → ArePicked P number (flat_map of (take (i + 1) xs)) before new
picked_runs P number of xs i x before out new l e h k =
    let more : flat_map of (take (i + 1) xs) ≡ flat_map of (take i xs) ++ of x =
    ap (flat_map of) (take_more xs i x l ∙ ap (λ y. take i xs ++ y ∷ []) (sym e))
    ∙ (flat_map-append of (take i xs) (x ∷ []) ∙ ap (λ t. flat_map of (take i xs) ++ t) (append-nil (of x))) in
    subst (λ es. ArePicked P number es before new) (sym more) (picked_joined P number (flat_map of (take i xs)) (of x) before out new h k)

-- ---- of some subjects, among which are those of all that are picked
some_passing : {X : Type 0} (Q : X → Type 0) (test : X → Bool) (xs : List X) → Every (λ x. Q x → test x ≡ true) xs → SomeOf Q xs
    → SomeOf Q (filter test xs)
some_passing Q test [] h s = s
some_passing {X} Q test (x ∷ xs) h s = by (test x) refl (filter test xs) (some_passing Q test xs h.1) s
  where
    by : (b : Bool) → test x ≡ b → (ys : List X) → (SomeOf Q xs → SomeOf Q ys) → Q x ⊎ SomeOf Q xs → SomeOf Q (cond b (x ∷ ys) ys)
    by true t ys k (inl q) = inl q
    by true t ys k (inr m) = inr (k m)
    by false t ys k (inl q) = absurd (false≢true (sym t ∙ h.0 q))
    by false t ys k (inr m) = k m

passing_some : {X : Type 0} (Q : X → Type 0) (test : X → Bool) (xs : List X) → SomeOf Q (filter test xs) → SomeOf Q xs
passing_some Q test [] s = s
passing_some {X} Q test (x ∷ xs) s = by (test x) (filter test xs) (passing_some Q test xs) s
  where
    by : (b : Bool) (ys : List X) → (SomeOf Q ys → SomeOf Q xs) → SomeOf Q (cond b (x ∷ ys) ys) → Q x ⊎ SomeOf Q xs
    by true ys k (inl q) = inl q
    by true ys k (inr m) = inr (k m)
    by false ys k m = inr (k m)

pub picked_among : (P : Entry → Type 0) (near : List ℕ) (es : List Entry) (before out : List ℕ)
    → Every (λ (e : Entry). P e → Contains near e.subject) es
    → ArePicked P (λ (e : Entry). e.subject) (filter (is_of near) es) before out → ArePicked P (λ (e : Entry). e.subject) es before out
picked_among P near es before out enough h a =
    let Q : Entry → Type 0 = λ (e : Entry). (e.subject ≡ a) × P e in
    let passes = every_map (λ (e : Entry). P e → Contains near e.subject) (λ (e : Entry). Q e → is_of near e ≡ true)
    (λ e c q. list_any-from_Contains nat_eq_equiv e.subject near (c q.1)) es enough in (
      (λ c. elim ((h a).0 c) [ inl m ↦ inl m | inr m ↦ inr (passing_some Q (is_of near) es m) ]),
      (λ s. (h a).1 (elim s [ inl m ↦ inl m | inr m ↦ inr (some_passing Q (is_of near) es passes m) ])),
    )
