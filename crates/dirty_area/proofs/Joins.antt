-- The lists of blocks, one after another.
use Rattle.std.proofs.Common.{◌≡◌, inl, inr, refl, sym, ap, ◌∙◌, subst, ℕ, zero, suc, ◌+◌, ◌<◌, ◌≤◌, Bool, true, false, List, [], ◌∷◌, ◌++◌, Contains, take, drop, length, get_or, arith, append-nil}
use Rattle.std.specs.Prelude.{◌↔◌}
use Rattle.std.specs.List.{list_any, flat_map, All}
use Rattle.std.proofs.Math.Nat.{eq-or-lt_of_le}
use Rattle.std.proofs.lemmas.Bool.{or_left, or_right, false≢true}
use Rattle.std.proofs.lemmas.List.{take_more, map-append, drop_more}
use Rattle.std.proofs.lemmas.List.Concat.{flat_map-append}
use Rattle.std.proofs.lemmas.List.Elements.{Contains-append_left, Contains-push, Contains-push_cases}
use Rattle.std.proofs.lemmas.List.Folds.{list_any-append, Any-from_list_any, list_any_at}
use Rattle.plane_terms.specs.Rectangle.{Rectangle, rects_meet}
use Rattle.dirty_area.specs.Blocks.{Block, runs, joined, all_rects}
use Rattle.dirty_area.specs.Indexed.{MeetsAt}
use Rattle.dirty_area.proofs.Indexes.{within_length}

pub joined-append : (xss yss : List (List Rectangle)) → joined (xss ++ yss) ≡ joined xss ++ joined yss
joined-append xss yss = flat_map-append (λ (xs : List Rectangle). xs) xss yss

pub joined_pushed : (xss : List (List Rectangle)) (ys : List Rectangle) → joined (xss ++ ys ∷ []) ≡ joined xss ++ ys
joined_pushed xss ys = joined-append xss (ys ∷ []) ∙ ap (λ zs. joined xss ++ zs) (append-nil ys)

pub joined_more : (xss : List (List Rectangle)) (i : ℕ) → i < length xss → joined (take (i + 1) xss) ≡ joined (take i xss) ++ get_or xss i []
joined_more xss i l = ap joined (take_more xss i [] l) ∙ joined_pushed (take i xss) (get_or xss i [])

pub joined_rest : (xss : List (List Rectangle)) (i : ℕ) → i < length xss → joined (drop i xss) ≡ get_or xss i [] ++ joined (drop (i + 1) xss)
joined_rest xss i l = ap joined (drop_more xss i [] l)

-- the rectangles of a block
pub run_at : (bs : List Block) (i : ℕ) (b : Block) → i < length bs → b ≡ get_or bs i b → get_or (runs bs) i [] ≡ b.items
run_at [] i b l e = absurd (omega (arith, l))
run_at (x ∷ bs) zero b l e = ap (λ (c : Block). c.items) (sym e)
run_at (x ∷ bs) (suc i) b l e = run_at bs i b (omega (arith, l)) e

pub length_runs : (bs : List Block) → length (runs bs) ≡ length bs
length_runs [] = refl
length_runs (b ∷ bs) = ap suc (length_runs bs)

pub runs_pushed : (bs : List Block) (b : Block) → runs (bs ++ b ∷ []) ≡ runs bs ++ b.items ∷ []
runs_pushed bs b = map-append (λ (c : Block). c.items) bs (b ∷ [])

pub runs_more : (bs : List Block) (i : ℕ) (b : Block) → i < length bs → b ≡ get_or bs i b → runs (take (i + 1) bs) ≡ runs (take i bs) ++ b.items ∷ []
runs_more bs i b l is = ap runs (take_more bs i b l ∙ ap (λ c. take i bs ++ c ∷ []) (sym is)) ∙ runs_pushed (take i bs) b

pub rects_more : (bs : List Block) (i : ℕ) (b : Block) → i < length bs → b ≡ get_or bs i b
    → all_rects (take (i + 1) bs) ≡ all_rects (take i bs) ++ b.items
rects_more bs i b l is = ap joined (runs_more bs i b l is) ∙ joined_pushed (runs (take i bs)) b.items

-- what is said of each rectangle, block by block
pub said_joined : {A : Type 0} (f : Rectangle → List A) (bs : List Block)
    → flat_map (λ (b : Block). flat_map f b.items) bs ≡ flat_map f (all_rects bs)
said_joined f [] = refl
said_joined f (b ∷ bs) = ap (λ t. flat_map f b.items ++ t) (said_joined f bs) ∙ sym (flat_map-append f b.items (all_rects bs))

-- ---- a test that a rectangle of a block passes
pub passed_at : (f : Rectangle → Bool) (bs : List Block) (i : ℕ) (b : Block) → i < length bs → b ≡ get_or bs i b → list_any f b.items ≡ true
    → list_any f (all_rects bs) ≡ true
passed_at f [] i b l is e = absurd (omega (arith, l))
passed_at f (x ∷ bs) zero b l is e = list_any-append f x.items (all_rects bs)
    ∙ or_left (list_any f x.items) (list_any f (all_rects bs)) (ap (λ (c : Block). list_any f c.items) (sym is) ∙ e)
passed_at f (x ∷ bs) (suc i) b l is e = list_any-append f x.items (all_rects bs)
    ∙ or_right (list_any f x.items) (list_any f (all_rects bs)) (passed_at f bs i b (omega (arith, l)) is e)

pub none_passed : (f : Rectangle → Bool) (bs : List Block) (i : ℕ) (b : Block) → i < length bs → b ≡ get_or bs i b → list_any f b.items ≡ false
    → list_any f (all_rects (take i bs)) ≡ false → list_any f (all_rects (take (i + 1) bs)) ≡ false
none_passed f bs i b l is e h = rw (rects_more bs i b l is, list_any-append f (all_rects (take i bs)) b.items, h, e) refl

-- ---- those that pass a test
-- ---- the places of those that meet a rectangle
pub near_at : (bs : List Block) (i : ℕ) (b : Block) (r : Rectangle) → i < length bs → b ≡ get_or bs i b
    → list_any (λ s. rects_meet s r) b.items ≡ true → MeetsAt (runs bs) r i
near_at bs i b r l is e =
    let a = Any-from_list_any (λ s. rects_meet s r) b.items e in
    (a.1, subst (λ xs. Contains xs a.1) (sym (run_at bs i b l is)) (a.0, a.2, a.3), a.4)

pub none_near_at : (bs : List Block) (i : ℕ) (b : Block) (r : Rectangle) → i < length bs → b ≡ get_or bs i b
    → list_any (λ s. rects_meet s r) b.items ≡ false → ¬ (MeetsAt (runs bs) r i)
none_near_at bs i b r l is e m =
    let c = subst (λ xs. Contains xs m.0) (run_at bs i b l is) m.1 in
    false≢true (sym e ∙ list_any_at (λ s. rects_meet s r) b.items c.0 m.0 c.1 (ap (λ s. rects_meet s r) c.2 ∙ m.2))

abbrev pub ArePlaces : List (List Rectangle) → Rectangle → ℕ → List ℕ → Type 0
ArePlaces xss r i v = (k : ℕ) → Contains v k ↔ ((k < i) × MeetsAt xss r k)

pub one_place : (xss : List (List Rectangle)) (r : Rectangle) (i : ℕ) (v : List ℕ) → MeetsAt xss r i → ArePlaces xss r i v
    → ArePlaces xss r (i + 1) (v ++ i ∷ [])
one_place xss r i v m before k = (
  (λ h. elim (Contains-push_cases v i k h) [
    | inl o ↦ let a = (before k).0 o in (omega (arith, a.0), a.1)
    | inr e ↦ (omega (arith, e), subst (MeetsAt xss r) e m)
  ]),
  (λ h. elim (eq-or-lt_of_le (omega (arith, h.0))) [
    | inl e ↦ subst (λ j. Contains (v ++ i ∷ []) j) (sym e) (Contains-push v i)
    | inr l ↦ Contains-append_left v (i ∷ []) k ((before k).1 (l, h.1))
  ]),
)

pub no_place : (xss : List (List Rectangle)) (r : Rectangle) (i : ℕ) (v : List ℕ) → ¬ (MeetsAt xss r i) → ArePlaces xss r i v
    → ArePlaces xss r (i + 1) v
no_place xss r i v n before k = (
  (λ h. let a = (before k).0 h in (omega (arith, a.0), a.1)),
  (λ h. elim (eq-or-lt_of_le (omega (arith, h.0))) [
    | inl e ↦ absurd (n (subst (MeetsAt xss r) e h.1))
    | inr l ↦ (before k).1 (l, h.1)
  ]),
)

pub all_below : (v : List ℕ) (i : ℕ) → All (λ h. h < i) v → All (λ h. h < i + 1) v
all_below v i h k d l = let a = h k d l in omega (arith, a)

pub places_ended : (bs : List Block) (r : Rectangle) (i : ℕ) (v : List ℕ) → length bs ≤ i → ArePlaces (runs bs) r i v
    → (k : ℕ) → Contains v k ↔ MeetsAt (runs bs) r k
places_ended bs r i v l places k = (
  (λ h. ((places k).0 h).1),
  (λ h. (places k).1 (omega (arith, l, length_runs bs, within_length (runs bs) k h.0 h.1), h)),
)
