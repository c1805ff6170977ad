-- Text that is appended piece by piece.
--
-- said_more           of the texts of a list's items one behind the other, one item more
-- left_more           of what is to come, the first piece is appended
-- left_done           nothing is to come
-- in_two, in_three    two pieces, or three, of which the result of the last is handed on
-- as_text             the same text, in other words
use Rattle.std.proofs.Common.{ℕ, zero, suc, ◌≡◌, ◌+◌, List, [], ◌∷◌, ◌++◌, take, sym, ◌∙◌, ap, append_assoc, append-nil, add-one, Some, Result, Ok, Err, OnOk, subst}
use Rattle.std.specs.Prelude.{flat_map, slice_get}

flat_map_take_more : {X : Type 0} (f : X → List ℕ) (xs : List X) (i : ℕ) (x : X) → slice_get xs i ≡ Some x
    → flat_map f (take (suc i) xs) ≡ flat_map f (take i xs) ++ f x
flat_map_take_more f [] i x at = cc
flat_map_take_more f (y ∷ ys) zero x at = let e : y ≡ x = cc in append-nil (f y) ∙ ap f e
flat_map_take_more f (y ∷ ys) (suc i) x at = ap (λ t. f y ++ t) (flat_map_take_more f ys i x at)
    ∙ sym (append_assoc (f y) (flat_map f (take i ys)) (f x))

pub said_more : {X : Type 0} (f : X → List ℕ) (xs : List X) (i : ℕ) (x : X) (start old new : List ℕ) → slice_get xs i ≡ Some x
    → old ≡ start ++ flat_map f (take i xs) → new ≡ old ++ f x → new ≡ start ++ flat_map f (take (i + 1) xs)
said_more f xs i x start old new at before more =
    rw add-one (more ∙ (ap (λ t. t ++ f x) before ∙ (append_assoc start (flat_map f (take i xs)) (f x)
    ∙ ap (λ t. start ++ t) (sym (flat_map_take_more f xs i x at)))))

pub left_more : (now new piece left next whole : List ℕ) → left ≡ piece ++ next → now ++ left ≡ whole → new ≡ now ++ piece
    → new ++ next ≡ whole
left_more now new piece left next whole parts before more =
    ap (λ t. t ++ next) more ∙ (append_assoc now piece next ∙ (ap (λ t. now ++ t) (sym parts) ∙ before))

pub left_done : (now whole : List ℕ) → now ++ [] ≡ whole → now ≡ whole
left_done now whole before = sym (append-nil now) ∙ before

pub in_two : {X E : Type 0} (r : Result X E) (old mid new a b text : List ℕ) → mid ≡ old ++ a → OnOk r (new ≡ mid ++ b) → text ≡ a ++ b
    → OnOk r (new ≡ old ++ text)
in_two (Err e) old mid new a b text before last parts = tt
in_two (Ok x) old mid new a b text before last parts =
    last ∙ (ap (λ t. t ++ b) before ∙ (append_assoc old a b ∙ ap (λ t. old ++ t) (sym parts)))

pub in_three : {X E : Type 0} (r : Result X E) (old first then new a b c : List ℕ) → first ≡ old ++ a → then ≡ first ++ b
    → OnOk r (new ≡ then ++ c) → OnOk r (new ≡ old ++ (a ++ (b ++ c)))
in_three (Err e) old first then new a b c before between last = tt
in_three (Ok x) old first then new a b c before between last =
    last
    ∙ (ap (λ t. t ++ c) between
    ∙ (append_assoc first b c ∙ (ap (λ t. t ++ (b ++ c)) before ∙ append_assoc old a (b ++ c))))

pub as_text : {X E : Type 0} (r : Result X E) (old new text t : List ℕ) → text ≡ t → OnOk r (new ≡ old ++ t) → OnOk r (new ≡ old ++ text)
as_text r old new text t same said = subst (λ u. OnOk r (new ≡ old ++ u)) (sym same) said
