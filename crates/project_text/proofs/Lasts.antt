-- The last element of a list, and lists that go on by one.
use Rattle.std.proofs.Common.{ℕ, zero, suc, ◌≡◌, ◌<◌, ◌+◌, ◌-◌, ◌==◌, Bool, true, false, ◌&&◌, not, List, [], ◌∷◌, ◌++◌, length, get_or, set, Some, None, refl, sym, ap, ◌∙◌, arith}
use Rattle.std.specs.Prelude.{slice_get}
use Rattle.std.proofs.lemmas.Bool.Decides.{nat_tests}
use Rattle.plane_terms.specs.Cell.{Cell}
use Rattle.topology_terms.specs.Entry.{Entry, Key, key_of}
use Rattle.project_terms.specs.Drafts.{takes_cell, wants_cell, with_cell, is_bare, last_in, is_last_key, is_before}

pub last_number : {A : Type 0} (number : A → ℕ) (xs : List A) (k : ℕ) (x : A) → k + 1 ≡ length xs → slice_get xs k ≡ Some x
    → last_in number xs ≡ number x
last_number number [] k x e h = absurd (omega arith)
last_number number (y ∷ []) zero x e h = let s : y ≡ x = cc in ap number s
last_number number (y ∷ []) (suc k) x e h = absurd (omega arith)
last_number number (y ∷ z ∷ xs) zero x e h = absurd (omega arith)
last_number number (y ∷ z ∷ xs) (suc k) x e h = last_number number (z ∷ xs) k x (omega arith) h

-- what the last error says of a cell that may follow, or must, and of the next key
pub record IsLastEntry (es : List Entry) (e : Entry) : Type 0 where
  pub takes : takes_cell es ≡ not e.whole
  pub wants : wants_cell es ≡ (not e.whole && is_bare e.cells)
  pub key : (k : Key) → is_last_key es k ≡ is_before (key_of e) k

own : (e f : Entry) → e ≡ f → IsLastEntry (e ∷ []) f
own e f same = rw (← same) (record { takes = refl; wants = refl; key = λ k. refl })

pub last_entry : (es : List Entry) (k : ℕ) (e : Entry) → k + 1 ≡ length es → slice_get es k ≡ Some e → IsLastEntry es e
last_entry [] k e n h = absurd (omega arith)
last_entry (f ∷ []) zero e n h = own f e cc
last_entry (f ∷ []) (suc k) e n h = absurd (omega arith)
last_entry (f ∷ g ∷ es) zero e n h = absurd (omega arith)
last_entry (f ∷ g ∷ es) (suc k) e n h = let i = last_entry (g ∷ es) k e (omega arith) h in
    record { takes = i.takes; wants = i.wants; key = i.key }

-- ---- as `last` answers
got : {A : Type 0} (y : A) (ys : List A) (k : ℕ) → k < length (y ∷ ys) → slice_get (y ∷ ys) k ≡ None → ⊥
got y ys zero l e = cc
got y [] (suc k) l e = omega arith
got y (z ∷ ys) (suc k) l e = got z ys k (omega arith) e

pub none_last : {A : Type 0} (xs : List A) → slice_get xs (length xs - 1) ≡ None → xs ≡ []
none_last [] h = refl
none_last (x ∷ xs) h = absurd (got x xs (length (x ∷ xs) - 1) (omega arith) h)

pub last_number_at : {A : Type 0} (number : A → ℕ) (xs : List A) (x : A) → slice_get xs (length xs - 1) ≡ Some x
    → last_in number xs ≡ number x
last_number_at number [] x h = absurd cc
last_number_at number (y ∷ xs) x h = last_number number (y ∷ xs) (length (y ∷ xs) - 1) x (omega arith) h

pub last_entry_at : (es : List Entry) (e : Entry) → slice_get es (length es - 1) ≡ Some e → IsLastEntry es e
last_entry_at [] e h = absurd cc
last_entry_at (f ∷ es) e h = last_entry (f ∷ es) (length (f ∷ es) - 1) e (omega arith) h

-- a cell put to the last error
pub cell_set : (es : List Entry) (k : ℕ) (e f : Entry) (c : Cell) → k + 1 ≡ length es → e ≡ get_or es k e
    → f ≡ record e { cells = e.cells ++ c ∷ [] }
    → set es k f ≡ with_cell es c
cell_set [] k e f c n h m = absurd (omega arith)
cell_set (g ∷ []) zero e f c n h m = ap (λ (x : Entry). x ∷ []) m ∙ ap (λ (x : Entry). record x { cells = x.cells ++ c ∷ [] } ∷ []) h
cell_set (g ∷ []) (suc k) e f c n h m = absurd (omega arith)
cell_set (g ∷ i ∷ es) zero e f c n h m = absurd (omega arith)
cell_set (g ∷ i ∷ es) (suc k) e f c n h m = ap (λ t. g ∷ t) (cell_set (i ∷ es) k e f c (omega arith) h m)

pub some_entry : (es : List Entry) → takes_cell es ≡ true → 0 < length es
some_entry [] h = absurd cc
some_entry (e ∷ es) h = omega arith

bare : (cs : List Cell) → (length cs == 0) ≡ is_bare cs
bare [] = refl
bare (c ∷ cs) = grind (arith, nat_tests)

pub wants_else : (es : List Entry) (e : Entry) → slice_get es (length es - 1) ≡ Some e → (w : Bool) → w ≡ e.whole → not w ≡ false
    → not w ≡ wants_cell es
wants_else es e h w k n = let i = last_entry_at es e h in n ∙ sym (i.wants ∙ ap (λ b. b && is_bare e.cells) (sym (ap not k) ∙ n))

pub wants_then : (es : List Entry) (e : Entry) → slice_get es (length es - 1) ≡ Some e → (w : Bool) → w ≡ e.whole → not w ≡ true → (n : ℕ)
    → n ≡ length e.cells
    → (n == 0) ≡ wants_cell es
wants_then es e h w k t n m =
    let i = last_entry_at es e h in
    ap (λ j. j == 0) m ∙ (bare e.cells ∙ sym (i.wants ∙ ap (λ b. b && is_bare e.cells) (sym (ap not k) ∙ t)))
