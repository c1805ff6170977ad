-- Frames of the errors that pass a test, noted run after run.
use Rattle.std.proofs.Common.{◌≡◌, ◌≢◌, ℕ, ◌<◌, ◌+◌, Bool, true, false, ◌==◌, List, [], ◌∷◌, ◌++◌, length, take, get_or, map, append_assoc, arith, refl, sym, ◌∙◌, ap}
use denote.Ref.{Bor}
use Rattle.std.specs.List.{filter, flat_map}
use Rattle.std.specs.Map.{values_of}
use Rattle.std.proofs.lemmas.Bool.{ne_eqb}
use Rattle.std.proofs.lemmas.Bool.Decides.{nat_tests}
use Rattle.std.proofs.lemmas.List.{take_more, map-append}
use Rattle.std.proofs.lemmas.List.Elements.{filter-append}
use Rattle.plane_terms.specs.Lists.{Every}
use Rattle.plane_terms.proofs.ListLemmas.{every_map}
use Rattle.topology_terms.specs.Entry.{Entry}
use Rattle.grid_index.specs.declared.placed.Placed.{Placed}
use Rattle.error_store.specs.Frames.{framed_of, frames_if}
use Rattle.error_store.specs.Pairs.{entries_in, IsOf}
use Rattle.error_store.specs.declared.pair.Pair.{Pair}
use Rattle.error_store.proofs.Collected.{spread_more}
use Rattle.error_store.proofs.Pairs.{Run}

pub filter_whole : {X : Type 0} (p : X → Bool) (xs : List X) → Every (λ x. p x ≡ true) xs → filter p xs ≡ xs
filter_whole p [] h = refl
filter_whole p (x ∷ xs) h = rw h.0 (ap (λ ys. x ∷ ys) (filter_whole p xs h.1))

pub filter_nothing : {X : Type 0} (p : X → Bool) (xs : List X) → Every (λ x. p x ≡ false) xs → filter p xs ≡ []
filter_nothing p [] h = refl
filter_nothing p (x ∷ xs) h = rw h.0 (filter_nothing p xs h.1)

-- ---- one frame more
pub noted_one : (es : List Entry) (i : ℕ) (e : Entry) (front ps : List Placed) → i < length es → e ≡ get_or es i e
    → ps ≡ front ++ map framed_of (take i es) → ps ++ framed_of e ∷ [] ≡ front ++ map framed_of (take (i + 1) es)
noted_one es i e front ps l is h =
    rw h (append_assoc front (map framed_of (take i es)) (framed_of e ∷ []) ∙ ap (λ qs. front ++ qs)
    (sym (ap (map framed_of) (take_more es i e l ∙ ap (λ x. take i es ++ x ∷ []) (sym is)) ∙ map-append framed_of (take i es) (e ∷ []))))

-- ---- the frames of one run more
abbrev pub spread : List (Bor (List Entry)) → List Entry
spread found = flat_map (λ (r : Bor (List Entry)). r.now) found

pub noted_run : (found : List (Bor (List Entry))) (i : ℕ) (x : Bor (List Entry)) (ps : List Placed) → i < length found → x ≡ get_or found i x
    → ps ≡ map framed_of (spread (take i found)) → ps ++ map framed_of x.now ≡ map framed_of (spread (take (i + 1) found))
noted_run found i x ps l is h =
    rw h (sym (map-append framed_of (spread (take i found)) x.now) ∙ ap (map framed_of)
    (sym (ap spread (take_more found i x l ∙ ap (λ y. take i found ++ y ∷ []) (sym is)) ∙ spread_more (take i found) x x.now refl)))

-- ---- those of a rule
abbrev pub is_under : ℕ → Entry → Bool
is_under n e = e.rule == n

own_rule : (n : ℕ) (p : Pair) → p.rule ≡ n → (e : Entry) → IsOf p.rule p.subject e → is_under n e ≡ true
own_rule n p r e o = let same : e.rule ≡ n = o.rule ∙ r in grind (arith, nat_tests)

other_rule : (n : ℕ) (p : Pair) → p.rule ≢ n → (e : Entry) → IsOf p.rule p.subject e → is_under n e ≡ false
other_rule n p d e o = ne_eqb e.rule n (λ s. d (sym o.rule ∙ s))

pub all_under : (n : ℕ) (p : Pair) (es : List Entry) → p.rule ≡ n → Every (IsOf p.rule p.subject) es → Every (λ (e : Entry). is_under n e ≡ true) es
all_under n p es r o = every_map (IsOf p.rule p.subject) (λ (e : Entry). is_under n e ≡ true) (own_rule n p r) es o

pub none_under : (n : ℕ) (p : Pair) (es : List Entry) → p.rule ≢ n → Every (IsOf p.rule p.subject) es → Every (λ (e : Entry). is_under n e ≡ false) es
none_under n p es d o = every_map (IsOf p.rule p.subject) (λ (e : Entry). is_under n e ≡ false) (other_rule n p d) es o

frames_append : (p : Entry → Bool) (es fs : List Entry) → frames_if p (es ++ fs) ≡ frames_if p es ++ frames_if p fs
frames_append p es fs = ap (map framed_of) (filter-append p es fs) ∙ map-append framed_of (filter p es) (filter p fs)

-- a run whose errors pass, and one of which none does
pub run_passes : (p : Entry → Bool) (q : Run) (rs : List Run) (ps all : List Placed) → Every (λ (e : Entry). p e ≡ true) q.1.items
    → ps ++ frames_if p (entries_in (values_of (q ∷ rs))) ≡ all
    → (ps ++ map framed_of q.1.items) ++ frames_if p (entries_in (values_of rs)) ≡ all
run_passes p q rs ps all u h =
    let rest = entries_in (values_of rs) in
    append_assoc ps (map framed_of q.1.items) (frames_if p rest)
    ∙ (ap (λ qs. ps ++ qs) (sym (frames_append p q.1.items rest
    ∙ ap (λ es. map framed_of es ++ frames_if p rest) (filter_whole p q.1.items u))) ∙ h)

pub run_fails : (p : Entry → Bool) (q : Run) (rs : List Run) (ps all : List Placed) → Every (λ (e : Entry). p e ≡ false) q.1.items
    → ps ++ frames_if p (entries_in (values_of (q ∷ rs))) ≡ all
    → ps ++ frames_if p (entries_in (values_of rs)) ≡ all
run_fails p q rs ps all u h =
    let rest = entries_in (values_of rs) in
    ap (λ qs. ps ++ qs) (sym (frames_append p q.1.items rest
    ∙ ap (λ es. map framed_of es ++ frames_if p rest) (filter_nothing p q.1.items u))) ∙ h
