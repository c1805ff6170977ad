-- The segments of a shape from one on: those that are left of its block, and of its part.
use Rattle.std.proofs.Common.{◌≡◌, ℕ, suc, ◌+◌, ◌-◌, ◌*◌, ◌/◌, ◌%◌, ◌<◌, ◌≤◌, List, [], ◌∷◌, ◌++◌, sym, ◌∙◌, ap, cond, take, drop, length, get_or, append-nil, append_assoc, subst, arith}
use Rattle.std.specs.Prelude.{flat_map, Result, Ok, Err, OnOk}
use Rattle.std.proofs.lemmas.List.{take-append-drop, drop-drop, length-drop}
use Rattle.std.proofs.lemmas.Grind.{flat_map-append}
use Rattle.plane_terms.specs.Point.{Place}
use Rattle.plane_terms.specs.Segment.{Segment, overlap}
use Rattle.plane_terms.specs.Cell.{Cell}
use Rattle.shape.proofs.Dropped.{item_dropped}
use Rattle.topology_terms.specs.Cells.{off_places, crossings_of, in_part}
use Rattle.rule_loops.specs.Blocks.{left_from, between}
use Rattle.rule_loops.proofs.Blocked.{Many, Few, left_none}

-- ---- of its block
pub one_block : (i : ℕ) (ts rest : List Segment) → Few ts → rest ≡ drop i ts → drop i ts ≡ rest ++ left_from 1 ts
one_block i ts rest a e =
    let b = a.blocks in
    sym e ∙ (sym (append-nil rest) ∙ ap (λ us. rest ++ us) (sym (left_none 1 ts (omega arith))))

next_begins : (i : ℕ) (ts : List Segment) → Many ts → drop (32 - i % 32) (drop i ts) ≡ left_from (i / 32 + 1) ts
next_begins i ts a =
    let there : i + (32 - i % 32) ≡ 32 * (i / 32 + 1) = omega arith in
    drop-drop (32 - i % 32) i ts ∙ (ap (λ n. drop n ts) there ∙ sym (ap (λ n. drop (n * (i / 32 + 1)) ts) a.size))

pub block_begun : (i : ℕ) (ts rest : List Segment) → Many ts → rest ≡ drop i ts → drop i ts ≡ take (32 - i % 32) rest ++ left_from (i / 32 + 1) ts
block_begun i ts rest a e =
    let n = 32 - i % 32 in
    sym (take-append-drop n (drop i ts)) ∙ (ap (λ us. take n (drop i ts) ++ us) (next_begins i ts a)
    ∙ ap (λ us. take n us ++ left_from (i / 32 + 1) ts) (sym e))

-- what a row of those and a row of the blocks behind them give together
rows_joined : {B : Type 0} (f : Segment → List B) (near later all : List Segment) (old mid new : List B) → all ≡ near ++ later
    → mid ≡ old ++ flat_map f near → new ≡ mid ++ flat_map f later → new ≡ old ++ flat_map f all
rows_joined f near later all old mid new e m n =
    n ∙ (ap (λ cs. cs ++ flat_map f later) m ∙ (append_assoc old (flat_map f near) (flat_map f later)
    ∙ ap (λ cs. old ++ cs) (sym (flat_map-append f near later) ∙ ap (flat_map f) (sym e))))

pub rows_after : {B E : Type 0} {A : Type 0} (f : Segment → List B) (near later all : List Segment) (old mid new : List B) (r : Result A E)
    → all ≡ near ++ later → mid ≡ old ++ flat_map f near → OnOk r (new ≡ mid ++ flat_map f later) → OnOk r (new ≡ old ++ flat_map f all)
rows_after f near later all old mid new (Ok x) e m n = rows_joined f near later all old mid new e m n
rows_after f near later all old mid new (Err x) e m n = tt

-- ---- of its part
none_between : (i : ℕ) (ts : List Segment) → between i i ts ≡ []
none_between i ts = let z : i - i ≡ 0 = omega arith in ap (λ n. take n (drop i ts)) z

between_next : (i j : ℕ) (ts : List Segment) (t : Segment) → i < j → i < length ts → t ≡ get_or ts i t → between i j ts ≡ t ∷ between (i + 1) j ts
between_next i j ts t l m e =
    let more : j - i ≡ suc (j - (i + 1)) = omega arith in
    ap (take (j - i)) (item_dropped ts i t m e) ∙ ap (λ n. take n (t ∷ drop (i + 1) ts)) more

between_rest : (i j : ℕ) (ts : List Segment) → i ≤ j → between i j ts ++ drop j ts ≡ drop i ts
between_rest i j ts l =
    let there : i + (j - i) ≡ j = omega arith in
    ap (λ us. between i j ts ++ us) (sym (drop-drop (j - i) i ts ∙ ap (λ n. drop n ts) there)) ∙ take-append-drop (j - i) (drop i ts)

pub last_crossings : (es : List Place) (s : Segment) (i j : ℕ) (ts : List Segment) → i ≡ j
    → flat_map (off_places es s) (drop i ts) ≡ crossings_of es s (between i j ts) (drop j ts)
last_crossings es s i j ts e = subst (λ k. flat_map (off_places es s) (drop i ts) ≡ crossings_of es s (between i k ts) (drop k ts)) e
    (ap (λ us. crossings_of es s us (drop i ts)) (sym (none_between i ts)))

next_crossings : (es : List Place) (s t : Segment) (i j : ℕ) (ts : List Segment) → i < j → i < length ts → t ≡ get_or ts i t
    → (old mid new : List Cell) → mid ≡ old ++ cond (overlap s t) (off_places es s t) []
    → new ≡ mid ++ flat_map (off_places es s) (drop (i + 1) ts) → new ≡ old ++ crossings_of es s (between i j ts) (drop j ts)
next_crossings es s t i j ts l m e old mid new a b =
    let first = cond (overlap s t) (off_places es s t) [] in
    let row = flat_map (off_places es s) in
    b ∙ (ap (λ cs. cs ++ row (drop (i + 1) ts)) a ∙ (append_assoc old first (row (drop (i + 1) ts))
    ∙ ap (λ cs. old ++ cs) (ap (λ us. first ++ row us) (sym (between_rest (i + 1) j ts (omega arith)))
    ∙ ap (λ us. crossings_of es s us (drop j ts)) (sym (between_next i j ts t l m e)))))

pub crossings_after : {A E : Type 0} (es : List Place) (s t : Segment) (i j : ℕ) (ts : List Segment) → i < j → i < length ts → t ≡ get_or ts i t
    → (old mid new : List Cell) (r : Result A E) → mid ≡ old ++ cond (overlap s t) (off_places es s t) []
    → OnOk r (new ≡ mid ++ flat_map (off_places es s) (drop (i + 1) ts)) → OnOk r (new ≡ old ++ crossings_of es s (between i j ts) (drop j ts))
crossings_after es s t i j ts l m e old mid new (Ok x) a b = next_crossings es s t i j ts l m e old mid new a b
crossings_after es s t i j ts l m e old mid new (Err x) a b = tt

pub part_more : (es : List Place) (t : Segment) (i j : ℕ) (ts : List Segment) → i < j → i < length ts → t ≡ get_or ts i t
    → (old new all : List Cell) → new ≡ old ++ crossings_of es t (between (i + 1) j ts) (drop j ts)
    → old ++ in_part es (between i j ts) (drop j ts) ≡ all → new ++ in_part es (between (i + 1) j ts) (drop j ts) ≡ all
part_more es t i j ts l m e old new all n h =
    let own = crossings_of es t (between (i + 1) j ts) (drop j ts) in
    let rest = in_part es (between (i + 1) j ts) (drop j ts) in
    ap (λ cs. cs ++ rest) n ∙ (append_assoc old own rest
    ∙ (ap (λ us. old ++ in_part es us (drop j ts)) (sym (between_next i j ts t l m e)) ∙ h))

pub part_done : (es : List Place) (i j : ℕ) (ts : List Segment) → i ≡ j → (cells all : List Cell)
    → cells ++ in_part es (between i j ts) (drop j ts) ≡ all → cells ≡ all
part_done es i j ts e cells all h =
    let none : between i j ts ≡ [] = subst (λ k. between i k ts ≡ []) e (none_between i ts) in
    sym (append-nil cells) ∙ (ap (λ us. cells ++ in_part es us (drop j ts)) (sym none) ∙ h)

-- ---- the segments of the next part
pub fits_behind : (i n : ℕ) (ts : List Segment) → i ≤ length ts → n ≤ length (drop i ts) → i + n ≤ length ts
fits_behind i n ts l f = let d = length-drop i ts in omega (arith, d)

pub between_taken : (i n : ℕ) (ts : List Segment) → between i (i + n) ts ≡ take n (drop i ts)
between_taken i n ts = let e : i + n - i ≡ n = omega arith in ap (λ m. take m (drop i ts)) e
