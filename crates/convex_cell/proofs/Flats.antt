-- Cells that stand in one list of half-planes.
use Rattle.std.proofs.Common.{◌≡◌, ◌≤◌, ◌<◌, ◌+◌, ◌-◌, ◌∙◌, ℕ, zero, suc, true, false, inl, inr, List, [], ◌∷◌, ◌++◌, Some, Result, Ok, Err, OnOk, OnErr, length, get_or, take, drop, map, slice_get, slice_range, sum_by, arith, refl, ap, sym, subst}
use Rattle.std.specs.List.{All, AllByRecursion}
use Rattle.std.specs.List.{list_any}
use Rattle.std.proofs.lemmas.Bool.{cases_Bool}
use Rattle.std.proofs.lemmas.Option.{slice_get_within, get_or_from_slice_get}
use Rattle.std.proofs.lemmas.List.{take_all, take_at, take_more, take-append-drop, take-append-le, drop-append-le, drop_at, drop-drop, length-take, length-drop, length-append, length-map, take-map, drop-map}
use Rattle.std.proofs.lemmas.List.Elements.{All-from_recursion}
use Rattle.std.proofs.lemmas.List.Sums.{sum_by-cons}
use Rattle.plane_terms.specs.HalfPlane.{HalfPlane, weak}
use Rattle.plane_terms.specs.Cell.{Cell, same_half, meet_of, weak_of}
use Rattle.convex_cell.specs.Flat.{cells_at, AreEnds}
use Rattle.convex_cell.proofs.Pieces.{begins_more}

pub ends_below : (from : ℕ) (es : List ℕ) (n : ℕ) → AreEnds from es n → from ≤ n
ends_below from [] n h = omega (arith, h)
ends_below from (e ∷ es) n h = omega (arith, h.0, ends_below e es n h.1)

pub cells_long : (hs : Cell) (from : ℕ) (es : List ℕ) → length (cells_at hs from es) ≡ length es
cells_long hs from [] = refl
cells_long hs from (e ∷ es) = ap suc (cells_long hs e es)

-- ---- a cell more
range_kept : (hs xs : Cell) (a b : ℕ) → a ≤ b → b ≤ length hs → slice_range (hs ++ xs) a b ≡ slice_range hs a b
range_kept hs xs a b l m =
    ap (take (b - a)) (drop-append-le a hs xs (omega (arith, l, m)))
    ∙ take-append-le (b - a) (drop a hs) xs (omega (arith, l, m, length-drop a hs))

range_last : (hs xs : Cell) → slice_range (hs ++ xs) (length hs) (length (hs ++ xs)) ≡ xs
range_last hs xs =
    ap (take (length (hs ++ xs) - length hs)) (drop_at hs xs (length hs) refl)
    ∙ take_all (length (hs ++ xs) - length hs) xs (omega (arith, length-append hs xs))

pub cells_more : (hs xs : Cell) (from : ℕ) (es : List ℕ) → AreEnds from es (length hs)
    → cells_at (hs ++ xs) from (es ++ length (hs ++ xs) ∷ []) ≡ cells_at hs from es ++ xs ∷ []
cells_more hs xs from [] h = subst (λ k. slice_range (hs ++ xs) k (length (hs ++ xs)) ∷ [] ≡ xs ∷ []) (sym h)
    (ap (λ (c : Cell). c ∷ []) (range_last hs xs))
cells_more hs xs from (e ∷ es) h =
    let first : slice_range (hs ++ xs) from e ≡ slice_range hs from e = range_kept hs xs from e h.0 (ends_below e es (length hs) h.1) in
    ap (λ (c : Cell). c ∷ cells_at (hs ++ xs) e (es ++ length (hs ++ xs) ∷ [])) first
    ∙ ap (λ (cs : List Cell). slice_range hs from e ∷ cs) (cells_more hs xs e es h.1)

pub ends_more : (from : ℕ) (es : List ℕ) (n m : ℕ) → AreEnds from es n → n ≤ m → AreEnds from (es ++ m ∷ []) m
ends_more from [] n m h l = (omega (arith, h, l), refl)
ends_more from (e ∷ es) n m h l = (h.0, ends_more e es n m h.1 l)

pub cells_put : (hs ks xs : Cell) (es fs : List ℕ) → AreEnds 0 es (length hs) → ks ≡ hs ++ xs → fs ≡ es ++ length ks ∷ []
    → cells_at ks 0 fs ≡ cells_at hs 0 es ++ xs ∷ []
cells_put hs ks xs es fs h i j = rw (j, i) (cells_more hs xs 0 es h)

pub ends_put : (hs ks xs : Cell) (es fs : List ℕ) → AreEnds 0 es (length hs) → ks ≡ hs ++ xs → fs ≡ es ++ length ks ∷ []
    → AreEnds 0 fs (length ks)
ends_put hs ks xs es fs h i j = rw (j, i) (ends_more 0 es (length hs) (length (hs ++ xs)) h (omega (arith, length-append hs xs)))

-- ---- a cell of the list
pub cell_read : (hs : Cell) (from : ℕ) (es : List ℕ) (i a b : ℕ) → i < length es → slice_get (from ∷ es) i ≡ Some a → b ≡ get_or es i b
    → slice_get (cells_at hs from es) i ≡ Some (slice_range hs a b)
cell_read hs from [] i a b l h e = absurd (omega (arith, l))
cell_read hs from (x ∷ es) zero a b l h e =
    let same : from ≡ a = cc in
    ap (λ (k : ℕ). Some (slice_range hs from k)) (sym e) ∙ ap (λ (k : ℕ). Some (slice_range hs k b)) same
cell_read hs from (x ∷ es) (suc i) a b l h e = cell_read hs x es i a b (omega (arith, l)) h e

pub cell_fits : (n from : ℕ) (es : List ℕ) (i a b : ℕ) → AreEnds from es n → i < length es → slice_get (from ∷ es) i ≡ Some a
    → b ≡ get_or es i b → (a ≤ b) × (b ≤ n)
cell_fits n from [] i a b f l h e = absurd (omega (arith, l))
cell_fits n from (x ∷ es) zero a b f l h e =
    let same : from ≡ a = cc in
    (omega (arith, f.0, same, e), omega (arith, e, ends_below x es n f.1))
cell_fits n from (x ∷ es) (suc i) a b f l h e = cell_fits n x es i a b f.1 (omega (arith, l)) h e

-- ---- how many half-planes there are
pub halves_counted : (hs : Cell) (n from : ℕ) (es : List ℕ) → AreEnds from es n → n ≤ length hs
    → from + sum_by (λ (c : Cell). length c) (cells_at hs from es) ≡ n
halves_counted hs n from [] h l = omega (arith, h)
halves_counted hs n from (e ∷ es) h l =
    let all : e ≤ n = ends_below e es n h.1 in
    let first : length (slice_range hs from e) ≡ e - from = omega (arith, h.0, all, l, length-take (e - from) (drop from hs), length-drop from hs) in
    let rest = halves_counted hs n e es h.1 l in
    omega (arith, h.0, first, rest, sum_by-cons (λ (c : Cell). length c) (slice_range hs from e) (cells_at hs e es))

-- ---- another list behind
range_behind : (hs ms : Cell) (a b : ℕ) → slice_range (hs ++ ms) (length hs + a) (length hs + b) ≡ slice_range ms a b
range_behind hs ms a b =
    let behind : drop (length hs + a) (hs ++ ms) ≡ drop a ms = sym (drop-drop a (length hs) (hs ++ ms)) ∙ ap (drop a) (drop_at hs ms (length hs) refl) in
    let long : (length hs + b) - (length hs + a) ≡ b - a = omega arith in
    rw (behind, long) refl

cells_behind : (hs ms : Cell) (from : ℕ) (fs : List ℕ)
    → cells_at (hs ++ ms) (length hs + from) (map {A = ℕ} (λ e. length hs + e) fs) ≡ cells_at ms from fs
cells_behind hs ms from [] = refl
cells_behind hs ms from (e ∷ fs) =
    ap (λ (c : Cell). c ∷ cells_at (hs ++ ms) (length hs + e) (map {A = ℕ} (λ e. length hs + e) fs)) (range_behind hs ms from e)
    ∙ ap (λ (cs : List Cell). slice_range ms from e ∷ cs) (cells_behind hs ms e fs)

cells_joined : (hs ms : Cell) (from : ℕ) (es fs : List ℕ) → AreEnds from es (length hs)
    → cells_at (hs ++ ms) from (es ++ map {A = ℕ} (λ e. length hs + e) fs) ≡ cells_at hs from es ++ cells_at ms 0 fs
cells_joined hs ms from [] fs h =
    let start : length hs + 0 ≡ from = omega (arith, h) in
    subst (λ k. cells_at (hs ++ ms) k (map {A = ℕ} (λ e. length hs + e) fs) ≡ cells_at ms 0 fs) start (cells_behind hs ms 0 fs)
cells_joined hs ms from (e ∷ es) fs h =
    let first : slice_range (hs ++ ms) from e ≡ slice_range hs from e = range_kept hs ms from e h.0 (ends_below e es (length hs) h.1) in
    ap (λ (c : Cell). c ∷ cells_at (hs ++ ms) e (es ++ map {A = ℕ} (λ e. length hs + e) fs)) first
    ∙ ap (λ (cs : List Cell). slice_range hs from e ∷ cs) (cells_joined hs ms e es fs h.1)

ends_behind : (n from m : ℕ) (fs : List ℕ) → AreEnds from fs m → AreEnds (n + from) (map {A = ℕ} (λ e. n + e) fs) (n + m)
ends_behind n from m [] h = ap (λ k. n + k) h
ends_behind n from m (e ∷ fs) h = (omega (arith, h.0), ends_behind n e m fs h.1)

ends_joined : (n from m : ℕ) (es fs : List ℕ) → AreEnds from es n → AreEnds 0 fs m → AreEnds from (es ++ map {A = ℕ} (λ e. n + e) fs) (n + m)
ends_joined n from m [] fs h k =
    let start : n + 0 ≡ from = omega (arith, h) in
    subst (λ z. AreEnds z (map {A = ℕ} (λ e. n + e) fs) (n + m)) start (ends_behind n 0 m fs k)
ends_joined n from m (e ∷ es) fs h k = (h.0, ends_joined n e m es fs h.1 k)

pub cells_append : (hs ks ms : Cell) (es gs fs : List ℕ) → AreEnds 0 es (length hs) → ks ≡ hs ++ ms
    → gs ≡ es ++ map {A = ℕ} (λ e. length hs + e) fs → cells_at ks 0 gs ≡ cells_at hs 0 es ++ cells_at ms 0 fs
cells_append hs ks ms es gs fs h i j = rw (j, i) (cells_joined hs ms 0 es fs h)

pub ends_append : (hs ks ms : Cell) (es gs fs : List ℕ) → AreEnds 0 es (length hs) → AreEnds 0 fs (length ms) → ks ≡ hs ++ ms
    → gs ≡ es ++ map {A = ℕ} (λ e. length hs + e) fs → AreEnds 0 gs (length ks)
ends_append hs ks ms es gs fs h k i j =
    rw (j, i, length-append hs ms) (ends_joined (length hs) 0 (length ms) es fs h k)

-- each end is one that a place of the list can be
fit_by : (n top from m : ℕ) (fs : List ℕ) → AreEnds from fs m → n + m < top → AllByRecursion (λ e. n + e < top) fs
fit_by n top from m [] h l = tt
fit_by n top from m (e ∷ fs) h l = (omega (arith, ends_below e fs m h.1, l), fit_by n top e m fs h.1 l)

pub ends_fit : (n top m : ℕ) (fs : List ℕ) → AreEnds 0 fs m → n + m < top → All (λ e. n + e < top) fs
ends_fit n top m fs h l = All-from_recursion (λ e. n + e < top) fs (fit_by n top 0 m fs h l)

-- ---- the half-planes of a meet, put at the end
pub meet_by_one : (c : Cell) (h : HalfPlane) (hs : Cell) → meet_of (meet_of c (h ∷ [])) hs ≡ meet_of c (h ∷ hs)
meet_by_one c h hs = elim (cases_Bool (list_any (same_half h) c)) [ inl e ↦ rw (e) refl | inr e ↦ rw (e) refl ]

pub one_there : (c : Cell) (h : HalfPlane) → list_any (same_half h) c ≡ true → c ≡ meet_of c (h ∷ [])
one_there c h e = rw (e) refl

pub one_new : (hs ks : Cell) (from : ℕ) (h : HalfPlane) → from ≤ length hs → list_any (same_half h) (drop from hs) ≡ false → ks ≡ hs ++ h ∷ []
    → drop from ks ≡ meet_of (drop from hs) (h ∷ [])
one_new hs ks from h l e k = ap (drop from) k ∙ (drop-append-le from hs (h ∷ []) l ∙ rw (e) refl)

pub met_behind : (hs ks first second ms : Cell) → ms ≡ hs ++ first → drop (length hs) ks ≡ meet_of (drop (length hs) ms) second
    → take (length ms) ks ≡ ms → ks ≡ hs ++ meet_of first second
met_behind hs ks first second ms e m b =
    let begins : take (length hs) ks ≡ hs = begins_more hs ms ks (ap (take (length hs)) e ∙ take_at hs first (length hs) refl) b in
    let behind : drop (length hs) ms ≡ first = ap (drop (length hs)) e ∙ drop_at hs first (length hs) refl in
    sym (take-append-drop (length hs) ks) ∙ (ap (λ (xs : Cell). xs ++ drop (length hs) ks) begins
    ∙ ap (λ (xs : Cell). hs ++ xs) (m ∙ ap (λ (xs : Cell). meet_of xs second) behind))

pub begins_behind : (hs ks first ms : Cell) → ms ≡ hs ++ first → take (length ms) ks ≡ ms → take (length hs) ks ≡ hs
begins_behind hs ks first ms e b = begins_more hs ms ks (ap (take (length hs)) e ∙ take_at hs first (length hs) refl) b

-- ---- a cell that was put at the end, or was not
pub put_ends : {A E : Type 0} (r p : Result A E) (hs ms ks xs : Cell) (es fs : List ℕ) (len : ℕ) → AreEnds 0 es (length hs) → len ≡ length hs
    → OnOk p (ms ≡ hs ++ xs) → take (length hs) ms ≡ hs → OnOk r (p ≡ r) → OnOk r (ks ≡ ms) → OnOk r (fs ≡ es ++ length ms ∷ [])
    → OnErr r (ks ≡ take len ms) → OnErr r (fs ≡ es) → AreEnds 0 fs (length ks)
put_ends (Ok a) p hs ms ks xs es fs len h l x b o k f m g =
    ends_put hs ks xs es fs h (k ∙ subst (λ q. OnOk q (ms ≡ hs ++ xs)) o x) (f ∙ ap (λ (z : Cell). es ++ length z ∷ []) (sym k))
put_ends (Err e) p hs ms ks xs es fs len h l x b o k f m g =
    let back : ks ≡ hs = m ∙ (ap (λ n. take n ms) l ∙ b) in
    rw (g, back) h

pub put_cells : {A E : Type 0} (r p : Result A E) (hs ms ks xs : Cell) (es fs : List ℕ) → AreEnds 0 es (length hs)
    → OnOk p (ms ≡ hs ++ xs) → OnOk r (p ≡ r) → OnOk r (ks ≡ ms) → OnOk r (fs ≡ es ++ length ms ∷ [])
    → OnOk r (cells_at ks 0 fs ≡ cells_at hs 0 es ++ xs ∷ [])
put_cells (Ok a) p hs ms ks xs es fs h x o k f =
    cells_put hs ks xs es fs h (k ∙ subst (λ q. OnOk q (ms ≡ hs ++ xs)) o x) (f ∙ ap (λ (z : Cell). es ++ length z ∷ []) (sym k))
put_cells (Err e) p hs ms ks xs es fs h x o k f = tt

pub kept_cells : {A E : Type 0} (r : Result A E) (hs ms ks : Cell) (es fs : List ℕ) (len : ℕ) → len ≡ length hs → take (length hs) ms ≡ hs
    → OnErr r (ks ≡ take len ms) → OnErr r (fs ≡ es) → OnErr r (cells_at ks 0 fs ≡ cells_at hs 0 es)
kept_cells (Ok a) hs ms ks es fs len l b m g = tt
kept_cells (Err e) hs ms ks es fs len l b m g =
    let back : ks ≡ hs = m ∙ (ap (λ n. take n ms) l ∙ b) in
    rw (g, back) refl

-- ---- lists that begin with others
pub taken : (cs : List Cell) (i : ℕ) (c : Cell) → slice_get cs i ≡ Some c → take (i + 1) cs ≡ take i cs ++ c ∷ []
taken cs i c e = take_more cs i c (slice_get_within cs i c e) ∙ ap (λ x. take i cs ++ x ∷ []) (get_or_from_slice_get cs i c c e)

pub begins_with : {X : Type 0} (old new more : List X) → new ≡ old ++ more → take (length old) new ≡ old
begins_with old new more e = ap (take (length old)) e ∙ take_at old more (length old) refl

pub met_if_ok : {A E : Type 0} (r : Result A E) (hs ks first second ms : Cell) (from : ℕ) → from ≡ length hs → ms ≡ hs ++ first
    → OnOk r (drop from ks ≡ meet_of (drop from ms) second) → take (length ms) ks ≡ ms → OnOk r (ks ≡ hs ++ meet_of first second)
met_if_ok (Ok a) hs ks first second ms from l e m b =
    met_behind hs ks first second ms e (subst (λ n. drop n ks ≡ meet_of (drop n ms) second) l m) b
met_if_ok (Err x) hs ks first second ms from l e m b = tt

-- ---- each cell made weak
range_weak : (hs : Cell) (a b : ℕ) → slice_range (weak_of hs) a b ≡ weak_of (slice_range hs a b)
range_weak hs a b = ap (take (b - a)) (drop-map weak a hs) ∙ take-map weak (b - a) (drop a hs)

pub cells_weak : (hs : Cell) (from : ℕ) (es : List ℕ) → cells_at (weak_of hs) from es ≡ map {A = Cell} weak_of (cells_at hs from es)
cells_weak hs from [] = refl
cells_weak hs from (e ∷ es) =
    ap (λ (c : Cell). c ∷ cells_at (weak_of hs) e es) (range_weak hs from e)
    ∙ ap (λ (cs : List Cell). weak_of (slice_range hs from e) ∷ cs) (cells_weak hs e es)

pub ends_weak : (hs : Cell) (from : ℕ) (es : List ℕ) → AreEnds from es (length hs) → AreEnds from es (length (weak_of hs))
ends_weak hs from es h = rw (length-map hs weak) h
