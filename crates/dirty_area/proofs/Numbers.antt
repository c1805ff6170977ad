-- How many rectangles blocks have, also after a change.
use Rattle.std.proofs.Common.{◌≡◌, sym, ap, ◌∙◌, subst, ℕ, ◌+◌, ◌-◌, ◌^◌, ◌<◌, ◌≤◌, List, [], ◌∷◌, ◌++◌, map, take, set, length, get_or, Option, arith}
use Rattle.std.specs.Prelude.{IfSome, min}
use Rattle.std.specs.List.{sum, sum_by}
use Rattle.std.proofs.lemmas.List.{length-append}
use Rattle.std.proofs.lemmas.List.Concat.{length-flat_map}
use Rattle.std.proofs.lemmas.List.Sums.{sum-map, sum_by-set, sum_by_more, get_or-le-sum_by}
use Rattle.std.proofs.lemmas.Option.{IfSome_then}
use Rattle.plane_terms.specs.Rectangle.{Rectangle}
use Rattle.dirty_area.specs.Blocks.{Block, IsNumber, runs, joined, all_rects}
use Rattle.dirty_area.proofs.Joins.{run_at, length_runs}
use Rattle.dirty_area.proofs.Rooms.{runs_set}

pub one_more : (d e : List Rectangle) (r : Rectangle) (o : Option ℕ) → e ≡ d ++ r ∷ [] → IfSome o (λ m. m + 0 ≡ length d + 1)
    → IfSome o (λ m. m ≡ length e)
one_more d e r o put h = let n = ap length put ∙ length-append d (r ∷ []) in IfSome_then o h (λ m t. omega (arith, t, n))

sum_of : (xss : List (List Rectangle)) → length (joined xss) ≡ sum_by length xss
sum_of xss = length-flat_map (λ xs. xs) xss

-- those of one block are among them
pub some_of_all : (bs : List Block) (i : ℕ) (b : Block) (o : Option ℕ) → i < length bs → b ≡ get_or bs i b → IsNumber bs o
    → IfSome o (λ n. length b.items ≤ n)
some_of_all bs i b o l is h =
    let at = ap length (run_at bs i b l is) in
    let less = get_or-le-sum_by length (runs bs) i [] (omega (arith, l, length_runs bs)) in
    let all = sum_of (runs bs) in
    IfSome_then o h (λ n e. omega (arith, e, at, less, all))

pub block_changed : (bs : List Block) (i : ℕ) (b c : Block) (o : Option ℕ) → i < length bs → b ≡ get_or bs i b
    → IfSome o (λ m. m + length b.items ≡ length (all_rects bs) + length c.items) → IsNumber (set bs i c) o
block_changed bs i b c o l is h =
    let at = ap length (run_at bs i b l is) in
    let changed = sum_by-set length (runs bs) i c.items [] (omega (arith, l, length_runs bs)) in
    let before = sum_of (runs bs) in
    let after = ap (λ xss. length (joined xss)) (runs_set bs i c) ∙ sum_of (set (runs bs) i c.items) in
    IfSome_then o h (λ m e. omega (arith, e, at, changed, before, after))

-- they stay as many
pub same_number : (bs cs : List Block) (o : Option ℕ) → all_rects cs ≡ all_rects bs → IsNumber bs o → IsNumber cs o
same_number bs cs o e h = subst (λ d. IfSome o (λ n. n ≡ length d)) (sym e) h

-- ---- how many those at some places have, as far as a number can say
abbrev pub counted : List Block → List ℕ → ℕ
counted bs ks = min (sum (map (λ k. length (get_or (runs bs) k [])) ks)) (2 ^ 64 - 1)

min_more : (m s a b c d : ℕ) → a ≡ min s m → b ≡ min (a + c) m → d ≡ s + c → b ≡ min d m
min_more m s a b c d one two more = grind (arith)

pub count_more : (bs : List Block) (ks : List ℕ) (i : ℕ) (b : Block) (before len after : ℕ) → i < length ks → get_or ks i 0 < length bs
    → b ≡ get_or bs (get_or ks i 0) b → len ≡ length b.items → before ≡ counted bs (take i ks) → after ≡ min (before + len) (2 ^ 64 - 1)
    → after ≡ counted bs (take (i + 1) ks)
count_more bs ks i b before len after l short is size one two =
    let f : ℕ → ℕ = λ j. length (get_or (runs bs) j []) in
    let all : len ≡ f (get_or ks i 0) = size ∙ ap length (sym (run_at bs (get_or ks i 0) b short is)) in
    let more : sum (map f (take (i + 1) ks)) ≡ sum (map f (take i ks)) + len =
    sum-map f (take (i + 1) ks) ∙ (sum_by_more f ks i 0 l ∙ (ap (λ n. n + f (get_or ks i 0)) (sym (sum-map f (take i ks)))
    ∙ ap (λ n. sum (map f (take i ks)) + n) (sym all))) in
    min_more (2 ^ 64 - 1) (sum (map f (take i ks))) before after len (sum (map f (take (i + 1) ks))) one two more
