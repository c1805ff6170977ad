-- Blocks that give way to others.
use Rattle.std.proofs.Common.{◌≡◌, refl, sym, ap, ◌∙◌, subst, ℕ, zero, suc, ◌+◌, ◌-◌, ◌<◌, ◌≤◌, false, not, List, [], ◌∷◌, ◌++◌, take, drop, set, map, length, get_or, arith, append-nil}
use Rattle.std.specs.List.{filter}
use Rattle.std.proofs.Math.Seq.{take-add, take-set-lt}
use Rattle.std.proofs.lemmas.List.{take_all, drop-drop, take_more, take_more_set, map-set, drop-set-lt, length-set}
use Rattle.std.proofs.lemmas.List.Elements.{filter-append}
use Rattle.plane_terms.specs.Lists.{Every}
use Rattle.plane_terms.specs.Rectangle.{Rectangle, is_within}
use Rattle.plane_terms.proofs.ListLemmas.{every_left, every_right}
use Rattle.dirty_area.specs.declared.left.Change.{Change}
use Rattle.dirty_area.specs.Blocks.{joined}
use Rattle.dirty_area.specs.Cuts.{patched, between, AreTrimmed}
use Rattle.dirty_area.proofs.Joins.{joined-append, joined_pushed}

-- ---- some of them changed
pub length_patched : (xss : List (List Rectangle)) (cs : List Change) → length (patched xss cs) ≡ length xss
length_patched xss [] = refl
length_patched xss (c ∷ cs) = length_patched (set xss c.place c.block.items) cs ∙ length-set xss c.place c.block.items

pub patched_pushed : (xss : List (List Rectangle)) (cs : List Change) (c : Change)
    → patched xss (cs ++ c ∷ []) ≡ set (patched xss cs) c.place c.block.items
patched_pushed xss [] c = refl
patched_pushed xss (d ∷ cs) c = patched_pushed (set xss d.place d.block.items) cs c

pub patched_beyond : (n : ℕ) (xss : List (List Rectangle)) (cs : List Change) → Every (λ (c : Change). c.place < n) cs
    → drop n (patched xss cs) ≡ drop n xss
patched_beyond n xss [] h = refl
patched_beyond n xss (c ∷ cs) h = patched_beyond n (set xss c.place c.block.items) cs h.1 ∙ drop-set-lt n xss c.place c.block.items h.0

-- the blocks from one place to another stay
pub gone_to : (xss : List (List Rectangle)) (cs : List Change) (n m : ℕ) (begun : List Rectangle) → n ≤ m → Every (λ (c : Change). c.place < n) cs
    → begun ≡ [] → joined (take m (patched xss cs)) ++ begun ≡ (joined (take n (patched xss cs)) ++ begun) ++ between xss n m
gone_to xss cs n m begun l h e =
    let same : n + (m - n) ≡ m = omega (arith, l) in
    let parts : take m (patched xss cs) ≡ take n (patched xss cs) ++ take (m - n) (drop n xss) =
    ap (λ k. take k (patched xss cs)) (sym same) ∙ (take-add n (m - n) (patched xss cs)
    ∙ ap (λ t. take n (patched xss cs) ++ take (m - n) t) (patched_beyond n xss cs h)) in
    rw (e, append-nil (joined (take m (patched xss cs))), append-nil (joined (take n (patched xss cs)))) (ap joined parts
    ∙ joined-append (take n (patched xss cs)) (take (m - n) (drop n xss)))

pub all_left : (xss : List (List Rectangle)) (cs : List Change) (n : ℕ) (begun : List Rectangle) → n ≡ length xss → begun ≡ []
    → joined (patched xss cs) ≡ joined (take n (patched xss cs)) ++ begun
all_left xss cs n begun e none = rw (none, append-nil (joined (take n (patched xss cs))))
    (ap joined (sym (take_all n (patched xss cs) (omega (arith, e, length_patched xss cs)))))

-- the next block gives way
pub closed : (xss : List (List Rectangle)) (cs ds : List Change) (n : ℕ) (c : Change) (begun after : List Rectangle) → n < length xss
    → ds ≡ cs ++ c ∷ [] → c.place ≡ n → c.block.items ≡ begun → after ≡ []
    → joined (take (n + 1) (patched xss ds)) ++ after ≡ joined (take n (patched xss cs)) ++ begun
closed xss cs ds n c begun after l more at is none =
    let short : n < length (patched xss cs) = omega (arith, l, length_patched xss cs) in
    let now : patched xss ds ≡ set (patched xss cs) n begun =
    ap (patched xss) more ∙ (patched_pushed xss cs c ∙ (ap (λ k. set (patched xss cs) k c.block.items) at ∙ ap (set (patched xss cs) n) is)) in
    rw (none, append-nil (joined (take (n + 1) (patched xss ds)))) (ap (λ t. joined (take (n + 1) t)) now
    ∙ (ap joined (take_more_set (patched xss cs) n begun short) ∙ joined_pushed (take n (patched xss cs)) begun))

-- ---- those that a rectangle holds go
abbrev pub without : Rectangle → List Rectangle → List Rectangle
without r xs = filter (λ s. not (is_within s r)) xs

pub joined_without : (r : Rectangle) (xss : List (List Rectangle)) → joined (map (without r) xss) ≡ without r (joined xss)
joined_without r [] = refl
joined_without r (xs ∷ xss) = ap (λ t. without r xs ++ t) (joined_without r xss)
    ∙ sym (filter-append (λ s. not (is_within s r)) xs (joined xss))

pub none_gone : (r : Rectangle) (xs : List Rectangle) → Every (λ s. is_within s r ≡ false) xs → without r xs ≡ xs
none_gone r [] h = refl
none_gone r (x ∷ xs) h = let e = none_gone r xs h.1 in rw (h.0, e) refl

each_stays : (r : Rectangle) (xss : List (List Rectangle)) → Every (λ s. is_within s r ≡ false) (joined xss) → xss ≡ map (without r) xss
each_stays r [] h = refl
each_stays r (xs ∷ xss) h =
    let here = none_gone r xs (every_left (λ s. is_within s r ≡ false) xs (joined xss) h) in
    let rest = each_stays r xss (every_right (λ s. is_within s r ≡ false) xs (joined xss) h) in
    ap (λ t. t ∷ xss) (sym here) ∙ ap (λ t. without r xs ∷ t) rest

trimmed_front : (r : Rectangle) (n : ℕ) (xss yss : List (List Rectangle)) (cs ds : List Change) → AreTrimmed r cs ds
    → Every (λ (c : Change). c.place < n) cs → take n yss ≡ map (without r) (take n xss)
    → take n (patched yss ds) ≡ map (without r) (take n (patched xss cs))
trimmed_front r n xss yss [] [] t h e = e
trimmed_front r n xss yss [] (d ∷ ds) t h e = absurd t
trimmed_front r n xss yss (c ∷ cs) [] t h e = absurd t
trimmed_front r n xss yss (c ∷ cs) (d ∷ ds) t h e =
    let F = without r in
    let left : take n (set yss d.place d.block.items) ≡ set (take n yss) c.place (F c.block.items) =
    ap (λ k. take n (set yss k d.block.items)) t.0.0 ∙ (ap (λ v. take n (set yss c.place v)) t.0.1 ∙ take-set-lt n yss c.place (F c.block.items) h.0) in
    let right : set (map F (take n xss)) c.place (F c.block.items) ≡ map F (take n (set xss c.place c.block.items)) =
    sym (map-set F (take n xss) c.place c.block.items) ∙ ap (map F) (sym (take-set-lt n xss c.place c.block.items h.0)) in
    trimmed_front r n (set xss c.place c.block.items) (set yss d.place d.block.items) cs ds t.1 h.1
    (left ∙ (ap (λ zss. set zss c.place (F c.block.items)) e ∙ right))

pub left_without : (r : Rectangle) (n : ℕ) (xss : List (List Rectangle)) (cs ds : List Change) (begun after : List Rectangle)
    → AreTrimmed r cs ds → Every (λ (c : Change). c.place < n) cs → Every (λ s. is_within s r ≡ false) (joined (take n xss))
    → after ≡ filter (λ s. not (is_within s r)) begun
    → joined (take n (patched xss ds)) ++ after ≡ filter (λ s. not (is_within s r)) (joined (take n (patched xss cs)) ++ begun)
left_without r n xss cs ds begun after t h none e =
    let front = trimmed_front r n xss xss cs ds t h (each_stays r (take n xss) none) in
    ap (λ zs. zs ++ after) (ap joined front ∙ joined_without r (take n (patched xss cs)))
    ∙ (ap (λ zs. without r (joined (take n (patched xss cs))) ++ zs) e
    ∙ sym (filter-append (λ s. not (is_within s r)) (joined (take n (patched xss cs))) begun))

pub places_trimmed : (r : Rectangle) (n : ℕ) (cs ds : List Change) → AreTrimmed r cs ds → Every (λ (c : Change). c.place < n) cs
    → Every (λ (c : Change). c.place < n) ds
places_trimmed r n [] [] t h = tt
places_trimmed r n [] (d ∷ ds) t h = absurd t
places_trimmed r n (c ∷ cs) [] t h = absurd t
places_trimmed r n (c ∷ cs) (d ∷ ds) t h = (subst (λ k. k < n) (sym t.0.0) h.0, places_trimmed r n cs ds t.1 h.1)

pub trimmed_pushed : (r : Rectangle) (cs ds : List Change) (c d : Change) → AreTrimmed r cs ds → d.place ≡ c.place
    → d.block.items ≡ filter (λ s. not (is_within s r)) c.block.items → AreTrimmed r (cs ++ c ∷ []) (ds ++ d ∷ [])
trimmed_pushed r [] [] c d t e f = ((e, f), tt)
trimmed_pushed r [] (y ∷ ds) c d t e f = absurd t
trimmed_pushed r (x ∷ cs) [] c d t e f = absurd t
trimmed_pushed r (x ∷ cs) (y ∷ ds) c d t e f = (t.0, trimmed_pushed r cs ds c d t.1 e f)

get_or-drop_first : (cs : List Change) (i : ℕ) (d : Change) → get_or (drop i cs) 0 d ≡ get_or cs i d
get_or-drop_first cs zero d = refl
get_or-drop_first [] (suc i) d = refl
get_or-drop_first (c ∷ cs) (suc i) d = get_or-drop_first cs i d

drop_more_one : (cs : List Change) (i : ℕ) → drop 1 (drop i cs) ≡ drop (i + 1) cs
drop_more_one cs i = drop-drop 1 i cs

-- ---- block by block
abbrev pub trimmed_to : Rectangle → ℕ → List (List Rectangle) → List (List Rectangle)
trimmed_to r zero xss = xss
trimmed_to r (suc i) [] = []
trimmed_to r (suc i) (xs ∷ xss) = without r xs ∷ trimmed_to r i xss

one_trimmed : (r : Rectangle) (i : ℕ) (xss : List (List Rectangle)) → i < length xss
    → set (trimmed_to r i xss) i (filter (λ s. not (is_within s r)) (get_or (trimmed_to r i xss) i [])) ≡ trimmed_to r (suc i) xss
one_trimmed r i [] l = absurd (omega (arith, l))
one_trimmed r zero (xs ∷ xss) l = refl
one_trimmed r (suc i) (xs ∷ xss) l = ap (λ t. without r xs ∷ t) (one_trimmed r i xss (omega (arith, l)))

pub next_trimmed : (r : Rectangle) (i : ℕ) (xss yss zss : List (List Rectangle)) → i < length xss → yss ≡ trimmed_to r i xss
    → zss ≡ set yss i (filter (λ s. not (is_within s r)) (get_or yss i [])) → zss ≡ trimmed_to r (i + 1) xss
next_trimmed r i xss yss zss l before now =
    let more : suc i ≡ i + 1 = omega arith in
    now ∙ (ap (λ t. set t i (filter (λ s. not (is_within s r)) (get_or t i []))) before ∙ (one_trimmed r i xss l ∙ ap (λ k. trimmed_to r k xss) more))

pub all_trimmed : (r : Rectangle) (i : ℕ) (xss : List (List Rectangle)) → length xss ≤ i
    → joined (trimmed_to r i xss) ≡ filter (λ s. not (is_within s r)) (joined xss)
all_trimmed r zero [] l = refl
all_trimmed r (suc i) [] l = refl
all_trimmed r zero (xs ∷ xss) l = absurd (omega (arith, l))
all_trimmed r (suc i) (xs ∷ xss) l = ap (λ t. without r xs ++ t) (all_trimmed r i xss (omega (arith, l)))
    ∙ sym (filter-append (λ s. not (is_within s r)) xs (joined xss))

-- the next of the changes
pub next_change : (r : Rectangle) (cs ds es : List Change) (i : ℕ) (c d : Change) → i < length cs → length ds ≡ length cs
    → AreTrimmed r (take i cs) (take i ds) → drop i ds ≡ drop i cs → c ≡ get_or ds i c → d.place ≡ c.place
    → d.block.items ≡ filter (λ s. not (is_within s r)) c.block.items → es ≡ set ds i d
    → AreTrimmed r (take (i + 1) cs) (take (i + 1) es) × (drop (i + 1) es ≡ drop (i + 1) cs) × (length es ≡ length cs)
next_change r cs ds es i c d l same trimmed rest is at held e =
    let short : i < length ds = omega (arith, l, same) in
    let was : c ≡ get_or cs i c =
    is ∙ (sym (get_or-drop_first ds i c) ∙ (ap (λ t. get_or t 0 c) rest ∙ get_or-drop_first cs i c)) in
    let before : take (i + 1) cs ≡ take i cs ++ c ∷ [] = take_more cs i c l ∙ ap (λ x. take i cs ++ x ∷ []) (sym was) in
    let after : take (i + 1) es ≡ take i ds ++ d ∷ [] = ap (take (i + 1)) e ∙ take_more_set ds i d short in
    let step : i < i + 1 = omega arith in
    let beyond : drop (i + 1) es ≡ drop (i + 1) cs =
    ap (drop (i + 1)) e ∙ (drop-set-lt (i + 1) ds i d step ∙ (sym (drop_more_one ds i) ∙ (ap (drop 1) rest ∙ drop_more_one cs i))) in
    (rw (before, after) (trimmed_pushed r (take i cs) (take i ds) c d trimmed at held), beyond, ap length e ∙ (length-set ds i d ∙ same))
