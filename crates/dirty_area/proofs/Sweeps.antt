-- A window is cut out of blocks, one after another.
use Rattle.std.proofs.Common.{◌≡◌, inl, inr, refl, sym, ap, ◌∙◌, subst, ℕ, zero, suc, ◌+◌, ◌-◌, ◌<◌, ◌≤◌, Bool, true, false, List, [], ◌∷◌, ◌++◌, Contains, take, drop, length, get_or, arith}
use Rattle.std.specs.Prelude.{◌↔◌}
use Rattle.std.specs.List.{filter}
use Rattle.std.specs.List.Sorted.{IsStrictlyIncreasing}
use Rattle.std.proofs.lemmas.List.{take-append-drop, drop-drop, drop_more, drop_all, get_or_default}
use Rattle.std.proofs.lemmas.List.Elements.{Contains-append_left, Contains-append_right}
use Rattle.std.proofs.lemmas.List.Kept.{AllPairs-from_increasing}
use Rattle.plane_terms.specs.Lists.{Every}
use Rattle.plane_terms.specs.Rectangle.{Rectangle, IsProper, rects_meet}
use Rattle.plane_terms.specs.Dirt.{AreLoose, IsLoose, add_all, cut_dirt, pieces}
use Rattle.plane_terms.proofs.ListLemmas.{IsAmong, contains_among, every_among, every_by_index}
use Rattle.sound_laws.proofs.Edits.{same_or_not}
use Rattle.grid_index.proofs.Adding.{contains_none}
use Rattle.grid_index.proofs.Members.{among}
use Rattle.dirty_area.specs.Blocks.{joined}
use Rattle.dirty_area.specs.Cuts.{between}
use Rattle.dirty_area.specs.Indexed.{MeetsAt}
use Rattle.dirty_area.specs.Parts.{IsDirt, IsPartway}
use Rattle.dirty_area.proofs.Indexes.{joined_at, within_length}
use Rattle.dirty_area.proofs.Joins.{joined-append, joined_rest}
use Rattle.dirty_area.proofs.Kept.{every_from}
use Rattle.dirty_area.proofs.Runs.{one_beside, run_beside, one_met, ended}

-- ---- one rectangle
pub rect_cut : (xs rest : List Rectangle) (w : Rectangle) (left met round : List Rectangle) (x : Rectangle) (after met_after round_after : List Rectangle)
    → IsDirt xs → IsProper w
    → (rects_meet x w ≡ false → (after ≡ left ++ x ∷ []) × (round_after ≡ round) × (met_after ≡ met))
    → (rects_meet x w ≡ true → (after ≡ add_all left (pieces x w)) × (round_after ≡ add_all round (pieces x w)) × (met_after ≡ met ++ x ∷ [])
    × IsDirt after)
    → IsPartway xs (x ∷ rest) w left met round → IsPartway xs rest w after met_after round_after
rect_cut xs rest w left met round x after met_after round_after d v beside meets h = by (rects_meet x w) refl
  where
    by : (b : Bool) → rects_meet x w ≡ b → IsPartway xs rest w after met_after round_after
    by false e =
        let k = beside e in
        rw (k.0, k.1, k.2) (one_beside xs rest w left met round x e h)
    by true e =
        let k = meets e in
        subst (λ ms. IsPartway xs rest w after ms round_after) (sym k.2)
        (one_met xs rest w left met round x after round_after d.loose v e k.0 k.1 k.3 h)

-- one of a list is loose from all before
loose_before : (xs ys : List Rectangle) (y : Rectangle) → IsLoose (xs ++ ys) → IsAmong y ys → Every (AreLoose y) xs
loose_before [] ys y l m = tt
loose_before (x ∷ xs) ys y l m =
    let a : AreLoose x y = every_among (AreLoose x) (xs ++ ys) l.0 y (among (xs ++ ys) y (Contains-append_right xs ys y (contains_among ys y m))) in
    (record { left = a.right; right = a.left }, loose_before xs ys y l.1 m)

pub loose_front : (xss : List (List Rectangle)) (n i : ℕ) (rects : List Rectangle) (x : Rectangle) → n < length xss → IsDirt (joined xss)
    → rects ≡ get_or xss n [] → i < length rects → x ≡ get_or rects i x → Every (AreLoose x) (joined (take n xss))
loose_front xss n i rects x l d is short at =
    let parts : joined xss ≡ joined (take n xss) ++ joined (drop n xss) =
    ap joined (sym (take-append-drop n xss)) ∙ joined-append (take n xss) (drop n xss) in
    let there : Contains (joined (drop n xss)) x = rw (joined_rest xss n l)
    (Contains-append_left (get_or xss n []) (joined (drop (n + 1) xss)) x (subst (λ ys. Contains ys x) is (i, short, sym at))) in
    loose_before (joined (take n xss)) (joined (drop n xss)) x (subst IsLoose parts d.loose) (among (joined (drop n xss)) x there)

-- ---- the blocks between those that meet the window
pub between_rest : (xss : List (List Rectangle)) (n m : ℕ) → n ≤ m → joined (drop n xss) ≡ between xss n m ++ joined (drop m xss)
between_rest xss n m l =
    let same : n + (m - n) ≡ m = omega (arith, l) in
    ap joined (sym (take-append-drop (m - n) (drop n xss)))
    ∙ (joined-append (take (m - n) (drop n xss)) (drop (m - n) (drop n xss))
    ∙ ap (λ t. between xss n m ++ joined t) (drop-drop (m - n) n xss ∙ ap (λ k. drop k xss) same))

get_first : (k m : ℕ) (s : Rectangle) (xss : List (List Rectangle)) → Contains (get_or (take m xss) k []) s
    → (k < m) × Contains (get_or xss k []) s
get_first k zero s xss h = absurd (contains_none s h)
get_first k (suc m) s [] h = absurd (contains_none s h)
get_first zero (suc m) s (xs ∷ xss) h = (omega arith, h)
get_first (suc k) (suc m) s (xs ∷ xss) h = let a = get_first k m s xss h in (omega (arith, a.0), a.1)

get_later : (n k : ℕ) (xss : List (List Rectangle)) → get_or (drop n xss) k [] ≡ get_or xss (n + k) []
get_later zero k xss = let e : k ≡ 0 + k = omega arith in ap (λ j. get_or xss j []) e
get_later (suc n) k [] = refl
get_later (suc n) k (xs ∷ xss) =
    let e : suc (n + k) ≡ suc n + k = omega arith in
    get_later n k xss ∙ ap (λ j. get_or (xs ∷ xss) j []) e

pub between_beside : (xss : List (List Rectangle)) (w : Rectangle) (n m : ℕ) → n ≤ m
    → ((k : ℕ) → n ≤ k → k < m → ¬ (MeetsAt xss w k)) → Every (λ s. rects_meet s w ≡ false) (between xss n m)
between_beside xss w n m l none = every_from (λ s. rects_meet s w ≡ false) (between xss n m) each
  where
    each : (s : Rectangle) → IsAmong s (between xss n m) → rects_meet s w ≡ false
    each s a =
        let at = joined_at (take (m - n) (drop n xss)) s (contains_among (between xss n m) s a) in
        let b = get_first at.0 (m - n) s (drop n xss) at.1 in
        let c : Contains (get_or xss (n + at.0) []) s = subst (λ ys. Contains ys s) (get_later n at.0 xss) b.1 in
        by (rects_meet s w) refl (omega arith) (omega (arith, b.0)) c
      where
        by : {k : ℕ} → (b : Bool) → rects_meet s w ≡ b → n ≤ k → k < m → Contains (get_or xss k []) s → rects_meet s w ≡ false
        by false e low high c = e
        by {k} true e low high c = absurd (none k low high (s, c, e))

-- ---- the places of those that meet it
-- the next block that is to be done is n; of the places those from i on are to come
pub record AreToCome (xss : List (List Rectangle)) (w : Rectangle) (places : List ℕ) (i n : ℕ) : Type 0 where
  pub later : (k d : ℕ) → i ≤ k → k < length places → n ≤ get_or places k d
  pub among_them : (k : ℕ) → n ≤ k → MeetsAt xss w k → (j : ℕ) × (i ≤ j) × (j < length places) × (get_or places j k ≡ k)

pub all_to_come : (xss : List (List Rectangle)) (w : Rectangle) (places : List ℕ) → ((k : ℕ) → Contains places k ↔ MeetsAt xss w k)
    → AreToCome xss w places 0 0
all_to_come xss w places meet = record {
  later = λ k d l m. omega arith;
  among_them = λ k l m. let c = (meet k).1 m in (c.0, omega arith, c.1, c.2);
}

pub place_meets : (xss : List (List Rectangle)) (w : Rectangle) (places : List ℕ) (i d : ℕ) → i < length places
    → ((k : ℕ) → Contains places k ↔ MeetsAt xss w k) → MeetsAt xss w (get_or places i d)
place_meets xss w places i d l meet = (meet (get_or places i d)).0 (i, l, get_or_default places i (get_or places i d) d l)

pub places_within : (xss : List (List Rectangle)) (n : ℕ) (w : Rectangle) (places : List ℕ) → n ≡ length xss
    → ((k : ℕ) → Contains places k ↔ MeetsAt xss w k) → Every (λ k. k < n) places
places_within xss n w places e meet = every_by_index (λ k. k < n) places (λ i d l.
    let m = place_meets xss w places i d l meet in
    let k = within_length xss (get_or places i d) m.0 m.1 in
    omega (arith, e, k))

not_before : (places : List ℕ) (i j k place : ℕ) → IsStrictlyIncreasing places → i ≤ j → j < length places → place ≡ get_or places i place
    → get_or places j k ≡ k → place ≤ k
not_before places i j k place rising l short is at = elim (same_or_not i j) [
  | inl e ↦
      let same : place ≡ k = is ∙ (ap (λ a. get_or places a place) e ∙ (get_or_default places j place k short ∙ at)) in
      omega (arith, same)
  | inr n ↦
      let less = AllPairs-from_increasing places rising i j place (omega (arith, l, n)) short in
      let same : get_or places j place ≡ k = get_or_default places j place k short ∙ at in
      omega (arith, less, is, same)
]

pub none_between : (xss : List (List Rectangle)) (w : Rectangle) (places : List ℕ) (i n place : ℕ) → IsStrictlyIncreasing places
    → place ≡ get_or places i place → AreToCome xss w places i n → (k : ℕ) → n ≤ k → k < place → ¬ (MeetsAt xss w k)
none_between xss w places i n place rising is come k low high m =
    let a = come.among_them k low m in
    let b = not_before places i a.0 k place rising a.1 a.2 is a.3 in
    absurd (omega (arith, b, high))

pub next_to_come : (xss : List (List Rectangle)) (w : Rectangle) (places : List ℕ) (i n place : ℕ) → i < length places
    → IsStrictlyIncreasing places → place ≡ get_or places i place → AreToCome xss w places i n → AreToCome xss w places (i + 1) (place + 1)
next_to_come xss w places i n place l rising is come = record {
  later = λ k d a b.
      let less = AllPairs-from_increasing places rising i k d (omega (arith, a)) b in
      let same : get_or places i d ≡ place = get_or_default places i d place l ∙ sym is in
      omega (arith, less, same);
  among_them = λ k a m.
      let low = come.later i place (omega arith) l in
      let c = come.among_them k (omega (arith, low, is, a)) m in
      elim (same_or_not i c.0) [
        | inl e ↦
            let same : place ≡ k = is ∙ (ap (λ b. get_or places b place) e ∙ (get_or_default places c.0 place k c.2 ∙ c.3)) in
            absurd (omega (arith, same, a))
        | inr o ↦ (c.0, omega (arith, c.1, o), c.2, c.3)
      ];
}

pub none_to_come : (xss : List (List Rectangle)) (w : Rectangle) (places : List ℕ) (i n : ℕ) → length places ≤ i → AreToCome xss w places i n
    → (k : ℕ) → n ≤ k → ¬ (MeetsAt xss w k)
none_to_come xss w places i n l come k low m = let c = come.among_them k low m in absurd (omega (arith, c.1, c.2, l))

-- ---- the steps of the loop
pub gone_beside : (xss : List (List Rectangle)) (w : Rectangle) (n m : ℕ) (left after met round : List Rectangle) → n ≤ m
    → ((k : ℕ) → n ≤ k → k < m → ¬ (MeetsAt xss w k)) → after ≡ left ++ between xss n m
    → IsPartway (joined xss) (joined (drop n xss)) w left met round → IsPartway (joined xss) (joined (drop m xss)) w after met round
gone_beside xss w n m left after met round l none e h =
    subst (λ d. IsPartway (joined xss) (joined (drop m xss)) w d met round) (sym e)
    (run_beside (joined xss) (between xss n m) (joined (drop m xss)) w left met round (between_beside xss w n m l none)
    (subst (λ t. IsPartway (joined xss) t w left met round) (between_rest xss n m l) h))

pub next_rest : (rects rest : List Rectangle) (i : ℕ) (x : Rectangle) → i < length rects → x ≡ get_or rects i x
    → drop i rects ++ rest ≡ x ∷ (drop (i + 1) rects ++ rest)
next_rest rects rest i x l is = ap (λ t. t ++ rest) (drop_more rects i x l ∙ ap (λ s. s ∷ drop (i + 1) rects) (sym is))

-- ---- the end
pub swept : (xss : List (List Rectangle)) (w : Rectangle) (n m : ℕ) (left after met round : List Rectangle) → n ≤ m → m ≡ length xss
    → ((k : ℕ) → n ≤ k → ¬ (MeetsAt xss w k)) → after ≡ left ++ between xss n m
    → IsPartway (joined xss) (joined (drop n xss)) w left met round
    → (after ≡ cut_dirt (joined xss) w) × (met ≡ filter (λ s. rects_meet s w) (joined xss)) × IsDirt after
swept xss w n m left after met round l e none more h =
    let last = gone_beside xss w n m left after met round l (λ k low high. none k low) more h in
    ended (joined xss) w after met round (subst (λ t. IsPartway (joined xss) t w after met round) (ap joined (drop_all m xss (omega (arith, e)))) last)
