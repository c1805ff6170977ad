-- Lists of slots, in which each leads to the one of the same slot before it.
use Rattle.std.proofs.Common.{◌≡◌, ◌≢◌, ◌<◌, ◌≤◌, ◌+◌, ◌-◌, ◌*◌, ◌%◌, ◌∙◌, ℕ, ◌⊎◌, unsigned_abs, true, false, inl, inr, List, [], ◌∷◌, ◌++◌, length, get_or, set, take, replicate, arith, refl, ap, sym, subst}
use Rattle.std.specs.List.{list_any, All}
use Rattle.std.proofs.lemmas.Bool.{cases_Bool}
use Rattle.std.proofs.lemmas.Bool.Decides.{eqb_tells}
use Rattle.std.proofs.lemmas.List.{get_or_default, get_or-append_right, get_or_append_left, get_or-set_same, get_or-set_other, get_or-take, get_or-map, length-set, length-append, length-take, length-map, map-append, take-map}
use Rattle.std.proofs.lemmas.Grind.{get_or_default_zero}
use Rattle.std.proofs.lemmas.List.Elements.{All-replicate}
use Rattle.std.proofs.lemmas.List.Folds.{list_any_none, list_any_at}
use Rattle.plane_terms.specs.HalfPlane.{HalfPlane}
use Rattle.plane_terms.specs.Cell.{Cell, same_half}
use Rattle.cell_laws.proofs.Meets.{same_half-is}
use Rattle.convex_cell.specs.Indexed.{slot_of, slots_of, IsLastOf, AreChained}

pub slot_made : (h : HalfPlane) (a b c : ℕ) → a ≡ unsigned_abs h.a → b ≡ unsigned_abs h.b → c ≡ unsigned_abs h.c → (a + 31 * b + c) % 1021 ≡ slot_of h
unfolding slot_of
slot_made h a b c e f g = rw (e, f, g) refl

-- ---- one slot
none_at : (s n : ℕ) (xs : List ℕ) → n ≡ 0 → IsLastOf s xs 0 n
none_at s n xs e = record {
  fits = omega (arith, e);
  there = λ h. absurd (omega (arith, e, h));
  none = λ j a b. absurd (omega (arith, b));
}

kept_before : (s t m n : ℕ) (xs : List ℕ) → m ≤ length xs → IsLastOf s xs m n → IsLastOf s (xs ++ t ∷ []) m n
kept_before s t m n xs l h = record {
  fits = h.fits;
  there = λ k. get_or_append_left xs (t ∷ []) 0 (n - 1) (omega (arith, h.fits, k, l)) ∙ h.there k;
  none = λ j a b e. h.none j a b (sym (get_or_append_left xs (t ∷ []) 0 j (omega (arith, b, l))) ∙ e);
}

read_last : (t j : ℕ) (xs : List ℕ) → j ≡ length xs → get_or (xs ++ t ∷ []) j 0 ≡ t
read_last t j xs e = get_or-append_right xs (t ∷ []) (length xs) j 0 refl (omega (arith, e))
    ∙ ap (λ i. get_or (t ∷ []) i 0) (let z : j - length xs ≡ 0 = omega (arith, e) in z)

kept_beside : (s t n : ℕ) (xs : List ℕ) → t ≢ s → IsLastOf s xs (length xs) n → IsLastOf s (xs ++ t ∷ []) (length xs + 1) n
kept_beside s t n xs d h =
    let k = kept_before s t (length xs) n xs (omega arith) h in
    record {
      fits = omega (arith, h.fits);
      there = k.there;
      none = λ j a b e. elim (eqb_tells j (length xs)) [
        | inl w ↦ d (sym (read_last t j xs w.1) ∙ e)
        | inr w ↦ k.none j a (omega (arith, b, w.1)) e
      ];
    }

put_last : (s m : ℕ) (xs : List ℕ) → m ≡ length xs + 1 → IsLastOf s (xs ++ s ∷ []) m m
put_last s m xs e = record {
  fits = omega arith;
  there = λ h. read_last s (m - 1) xs (omega (arith, e));
  none = λ j a b. absurd (omega (arith, a, b));
}

left_before : (s m n i : ℕ) (xs : List ℕ) → m ≤ i → IsLastOf s xs m n → IsLastOf s (take i xs) m n
left_before s m n i xs l h = record {
  fits = h.fits;
  there = λ k. get_or-take i xs (n - 1) 0 (omega (arith, h.fits, k, l)) ∙ h.there k;
  none = λ j a b e. h.none j a b (sym (get_or-take i xs j 0 (omega (arith, b, l))) ∙ e);
}

-- where the last place of all is another slot's
left_beside : (s n i : ℕ) (xs : List ℕ) → i + 1 ≡ length xs → get_or xs i 0 ≢ s → IsLastOf s xs (length xs) n → IsLastOf s xs i n
left_beside s n i xs e d h = record {
  fits = elim (eqb_tells n (length xs)) [
    | inl w ↦
        let last : n - 1 ≡ i = omega (arith, e, w.1) in
        absurd (d (ap (λ k. get_or xs k 0) (sym last) ∙ h.there (omega (arith, e, w.1))))
    | inr w ↦ omega (arith, e, w.1, h.fits)
  ];
  there = h.there;
  none = λ j a b. h.none j a (omega (arith, b, e));
}

-- ---- all slots
pub none_chained : (xs bs ls : List ℕ) → xs ≡ [] → bs ≡ [] → length ls ≡ 1021 → All (λ n. n ≡ 0) ls → AreChained xs bs ls
none_chained xs bs ls e f g a =
    let none : length xs ≡ 0 = ap length e in
    record {
      long = ap length f ∙ sym none;
      slots = g;
      within = λ i h. absurd (omega (arith, h, none));
      before = λ i h. absurd (omega (arith, h, none));
      last = λ s h. subst (λ m. IsLastOf s xs m (get_or ls s 0)) (sym none) (none_at s (get_or ls s 0) xs (a s 0 (omega (arith, h, g))));
    }

pub all_none : (n : ℕ) (ls : List ℕ) → ls ≡ replicate n 0 → All (λ k. k ≡ 0) ls
all_none n ls e = subst (All (λ k. k ≡ 0)) (sym e) (All-replicate (λ k. k ≡ 0) n 0 refl)

pub more_chained : (xs bs ls : List ℕ) (s m : ℕ) → s < 1021 → m ≡ length xs + 1 → AreChained xs bs ls
    → AreChained (xs ++ s ∷ []) (bs ++ get_or ls s 0 ∷ []) (set ls s m)
more_chained xs bs ls s m l e h =
    let long : length (xs ++ s ∷ []) ≡ length xs + 1 = length-append xs (s ∷ []) in
    record {
      long = length-append bs (get_or ls s 0 ∷ []) ∙ (ap (λ n. n + 1) h.long ∙ sym long);
      slots = length-set ls s m ∙ h.slots;
      within = λ i k. elim (eqb_tells i (length xs)) [
        | inl w ↦ rw (read_last s i xs w.1) l
        | inr w ↦
            let b : i < length xs = omega (arith, k, long, w.1) in
            rw (get_or_append_left xs (s ∷ []) 0 i b) (h.within i b)
      ];
      before = λ i k. elim (eqb_tells i (length xs)) [
        | inl w ↦
            let own = kept_before s s (length xs) (get_or ls s 0) xs (omega arith) (h.last s l) in
            rw (read_last s i xs w.1, read_last (get_or ls s 0) i bs (w.1 ∙ sym h.long), w.1) own
        | inr w ↦
            let b : i < length xs = omega (arith, k, long, w.1) in
            rw (get_or_append_left xs (s ∷ []) 0 i b, get_or_append_left bs (get_or ls s 0 ∷ []) 0 i (omega (arith, b, h.long)))
            (kept_before (get_or xs i 0) s i (get_or bs i 0) xs (omega (arith, b)) (h.before i b))
      ];
      last = λ t k. rw long (elim (eqb_tells t s) [
        | inl w ↦ rw (w.1, get_or-set_same ls s m 0 (omega (arith, l, h.slots)), ← e) (put_last s m xs e)
        | inr w ↦ rw (get_or-set_other ls s t m 0 w.1) (kept_beside t s (get_or ls t 0) xs (λ x. w.1 (sym x)) (h.last t k))
      ]);
    }

pub fewer_chained : (xs bs ls : List ℕ) (i : ℕ) → i + 1 ≡ length xs → AreChained xs bs ls
    → AreChained (take i xs) (take i bs) (set ls (get_or xs i 0) (get_or bs i 0))
fewer_chained xs bs ls i e h =
    let s = get_or xs i 0 in
    let n = get_or bs i 0 in
    let here : i < length xs = omega (arith, e) in
    let long : length (take i xs) ≡ i = omega (arith, length-take i xs, e) in
    record {
      long = omega (arith, length-take i bs, h.long, long, e);
      slots = length-set ls s n ∙ h.slots;
      within = λ j k.
          let b : j < i = omega (arith, k, long) in
          rw (get_or-take i xs j 0 b) (h.within j (omega (arith, b, here)));
      before = λ j k.
          let b : j < i = omega (arith, k, long) in
          rw (get_or-take i xs j 0 b, get_or-take i bs j 0 b)
          (left_before (get_or xs j 0) j (get_or bs j 0) i xs (omega (arith, b)) (h.before j (omega (arith, b, here))));
      last = λ t k. rw long (left_before t i (get_or (set ls s n) t 0) i xs (omega arith) (elim (eqb_tells t s) [
        | inl w ↦ rw (w.1, get_or-set_same ls s n 0 (omega (arith, h.within i here, h.slots))) (h.before i here)
        | inr w ↦ rw (get_or-set_other ls s t n 0 w.1) (left_beside t (get_or ls t 0) i xs e (λ x. w.1 (sym x)) (h.last t k))
      ]));
    }

-- ---- of half-planes
pub put_chained : (hs ks : Cell) (bs cs ls : List ℕ) (h : HalfPlane) (s n m : ℕ) → s ≡ slot_of h → s < 1021 → n ≡ get_or ls s n
    → ks ≡ hs ++ h ∷ [] → cs ≡ bs ++ n ∷ [] → m ≡ length ks → AreChained (slots_of hs) bs ls → AreChained (slots_of ks) cs (set ls s m)
put_chained hs ks bs cs ls h s n m e f r i j k c =
    let read : n ≡ get_or ls s 0 = r ∙ get_or_default_zero ls s n (omega (arith, f, c.slots)) in
    let more : slots_of ks ≡ slots_of hs ++ s ∷ [] = ap slots_of i ∙ (map-append slot_of hs (h ∷ []) ∙ ap (λ t. slots_of hs ++ t ∷ []) (sym e)) in
    let long : m ≡ length (slots_of hs) + 1 = omega (arith, k, ap length i, length-append hs (h ∷ []), length-map hs slot_of) in
    rw (more, j, read) (more_chained (slots_of hs) bs ls s m f long c)

pub cut_chained : (hs ks : Cell) (bs cs ls : List ℕ) (h : HalfPlane) (i s n : ℕ) → i + 1 ≡ length hs → h ≡ get_or hs i h → s ≡ slot_of h → n ≡ get_or bs i n
    → ks ≡ take i hs → cs ≡ take i bs → AreChained (slots_of hs) bs ls → AreChained (slots_of ks) cs (set ls s n)
cut_chained hs ks bs cs ls h i s n l r e g j k c =
    let long : i + 1 ≡ length (slots_of hs) = omega (arith, l, length-map hs slot_of) in
    let read : get_or (slots_of hs) i 0 ≡ s = get_or-map slot_of hs i h 0 (omega (arith, l)) ∙ (ap slot_of (sym r) ∙ sym e) in
    let before : get_or bs i 0 ≡ n = sym (g ∙ get_or_default_zero bs i n (omega (arith, long, c.long))) in
    let fewer : slots_of ks ≡ take i (slots_of hs) = ap slots_of j ∙ sym (take-map slot_of i hs) in
    rw (fewer, k, ← read, ← before) (fewer_chained (slots_of hs) bs ls i long c)

-- ---- along the chain of a slot
pub last_read : (hs : Cell) (bs ls : List ℕ) (h : HalfPlane) (s n : ℕ) → s ≡ slot_of h → s < 1021 → n ≡ get_or ls s n
    → AreChained (slots_of hs) bs ls → IsLastOf (slot_of h) (slots_of hs) (length hs) n
last_read hs bs ls h s n e f r c =
    let read : n ≡ get_or ls s 0 = r ∙ get_or_default_zero ls s n (omega (arith, f, c.slots)) in
    rw (← e, read, ← length-map hs slot_of) (c.last s f)

-- none of the half-planes from the place n on is h, and the one before it has its slot
pub record IsPassed (h : HalfPlane) (hs : Cell) (n : ℕ) : Type 0 where
  pub fits : n ≤ length hs
  pub there : 0 < n → get_or (slots_of hs) (n - 1) 0 ≡ slot_of h
  pub none : (j : ℕ) (d : HalfPlane) → n ≤ j → j < length hs → same_half h (get_or hs j d) ≡ false

off_slot : (h : HalfPlane) (hs : Cell) (j : ℕ) (d : HalfPlane) → j < length hs → get_or (slots_of hs) j 0 ≢ slot_of h → same_half h (get_or hs j d) ≡ false
off_slot h hs j d b n = elim (cases_Bool (same_half h (get_or hs j d))) [
  | inl e ↦ absurd (n (get_or-map slot_of hs j d 0 b ∙ sym (ap slot_of (same_half-is h (get_or hs j d) e))))
  | inr e ↦ e
]

pub begun_last : (h : HalfPlane) (hs : Cell) (n : ℕ) → IsLastOf (slot_of h) (slots_of hs) (length hs) n → IsPassed h hs n
begun_last h hs n l = record {
  fits = l.fits;
  there = l.there;
  none = λ j d a b. off_slot h hs j d b (l.none j a b);
}

pub passed_on : (h : HalfPlane) (hs : Cell) (n m : ℕ) (d : HalfPlane) → 0 < n → IsPassed h hs n
    → IsLastOf (get_or (slots_of hs) (n - 1) 0) (slots_of hs) (n - 1) m → d ≡ get_or hs (n - 1) d → same_half h d ≡ false → IsPassed h hs m
passed_on h hs n m d p l k e f =
    let here = l.there p in
    record {
      fits = omega (arith, l.fits, k.fits);
      there = λ q. k.there q ∙ here;
      none = λ j x a b. elim (before_or_at j (n - 1)) [
        | inl u ↦ off_slot h hs j x b (λ z. k.none j a u (z ∙ sym here))
        | inr u ↦ elim u [
          | inl v ↦
              let same : get_or hs j x ≡ d = get_or_default hs j x d b ∙ (ap (λ i. get_or hs i d) v ∙ sym e) in
              rw same f
          | inr v ↦ l.none j x (omega (arith, v)) b
        ]
      ];
    }
  where
    before_or_at : (j k : ℕ) → (j < k) ⊎ ((j ≡ k) ⊎ (k < j))
    before_or_at j k = elim (eqb_tells j k) [
      | inl w ↦ inr (inl w.1)
      | inr w ↦ elim (eqb_tells (j - k) 0) [
        | inl v ↦ inl (omega (arith, v.1, w.1))
        | inr v ↦ inr (inr (omega (arith, v.1, w.1)))
      ]
    ]

pub none_passed : (h : HalfPlane) (hs : Cell) (n : ℕ) → n ≤ 0 → IsPassed h hs n → list_any (same_half h) hs ≡ false
none_passed h hs n e l = list_any_none (same_half h) hs (λ k d b. l.none k d (omega (arith, e)) b)

pub found_at : (h : HalfPlane) (hs : Cell) (i : ℕ) (d : HalfPlane) → i < length hs → d ≡ get_or hs i d → same_half h d ≡ true → list_any (same_half h) hs ≡ true
found_at h hs i d b e f = list_any_at (same_half h) hs i d b (rw (← e) f)
