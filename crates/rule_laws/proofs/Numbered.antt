-- The segments of a line that cross, by recursion and by number, are the same.
use Rattle.std.proofs.Common.{◌≡◌, ◌≢◌, ◌⊎◌, inl, inr, ℕ, zero, suc, ◌+◌, ◌<◌, refl, sym, ap, List, [], ◌∷◌, Some, arith}
use Rattle.std.specs.Prelude.{flat_map, slice_get}
use Rattle.plane_terms.specs.Lists.{SomeOf}
use Rattle.plane_terms.specs.Point.{Place, Point}
use Rattle.plane_terms.specs.Segment.{Segment, OnSegment, Overlap}
use Rattle.plane_terms.specs.Shape.{path, rings_of}
use Rattle.topology_terms.specs.Feature.{Feature}
use Rattle.topology_terms.specs.Crossings.{IsCrossed}
use Rattle.cell_laws.proofs.Lists.{some_append}
use Rattle.cell_laws.proofs.Meeting.{overlap_sym}
use Rattle.rule_laws.proofs.Words.{MeetsLater, PartCrosses, Crosses}

abbrev On : Point → Segment → Type 0
On p t = OnSegment t p

-- ---- some element, and its number
record At (P : Segment → Type 0) (ss : List Segment) : Type 0 where
  pub i : ℕ
  pub s : Segment
  pub there : slice_get ss i ≡ Some s
  pub holds : P s

some_at : (P : Segment → Type 0) (ss : List Segment) → SomeOf P ss → At P ss
some_at P [] h = absurd h
some_at P (s ∷ ss) h = elim h [
  | inl a ↦ record { i = 0; s = s; there = refl; holds = a }
  | inr b ↦ let y = some_at P ss b in record { i = suc y.i; s = y.s; there = y.there; holds = y.holds }
]

at_some : (P : Segment → Type 0) (ss : List Segment) (i : ℕ) (s : Segment) → slice_get ss i ≡ Some s → P s → SomeOf P ss
at_some P [] i s e h = cc
at_some P (x ∷ ss) zero s e h = let same : x ≡ s = cc in inl (rw same h)
at_some P (x ∷ ss) (suc i) s e h = inr (at_some P ss i s e h)

-- of the segments of parts, by the numbers of both
record AtPart (P : Segment → Type 0) (rings : List (List Place)) : Type 0 where
  pub k : ℕ
  pub part : List Place
  pub part_is : slice_get rings k ≡ Some part
  pub i : ℕ
  pub s : Segment
  pub there : slice_get (path part) i ≡ Some s
  pub holds : P s

some_part : (P : Segment → Type 0) (rings : List (List Place)) → SomeOf P (flat_map path rings) → AtPart P rings
some_part P [] h = absurd h
some_part P (ring ∷ rings) h = elim ((some_append P (path ring) (flat_map path rings)).0 h) [
  | inl a ↦ let y = some_at P (path ring) a in
      record { k = 0; part = ring; part_is = refl; i = y.i; s = y.s; there = y.there; holds = y.holds }
  | inr b ↦ let y = some_part P rings b in
      record { k = suc y.k; part = y.part; part_is = y.part_is; i = y.i; s = y.s; there = y.there; holds = y.holds }
]

part_some : (P : Segment → Type 0) (rings : List (List Place)) (k : ℕ) (part : List Place) (i : ℕ) (s : Segment)
    → slice_get rings k ≡ Some part → slice_get (path part) i ≡ Some s → P s → SomeOf P (flat_map path rings)
part_some P [] k part i s e f h = cc
part_some P (ring ∷ rings) zero part i s e f h = let same : ring ≡ part =
    cc in (some_append P (path ring) (flat_map path rings)).1 (inl (at_some P (path ring) i s (rw same f) h))
part_some P (ring ∷ rings) (suc k) part i s e f h =
    (some_append P (path ring) (flat_map path rings)).1 (inr (part_some P rings k part i s e f h))

-- ---- from the recursion: within one part, or with a later one
record InPart (p : Point) (ss : List Segment) : Type 0 where
  pub i : ℕ
  pub s : Segment
  pub j : ℕ
  pub t : Segment
  pub first : slice_get ss i ≡ Some s
  pub second : slice_get ss j ≡ Some t
  pub after : i < j
  pub on_first : OnSegment s p
  pub on_second : OnSegment t p
  pub apart : (j ≢ i + 1) ⊎ Overlap s t

record WithLater (p : Point) (ss : List Segment) (rings : List (List Place)) : Type 0 where
  pub first : At (On p) ss
  pub second : AtPart (On p) rings

head_crosses : (p : Point) (s : Segment) (ss : List Segment) (rings : List (List Place)) → OnSegment s p
    → MeetsLater p s ss (flat_map path rings) → InPart p (s ∷ ss) ⊎ WithLater p (s ∷ ss) rings
head_crosses p s [] rings o h = inr (record { first = record { i = 0; s = s; there = refl; holds = o }; second = some_part (On p) rings h })
head_crosses p s (t ∷ ts) rings o h = elim h [
  | inl a ↦ inl (record
      { i = 0; s = s; j = 1; t = t; first = refl; second = refl; after = omega arith; on_first = o; on_second = a.1; apart = inr a.0 })
  | inr b ↦ elim ((some_append (On p) ts (flat_map path rings)).0 b) [
    | inl c ↦ let y = some_at (On p) ts c in inl
        (record {
          i = 0;
          s = s;
          j = suc (suc y.i);
          t = y.s;
          first = refl;
          second = y.there;
          after = omega arith;
          on_first = o;
          on_second = y.holds;
          apart = inl (λ e. omega (arith, e));
        })
    | inr d ↦ inr (record { first = record { i = 0; s = s; there = refl; holds = o }; second = some_part (On p) rings d })
  ]
]

part_crosses : (p : Point) (ss : List Segment) (rings : List (List Place)) → PartCrosses p ss (flat_map path rings)
    → InPart p ss ⊎ WithLater p ss rings
part_crosses p [] rings h = absurd h
part_crosses p (s ∷ ss) rings h = elim h [
  | inl a ↦ head_crosses p s ss rings a.0 a.1
  | inr b ↦ elim (part_crosses p ss rings b) [
    | inl y ↦ inl (record {
      i = suc y.i;
      s = y.s;
      j = suc y.j;
      t = y.t;
      first = y.first;
      second = y.second;
      after = omega (arith, y.after);
      on_first = y.on_first;
      on_second = y.on_second;
      apart = elim y.apart [ inl n ↦ inl (λ e. n (omega (arith, e))) | inr o ↦ inr o ];
    })
    | inr y ↦ inr (record
        { first = record { i = suc y.first.i; s = y.first.s; there = y.first.there; holds = y.first.holds }; second = y.second })
  ]
]

-- numbers of two segments of parts, the first before the second
record Ordered (p : Point) (rings : List (List Place)) : Type 0 where
  pub k : ℕ
  pub i : ℕ
  pub s : Segment
  pub l : ℕ
  pub j : ℕ
  pub t : Segment
  pub part : List Place
  pub part_is : slice_get rings k ≡ Some part
  pub first : slice_get (path part) i ≡ Some s
  pub other : List Place
  pub other_is : slice_get rings l ≡ Some other
  pub second : slice_get (path other) j ≡ Some t
  pub order : (k < l) ⊎ ((k ≡ l) × (i < j))
  pub on_first : OnSegment s p
  pub on_second : OnSegment t p
  pub apart : ¬ ((k ≡ l) × (j ≡ i + 1)) ⊎ Overlap s t

crosses_ordered : (p : Point) (rings : List (List Place)) → Crosses p rings → Ordered p rings
crosses_ordered p [] h = absurd h
crosses_ordered p (ring ∷ rings) h = elim h [
  | inl a ↦ elim (part_crosses p (path ring) rings a) [
    | inl y ↦ record {
      k = 0;
      i = y.i;
      s = y.s;
      l = 0;
      j = y.j;
      t = y.t;
      part = ring;
      part_is = refl;
      first = y.first;
      other = ring;
      other_is = refl;
      second = y.second;
      order = inr (refl, y.after);
      on_first = y.on_first;
      on_second = y.on_second;
      apart = elim y.apart [ inl n ↦ inl (λ e. n e.1) | inr o ↦ inr o ];
    }
    | inr y ↦ record {
      k = 0;
      i = y.first.i;
      s = y.first.s;
      l = suc y.second.k;
      j = y.second.i;
      t = y.second.s;
      part = ring;
      part_is = refl;
      first = y.first.there;
      other = y.second.part;
      other_is = y.second.part_is;
      second = y.second.there;
      order = inl (omega arith);
      on_first = y.first.holds;
      on_second = y.second.holds;
      apart = inl (λ e. omega (arith, e.0));
    }
  ]
  | inr b ↦
      let y = crosses_ordered p rings b in
      record {
        k = suc y.k;
        i = y.i;
        s = y.s;
        l = suc y.l;
        j = y.j;
        t = y.t;
        part = y.part;
        part_is = y.part_is;
        first = y.first;
        other = y.other;
        other_is = y.other_is;
        second = y.second;
        order = elim y.order [ inl o ↦ inl (omega (arith, o)) | inr o ↦ inr (ap suc o.0, o.1) ];
        on_first = y.on_first;
        on_second = y.on_second;
        apart = elim y.apart [ inl n ↦ inl (λ e. n (omega (arith, e.0), e.1)) | inr o ↦ inr o ];
      }
]

pub crosses_numbered : (f : Feature) (p : Point) → Crosses p (rings_of f.shape) → IsCrossed f p
crosses_numbered f p h =
    let y = crosses_ordered p (rings_of f.shape) h in
    record {
      k = y.k;
      i = y.i;
      s = y.s;
      l = y.l;
      j = y.j;
      t = y.t;
      first = record { part = y.part; part_is = y.part_is; segment_is = y.first };
      second = record { part = y.other; part_is = y.other_is; segment_is = y.second };
      different = elim y.order [ inl o ↦ inl (λ e. omega (arith, o, e)) | inr o ↦ inr (λ e. omega (arith, o.1, e)) ];
      on_first = y.on_first;
      on_second = y.on_second;
      apart = elim y.apart [
        | inl n ↦ inl (λ e. elim e.1
            [ inl a ↦ n (e.0, a) | inr b ↦ elim y.order [ inl o ↦ omega (arith, o, e.0) | inr o ↦ omega (arith, o.1, b) ] ])
        | inr o ↦ inr o
      ];
    }

-- ---- to the recursion
later_in : (p : Point) (s : Segment) (ss : List Segment) (later : List Segment) (j : ℕ) (t : Segment) → slice_get ss j ≡ Some t
    → OnSegment t p → (j ≢ 0) ⊎ Overlap s t → MeetsLater p s ss later
later_in p s [] later j t e o a = cc
later_in p s (u ∷ ts) later zero t e o a = let same : u ≡ t = cc in elim a [ inl n ↦ absurd (n refl) | inr v ↦ inl (rw same (v, o)) ]
later_in p s (u ∷ ts) later (suc j) t e o a = inr ((some_append (On p) ts later).1 (inl (at_some (On p) ts j t e o)))

later_out : (p : Point) (s : Segment) (ss : List Segment) (later : List Segment) → SomeOf (On p) later → MeetsLater p s ss later
later_out p s [] later h = h
later_out p s (t ∷ ts) later h = inr ((some_append (On p) ts later).1 (inr h))

in_part : (p : Point) (ss later : List Segment) (i : ℕ) (s : Segment) (j : ℕ) (t : Segment) → slice_get ss i ≡ Some s
    → slice_get ss j ≡ Some t → i < j → OnSegment s p → OnSegment t p → (j ≢ i + 1) ⊎ Overlap s t → PartCrosses p ss later
in_part p [] later i s j t e f l o q a = cc
in_part p (x ∷ ss) later zero s zero t e f l o q a = absurd (omega (arith, l))
in_part p (x ∷ ss) later zero s (suc j) t e f l o q a = let same : x ≡ s =
    cc in inl (rw same o, rw same (later_in p s ss later j t f q (elim a [ inl n ↦ inl (λ z. n (omega (arith, z))) | inr v ↦ inr v ])))
in_part p (x ∷ ss) later (suc i) s zero t e f l o q a = absurd (omega (arith, l))
in_part p (x ∷ ss) later (suc i) s (suc j) t e f l o q a =
    inr (in_part p ss later i s j t e f (omega (arith, l)) o q (elim a [ inl n ↦ inl (λ z. n (omega (arith, z))) | inr v ↦ inr v ]))

with_later : (p : Point) (ss later : List Segment) (i : ℕ) (s : Segment) → slice_get ss i ≡ Some s → OnSegment s p → SomeOf (On p) later
    → PartCrosses p ss later
with_later p [] later i s e o h = cc
with_later p (x ∷ ss) later zero s e o h = let same : x ≡ s = cc in inl (rw same o, later_out p x ss later h)
with_later p (x ∷ ss) later (suc i) s e o h = inr (with_later p ss later i s e o h)

ordered_crosses : (p : Point) (rings : List (List Place)) (k i : ℕ) (s : Segment) (l j : ℕ) (t : Segment) (part other : List Place)
    → slice_get rings k ≡ Some part → slice_get (path part) i ≡ Some s → slice_get rings l ≡ Some other
    → slice_get (path other) j ≡ Some t
    → (k < l) ⊎ ((k ≡ l) × (i < j)) → OnSegment s p → OnSegment t p → ¬ ((k ≡ l) × (j ≡ i + 1)) ⊎ Overlap s t → Crosses p rings
ordered_crosses p [] k i s l j t part other e f g h r o q a = cc
ordered_crosses p (ring ∷ rings) zero i s zero j t part other e f g h r o q a =
    let same : ring ≡ part = cc in
    let also : ring ≡ other = cc in
    elim r [
      | inl m ↦ absurd (omega (arith, m))
      | inr m ↦ inl (in_part p (path ring) (flat_map path rings) i s j t (rw same f) (rw also h) m.1 o q
          (elim a [ inl n ↦ inl (λ z. n (refl, z)) | inr v ↦ inr v ]))
    ]
ordered_crosses p (ring ∷ rings) zero i s (suc l) j t part other e f g h r o q a =
    let same : ring ≡ part = cc in
    inl (with_later p (path ring) (flat_map path rings) i s (rw same f) o (part_some (On p) rings l other j t g h q))
ordered_crosses p (ring ∷ rings) (suc k) i s zero j t part other e f g h r o q a =
    elim r [ inl m ↦ absurd (omega (arith, m)) | inr m ↦ absurd (omega (arith, m.0)) ]
ordered_crosses p (ring ∷ rings) (suc k) i s (suc l) j t part other e f g h r o q a =
    inr (ordered_crosses p rings k i s l j t part other e f g h
    (elim r [ inl m ↦ inl (omega (arith, m)) | inr m ↦ inr (omega (arith, m.0), m.1) ]) o q
    (elim a [ inl n ↦ inl (λ z. n (ap suc z.0, z.1)) | inr v ↦ inr v ]))

which : (k i l j : ℕ) → (k ≢ l) ⊎ (i ≢ j) → ((k < l) ⊎ ((k ≡ l) × (i < j))) ⊎ ((l < k) ⊎ ((l ≡ k) × (j < i)))
which k i l j (inl n) = elim (three k l) [ inl a ↦ inl (inl a) | inr b ↦ elim b [ inl c ↦ inr (inl c) | inr d ↦ absurd (n d) ] ]
  where
    three : (m n : ℕ) → (m < n) ⊎ ((n < m) ⊎ (m ≡ n))
    three m n = grind arith
which k i l j (inr n) = elim (three k l) [
  | inl a ↦ inl (inl a)
  | inr b ↦ elim b [
    | inl c ↦ inr (inl c)
    | inr d ↦ elim (three i j) [ inl e ↦ inl (inr (d, e)) | inr e ↦ elim e [ inl x ↦ inr (inr (sym d, x)) | inr y ↦ absurd (n y) ] ]
  ]
]
  where
    three : (m n : ℕ) → (m < n) ⊎ ((n < m) ⊎ (m ≡ n))
    three m n = grind arith

pub numbered_crosses : (f : Feature) (p : Point) → IsCrossed f p → Crosses p (rings_of f.shape)
numbered_crosses f p h = elim (which h.k h.i h.l h.j h.different) [
  | inl r ↦ ordered_crosses p
      (rings_of f.shape) h.k h.i h.s h.l h.j h.t h.first.part h.second.part h.first.part_is h.first.segment_is h.second.part_is
      h.second.segment_is r h.on_first h.on_second
      (elim h.apart [ inl n ↦ inl (λ e. n (e.0, inl e.1)) | inr o ↦ inr o ])
  | inr r ↦ ordered_crosses p
      (rings_of f.shape) h.l h.j h.t h.k h.i h.s h.second.part h.first.part h.second.part_is h.second.segment_is h.first.part_is
      h.first.segment_is r h.on_second h.on_first
      (elim h.apart [ inl n ↦ inl (λ e. n (sym e.0, inr e.1)) | inr o ↦ inr (overlap_sym h.t h.s o) ])
]
