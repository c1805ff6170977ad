-- What a node holds after a change, in its square: it stays a part, and its quarters stay quarters.
use Rattle.std.proofs.Common.{◌≡◌, ◌≢◌, ◌⊎◌, inl, inr, refl, sym, ap, ◌∙◌, subst, ℕ, suc, ◌+◌, ◌<◌, ◌≤◌, Bool, true, false, List, [], ◌∷◌, ◌++◌, Contains, length, cond, Result, Ok, Err, arith}
use Rattle.std.specs.Prelude.{OnOk, OnErr}
use Rattle.std.specs.List.{filter}
use Rattle.std.proofs.lemmas.List.{append-nil, length-append}
use Rattle.std.proofs.lemmas.List.Elements.{Contains-append_left, Contains-append_right, Contains-append_cases}
use Rattle.plane_terms.specs.Lists.{Every}
use Rattle.plane_terms.proofs.ListLemmas.{every_at}
use Rattle.grid_index.specs.declared.placed.Placed.{Placed}
use Rattle.grid_index.specs.declared.middle.Middle.{Middle}
use Rattle.grid_index.specs.Middles.{middle_of}
use Rattle.grid_index.specs.Near.{HoldsSame, Gains, Loses}
use Rattle.grid_index.specs.Nodes.{NodeView, all_items, height_over, AreFilled}
use Rattle.grid_index.specs.Squares.{same_square, IsOnGrid, IsPart, AreInSquare, AreAt, AreParts, AreAround, IsDivided, IsLeft, MayTake, StaysPart, StayAround, IsBetween, IsTaken, IsSingle, IsGathered, AreGathered}
use Rattle.grid_index.proofs.Adding.{contains_none}
use Rattle.grid_index.proofs.Members.{gained}
use Rattle.grid_index.proofs.Nodes.{none_below, none_held}
use Rattle.grid_index.proofs.Parts.{distinct_none, distinct_added, single_part, pushed_inside}
use Rattle.grid_index.proofs.Squares.{square_self, square_of_same, square_back, square_on, square_both, square_wider, smaller_square}
use Rattle.grid_index.proofs.Snugs.{filled_gained, filled_same}

-- ---- what holds nothing
pub nothing : {A : Type 0} (xs : List A) → length xs ≡ 0 → xs ≡ []
nothing [] e = refl
nothing (x ∷ xs) e = absurd (omega (arith, e))

pub parts_filled : (k : ℕ) (ns : List NodeView) → Every (IsPart k) ns → AreFilled ns
parts_filled k ns h i d l = (every_at (IsPart k) ns i d h l).filled

pub parts_none : (k : ℕ) (ns : List NodeView) → Every (IsPart k) ns → all_items ns ≡ [] → ns ≡ []
parts_none k ns h e = (none_held [] ns (parts_filled k ns h) e).1

pub no_height : (ns : List NodeView) → ns ≡ [] → height_over ns ≡ 0
no_height ns e = ap height_over e

-- a leaf holds what it holds itself
pub leaf_items : (v n : NodeView) (ps : List Placed) (ns : List NodeView) → v ≡ n → v.items ≡ ps ++ all_items ns → v.height ≡ height_over ns
    → n.height ≡ 0 → n.items ≡ ps
leaf_items v n ps ns same items height leaf =
    let none : ns ≡ [] = none_below ns (sym height ∙ (ap (λ (w : NodeView). w.height) same ∙ leaf)) in
    ap (λ (w : NodeView). w.items) (sym same) ∙ (items ∙ (ap (λ l. ps ++ all_items l) none ∙ append-nil ps))

-- ---- a rectangle is taken out
lost_nothing : (l : List Placed) (p : Placed) → Loses [] l p → l ≡ []
lost_nothing [] p f = refl
lost_nothing (x ∷ xs) p f = absurd (contains_none x ((f x).0 (0, omega arith, refl)).0)

pub none_left : (k : ℕ) (ns os : List NodeView) (p : Placed) → AreParts k os → Loses (all_items ns) (all_items os) p → ns ≡ [] → os ≡ []
none_left k ns os p h f e = parts_none k os h.0 (lost_nothing (all_items os) p (subst (λ l. Loses (all_items l) (all_items os) p) e f))

pub filtered_none : (test : Placed → Bool) (ps qs : List Placed) → qs ≡ filter test ps → ps ≡ [] → qs ≡ []
filtered_none test ps qs e n = e ∙ ap (filter test) n

filtered_fewer : (test : Placed → Bool) (ps : List Placed) → length (filter test ps) ≤ length ps
filtered_fewer test [] = omega arith
filtered_fewer test (p ∷ ps) = at (test p) (filtered_fewer test ps)
  where
    at : (b : Bool) → length (filter test ps) ≤ length ps → length (cond b (p ∷ filter test ps) (filter test ps)) ≤ suc (length ps)
    at true h = omega (arith, h)
    at false h = omega (arith, h)

pub divided_left : (m : Middle) (k : ℕ) (test : Placed → Bool) (ps qs : List Placed) (ns os : List NodeView) (p : Placed) → IsDivided m k ps ns
    → qs ≡ filter test ps → Loses (all_items ns) (all_items os) p → ((j : ℕ) → AreParts j ns → AreParts j os)
    → ((j : ℕ) (a : Middle) → AreAround j a ns → AreAround j a os) → IsDivided m k qs os
divided_left m k test ps qs ns os p d kept f parts around = (
  (parts k d.0.0, around (k + 1) m d.0.1),
  elim d.1 [
    | inl e ↦ inl (none_left k ns os p (parts k d.0.0) f e)
    | inr e ↦ inr (filtered_none test ps qs kept e)
  ],
)

-- o is what is left of n
pub part_taken : (test : Placed → Bool) (n o : NodeView) (ps qs : List Placed) (ns os : List NodeView) (p : Placed) → n.items ≡ ps ++ all_items ns
    → n.height ≡ height_over ns → o.items ≡ qs ++ all_items os → o.height ≡ height_over os → o.middle ≡ n.middle → o.digit ≡ n.digit
    → IsDivided n.middle n.digit ps ns → IsDivided o.middle o.digit qs os → qs ≡ filter test ps → Loses (all_items ns) (all_items os) p
    → Loses n.items o.items p → (k : ℕ) → IsPart k n → IsLeft k o
part_taken test n o ps qs ns os p holds high left lower middle digit was is kept f lost k part = at o.items refl
  where
    still : ns ≡ [] → os ≡ []
    still e = none_left o.digit ns os p is.0.0 f e

    fewer : ns ≡ [] → length o.items ≤ length n.items
    fewer e = omega (
      arith,
      ap length left,
      length-append qs (all_items os),
      ap (λ l. length (all_items l)) (still e),
      ap length kept,
      filtered_fewer test ps,
      ap length holds,
      length-append ps (all_items ns),
    )

    few_left : o.items ≢ [] → o.height ≡ 0 → (length o.items + k ≤ 64) ⊎ AreAt o.middle o.items
    few_left some low = elim was.1 [
      | inl e ↦ elim (part.few (high ∙ no_height ns e)) [
        | inl c ↦ inl (omega (arith, c, fewer e))
        | inr all ↦ inr (λ q h. all q ((lost q).0 h).0 ∙ sym middle)
      ]
      | inr e ↦ absurd (some (left ∙ (ap (λ l. l ++ all_items os) (filtered_none test ps qs kept e)
          ∙ ap all_items (none_below os (sym lower ∙ low)))))
    ]

    at : (l : List Placed) → o.items ≡ l → IsLeft k o
    at [] e = inl e
    at (x ∷ xs) e =
        let some : o.items ≢ [] = λ z. absurd (omega (arith, ap length (sym e ∙ z))) in
        inr record {
          low = part.low;
          filled = some;
          on_grid = subst IsOnGrid (sym middle) part.on_grid;
          inside = λ q h. subst (λ a. same_square k a (middle_of q.rect) ≡ true) (sym middle) (part.inside q ((lost q).0 h).0);
          few = few_left some;
          smaller = λ high_still. subst (λ d. d < k) (sym digit) (part.smaller (λ low. high_still (lower
              ∙ no_height os (still (none_below ns (sym high ∙ low))))));
        }

-- ---- a leaf is divided
crowd_is_apart : (d : ℕ) (m a : Middle) (ps : List Placed) → IsBetween d m ps → AreAt a ps → same_square d m a ≡ true → ⊥
crowd_is_apart d m a ps between all t = absurd (omega (
  arith,
  between.1 d
      (λ p h. subst (λ b. same_square d m b ≡ true) (sym (all p h)) t),
))

is_in_crowd : (d c : ℕ) (m a : Middle) (ps : List Placed) (p : Placed) (n : NodeView) → middle_of p.rect ≡ m → IsGathered d c n
    → ((q : Placed) → Contains n.items q → Contains ps q ⊎ (q ≡ p)) → AreAt a ps → (same_square d m a ≡ true → ⊥) → AreAt n.middle n.items
is_in_crowd d c m a ps p n e g from all apart q h = elim (from w g.first.1) [
  | inl j ↦ elim (from q h) [
    | inl k ↦ all q k ∙ sym (g.first.2 ∙ all w j)
    | inr s ↦ absurd (apart (square_back d a m (subst (λ b. same_square d b m ≡ true) (g.first.2 ∙ all w j) (is_m q s h))))
  ]
  | inr t ↦ elim (from q h) [
    | inl k ↦ absurd (apart (subst (λ b. same_square d b a ≡ true) (g.first.2 ∙ (ap (λ (o : Placed). middle_of o.rect) t ∙ e))
        (subst (λ b. same_square d n.middle b ≡ true) (all q k) (g.inside q h))))
    | inr s ↦ ap (λ (o : Placed). middle_of o.rect) (s ∙ sym t) ∙ sym g.first.2
  ]
]
  where
    w : Placed
    w = g.first.0

    is_m : (o : Placed) → o ≡ p → Contains n.items o → same_square d n.middle m ≡ true
    is_m o s k = subst (λ b. same_square d n.middle b ≡ true) (ap (λ (r : Placed). middle_of r.rect) s ∙ e) (g.inside o k)

-- the quarters of a leaf hold few rectangles, or such with one middle
quarter_is_part : (d k : ℕ) (m a : Middle) (ps : List Placed) (p : Placed) (n : NodeView) → d < 32 → d < k → middle_of p.rect ≡ m → IsBetween d m ps
    → (length ps + k ≤ 64) ⊎ AreAt a ps → IsGathered d (length ps + 1) n
    → ((q : Placed) → Contains n.items q → Contains ps q ⊎ (q ≡ p)) → IsPart d n
quarter_is_part d k m a ps p n bound below e between few g from = record {
  low = omega (arith, bound);
  filled = λ z. contains_none g.first.0 (subst (λ l. Contains l g.first.0) z g.first.1);
  on_grid = g.on_grid;
  inside = g.inside;
  few = λ h. elim few [
    | inl c ↦ inl (omega (arith, c, g.few, below))
    | inr all ↦ inr (is_in_crowd d (length ps + 1) m a ps p n e g from all (crowd_is_apart d m a ps between all))
  ];
  smaller = λ h. absurd (h g.leaf);
}

quarters_are_parts : (d k : ℕ) (m a : Middle) (ps : List Placed) (p : Placed) (ns : List NodeView) → d < 32 → d < k → middle_of p.rect ≡ m
    → IsBetween d m ps → (length ps + k ≤ 64) ⊎ AreAt a ps → Every (IsGathered d (length ps + 1)) ns
    → ((q : Placed) → Contains (all_items ns) q → Contains ps q ⊎ (q ≡ p)) → Every (IsPart d) ns
quarters_are_parts d k m a ps p [] bound below e between few h from = tt
quarters_are_parts d k m a ps p (n ∷ ns) bound below e between few h from = (
  quarter_is_part d k m a ps p n bound below e between few h.0 (λ q j. from q (Contains-append_left n.items (all_items ns) q j)),
  quarters_are_parts d k m a ps p ns bound below e between few h.1 (λ q j. from q (Contains-append_right n.items (all_items ns) q j)),
)

quarters_are_around : (d c : ℕ) (m : Middle) (ps : List Placed) (p : Placed) (ns : List NodeView) → middle_of p.rect ≡ m → IsBetween d m ps
    → Every (IsGathered d c) ns → ((q : Placed) → Contains (all_items ns) q → Contains ps q ⊎ (q ≡ p)) → AreAround (d + 1) m ns
quarters_are_around d c m ps p [] e between h from = tt
quarters_are_around d c m ps p (n ∷ ns) e between h from = (
  subst (λ b. same_square (d + 1) m b ≡ true) (sym g.first.2)
      (elim (from g.first.0 (Contains-append_left n.items (all_items ns) g.first.0 g.first.1)) [
        | inl j ↦ between.0 g.first.0 j
        | inr s ↦ square_of_same (d + 1) m (middle_of g.first.0.rect) (sym (ap (λ (r : Placed). middle_of r.rect) s ∙ e))
      ]),
  quarters_are_around d c m ps p ns e between h.1 (λ q j. from q (Contains-append_right n.items (all_items ns) q j)),
)
  where
    g : IsGathered d c n
    g = h.0

pub between_parts : (d : ℕ) (m : Middle) (n : NodeView) (k : ℕ) → IsBetween d m n.items → IsPart k n → same_square k n.middle m ≡ true → d < k
between_parts d m n k between part t = between.1 k (λ p h. square_on k m n.middle (middle_of p.rect) (square_back k n.middle m t) (part.inside p h))

pub divided_new : (d : ℕ) (m : Middle) (n : NodeView) (ps qs : List Placed) (p : Placed) (ns : List NodeView) → d < 32 → middle_of p.rect ≡ m
    → n.height ≡ 0 → MayTake n m → n.items ≡ ps → IsBetween d m n.items → qs ≡ [] → AreGathered d (length ps + 1) ns
    → ((q : Placed) → Contains (all_items ns) q → Contains ps q ⊎ (q ≡ p)) → IsDivided m d qs ns
divided_new d m n ps qs p ns bound e leaf may held between none h from =
    let k = may.0 in
    let part = may.1 in
    let here : IsBetween d m ps = subst (IsBetween d m) held between in
    let few : (length ps + k ≤ 64) ⊎ AreAt n.middle ps = subst (λ l. (length l + k ≤ 64) ⊎ AreAt n.middle l) held (part.few leaf) in (
      ((quarters_are_parts d k m n.middle ps p ns bound (between_parts d m n k between part may.2) e here few h.0 from, h.1), quarters_are_around d (length ps + 1) m ps p ns e here h.0 from),
      inr none,
    )

-- ---- a node with quarters has one rectangle more
pub some_high : (qs : List Placed) (ns : List NodeView) → qs ≡ [] → qs ++ all_items ns ≢ [] → height_over ns ≢ 0
some_high qs ns none some low = some (ap (λ l. l ++ all_items ns) none ∙ ap all_items (none_below ns low))

pub stays_grown : (n o : NodeView) (m : Middle) (p : Placed) → m ≡ middle_of p.rect → Gains n.items o.items p → IsOnGrid o.middle
    → ((k : ℕ) → same_square k n.middle m ≡ true → same_square k n.middle o.middle ≡ true) → o.height ≢ 0
    → ((k : ℕ) → IsPart k n → same_square k n.middle m ≡ true → o.digit < k) → StaysPart n o m
stays_grown n o m p e gains on near high low k part t = (
  record {
    low = part.low;
    filled = filled_gained n.items o.items p gains;
    on_grid = on;
    inside = λ q h. square_both k n.middle o.middle (middle_of q.rect) (near k t) (elim ((gains q).0 h) [
      | inl j ↦ part.inside q j
      | inr s ↦ subst (λ b. same_square k n.middle b ≡ true) (e ∙ ap (λ (r : Placed). middle_of r.rect) (sym s)) t
    ]);
    few = λ z. absurd (high z);
    smaller = λ z. low k part t;
  },
  near k t,
)

-- ---- a leaf has one rectangle more
is_taken_at : (n : NodeView) (k : ℕ) (m : Middle) → IsTaken n.items n.middle m → (length n.items + k ≤ 64) ⊎ AreAt n.middle n.items
    → (length n.items < 32) ⊎ AreAt m n.items
is_taken_at n k m (inl c) few = inl c
is_taken_at n k m (inr (inl c)) few = elim few [
  | inl l ↦ absurd (omega (arith, l, c.0))
  | inr all ↦ inr (λ q h. all q h ∙ c.1)
]
is_taken_at n k m (inr (inr all)) few = inr all

pub stays_pushed : (n o : NodeView) (m : Middle) (p : Placed) → m ≡ middle_of p.rect → IsOnGrid m → n.height ≡ 0 → IsTaken n.items n.middle m
    → o.items ≡ n.items ++ p ∷ [] → o.middle ≡ m → o.height ≡ 0 → StaysPart n o m
stays_pushed n o m p e on leaf taken items middle still k part t = (
  record {
    low = part.low;
    filled = filled_gained n.items o.items p (gained n.items o.items p items);
    on_grid = subst IsOnGrid (sym middle) on;
    inside = pushed_inside k n o p part.inside (subst (λ b. same_square k n.middle b ≡ true) e t) items (middle ∙ e);
    few = λ h. elim (is_taken_at n k m taken (part.few leaf)) [
      | inl c ↦ inl (omega (arith, c, part.low, ap length items, length-append n.items (p ∷ [])))
      | inr all ↦ inr (λ q j. elim ((gained n.items o.items p items q).0 j) [
        | inl i ↦ all q i ∙ sym middle
        | inr s ↦ ap (λ (r : Placed). middle_of r.rect) s ∙ (sym e ∙ sym middle)
      ])
    ];
    smaller = λ h. absurd (h still);
  },
  subst (λ b. same_square k n.middle b ≡ true) (sym middle) t,
)

pub stays_itself : (n o : NodeView) (m : Middle) → o ≡ n → StaysPart n o m
stays_itself n o m e k part t = (
  subst (IsPart k) (sym e) part,
  subst (λ (v : NodeView). same_square k n.middle v.middle ≡ true) (sym e) (square_self k n.middle),
)

-- ---- what quarters hold
pub quarters_within : (m : Middle) (d : ℕ) (ns : List NodeView) → Every (IsPart d) ns → AreAround (d + 1) m ns → AreInSquare (d + 1) m (all_items ns)
quarters_within m d [] h around p j = absurd (contains_none p j)
quarters_within m d (n ∷ ns) h around p j = elim (Contains-append_cases n.items (all_items ns) p j) [
  | inl i ↦ square_on (d + 1) m n.middle (middle_of p.rect) around.0
      (square_wider d (d + 1) n.middle (middle_of p.rect) (omega arith) ((h.0).inside p i))
  | inr i ↦ quarters_within m d ns h.1 around.1 p i
]

pub not_alone : (m : Middle) (d : ℕ) (ps : List Placed) (ns : List NodeView) → IsDivided m d ps ns → height_over ns ≢ 0 → ps ≡ []
not_alone m d ps ns h high = elim h.1 [ inl e ↦ absurd (high (no_height ns e)) | inr e ↦ e ]

pub divided_within : (m : Middle) (d : ℕ) (ps : List Placed) (ns : List NodeView) → IsDivided m d ps ns → height_over ns ≢ 0
    → AreInSquare (d + 1) m (ps ++ all_items ns)
divided_within m d ps ns h high = subst (λ l. AreInSquare (d + 1) m (l ++ all_items ns)) (sym (not_alone m d ps ns h high))
    (quarters_within m d ns h.0.0.0 h.0.1)

-- ---- a node becomes one of two quarters
pub inner_part : (d : ℕ) (n : NodeView) (m : Middle) → d < 32 → MayTake n m → n.height ≢ 0 → AreInSquare (n.digit + 1) n.middle n.items
    → same_square (n.digit + 1) n.middle m ≡ false → same_square (d + 1) n.middle m ≡ true → IsPart d n
inner_part d n m bound may high inside out around =
    let below = smaller_square (n.digit + 1) (d + 1) n.middle m out around in
    let part = may.1 in
    record {
      low = omega (arith, bound);
      filled = part.filled;
      on_grid = part.on_grid;
      inside = λ p h. square_wider (n.digit + 1) d n.middle (middle_of p.rect) (omega (arith, below)) (inside p h);
      few = λ z. absurd (high z);
      smaller = λ z. omega (arith, below);
    }

pub divided_beside : (d : ℕ) (n s : NodeView) (m : Middle) (p : Placed) (qs : List Placed) (ns ms os : List NodeView) → d < 32 → IsSingle p s
    → m ≡ middle_of p.rect → same_square d n.middle m ≡ false → same_square (d + 1) n.middle m ≡ true → IsPart d n → ns ≡ [] → ms ≡ ns ++ s ∷ []
    → os ≡ ms ++ n ∷ [] → qs ≡ [] → IsDivided n.middle d qs os
divided_beside d n s m p qs ns ms os bound single e apart around part none first second empty =
    let both : os ≡ s ∷ n ∷ [] = second ∙ ap (λ l. l ++ n ∷ []) (first ∙ ap (λ l. l ++ s ∷ []) none) in
    let there : m ≡ s.middle = e ∙ sym single.middle in
    subst (IsDivided n.middle d qs) (sym both) (
      (
        (
          (single_part d p s (omega (arith, bound)) single, (part, tt)),
          distinct_added d (s ∷ []) n (subst (λ b. same_square d n.middle b ≡ false) there apart, tt) (distinct_added d [] s tt (distinct_none d)),
        ),
        (subst (λ b. same_square (d + 1) n.middle b ≡ true) there around, (square_self (d + 1) n.middle, tt)),
      ),
      inr empty,
    )

-- ---- a node with quarters holds the same, after it was refused one more
pub stays_same : (n o : NodeView) (m : Middle) → HoldsSame n.items o.items → o.middle ≡ n.middle → o.digit ≡ n.digit → n.height ≢ 0 → o.height ≢ 0
    → StaysPart n o m
stays_same n o m same middle digit high still k part t = (
  record {
    low = part.low;
    filled = filled_same n.items o.items same part.filled;
    on_grid = subst IsOnGrid (sym middle) part.on_grid;
    inside = λ q h. subst (λ b. same_square k b (middle_of q.rect) ≡ true) (sym middle) (part.inside q ((same q).0 h));
    few = λ z. absurd (still z);
    smaller = λ z. subst (λ d. d < k) (sym digit) (part.smaller high);
  },
  subst (λ b. same_square k n.middle b ≡ true) (sym middle) (square_self k n.middle),
)

pub stays_through : {T E : Type 0} (r : Result T E) (n o : NodeView) (m : Middle) (p : Placed) → m ≡ middle_of p.rect → IsOnGrid m → n.height ≡ 0
    → IsTaken n.items n.middle m → OnOk r (o.items ≡ n.items ++ p ∷ []) → OnOk r (o.middle ≡ m) → OnOk r (o.height ≡ 0) → OnErr r (o ≡ n)
    → StaysPart n o m
stays_through (Ok x) n o m p e on leaf taken items middle still err = stays_pushed n o m p e on leaf taken items middle still
stays_through (Err x) n o m p e on leaf taken items middle still err = stays_itself n o m err

-- ---- a node with quarters, after one of them was asked to take one more
pub filled_high : (ns : List NodeView) → (ns ≡ [] → ⊥) → height_over ns ≢ 0
filled_high ns some e = some (none_below ns e)

pub divided_put : (m a : Middle) (d : ℕ) (ps : List Placed) (ns os : List NodeView) → IsDivided m d ps ns → (ns ≡ [] → ⊥) → AreParts d os
    → StayAround (d + 1) ns os a → same_square (d + 1) m a ≡ true → IsDivided m d ps os
divided_put m a d ps ns os h some parts around t = ((parts, around m t h.0.1), inr (not_alone m d ps ns h (filled_high ns some)))
