-- Bounds round others: what is apart from them is apart from what they enclose.
use Rattle.std.proofs.Common.{◌≡◌, ◌≢◌, ◌⊎◌, ℕ, ◌<◌, ℤ, ◌≤ℤ◌, ◌<ℤ◌, List, length, get_or, set, arith, refl, sym, subst, inl, inr}
use Rattle.std.proofs.lemmas.Int.{ints}
use Rattle.std.proofs.lemmas.List.{get_or-set_same, get_or-set_other, length-set}
use Rattle.number_laws.proofs.Order.{le_trans_ℤ}
use Rattle.convex_cell.specs.declared.span.Span.{Span}
use Rattle.convex_cell.specs.declared.bounds.Bounds.{Bounds}
use Rattle.convex_cell.specs.Span.{AreApart, Covers, Encloses, AreRound}
use Rattle.convex_cell.proofs.Steps.{same_at}

at_least : (x : ℤ) → x ≤ℤ x
at_least x = omega (arith, ints)

ends_under : (x y z : ℤ) → x ≤ℤ y → y <ℤ z → x <ℤ z
ends_under x y z h k = omega (arith, ints)

begins_over : (x y z : ℤ) → x <ℤ y → y ≤ℤ z → x <ℤ z
begins_over x y z h k = omega (arith, ints)

encloses_same : (b : Bounds) → Encloses b b
encloses_same b = record {
  x = record { from = at_least b.x.from; to = at_least b.x.to };
  y = record { from = at_least b.y.from; to = at_least b.y.to };
}

covers_through : (s t u : Span) → Covers s t → Covers t u → Covers s u
covers_through s t u h k = record { from = le_trans_ℤ _ _ _ h.from k.from; to = le_trans_ℤ _ _ _ k.to h.to }

encloses_through : (b c d : Bounds) → Encloses b c → Encloses c d → Encloses b d
encloses_through b c d h k = record { x = covers_through b.x c.x d.x h.x k.x; y = covers_through b.y c.y d.y h.y k.y }

pub round_same : (bs : List Bounds) → AreRound bs bs
round_same bs = record { same = refl; each = λ k d. encloses_same (get_or bs k d) }

cases_eq : (j i : ℕ) → (j ≢ i) ⊎ (j ≡ i)
cases_eq j i = grind arith

pub round_through : (ws vs bs : List Bounds) → AreRound ws vs → AreRound vs bs → AreRound ws bs
round_through ws vs bs h k = record {
  same = omega (arith, h.same, k.same);
  each = λ i d. encloses_through _ _ _ (h.each i d) (k.each i d);
}

-- one of them made wider
pub round_put : (ws vs bs : List Bounds) (i : ℕ) (b y : Bounds) → i < length ws → Encloses b (get_or ws i y) → vs ≡ set ws i b → AreRound ws bs
    → AreRound vs bs
round_put ws vs bs i b y h e is k = rw is (record { same = omega (arith, k.same, length-set {A = Bounds}); each = at })
  where
    at : (j : ℕ) (d : Bounds) → Encloses (get_or (set ws i b) j d) (get_or bs j d)
    at j d = elim (cases_eq j i) [
      | inl n ↦ subst (λ z. Encloses z (get_or bs j d)) (sym (get_or-set_other ws i j b d n)) (k.each j d)
      | inr n ↦
          let wide : Encloses b (get_or ws i d) = subst (Encloses b) (same_at ws i y d h) e in
          let whole : Encloses b (get_or bs i d) = encloses_through b (get_or ws i d) (get_or bs i d) wide (k.each i d) in
          rw n (subst (λ z. Encloses z (get_or bs i d)) (sym (get_or-set_same ws i b d h)) whole)
    ]

apart_in : (own w b : Bounds) → Encloses w b → AreApart own w → AreApart own b
apart_in own w b e a = elim a [
  | inl left ↦ inl (begins_over own.x.to w.x.from b.x.from left e.x.from)
  | inr (inl right) ↦ inr (inl (ends_under b.x.to w.x.to own.x.from e.x.to right))
  | inr (inr (inl below)) ↦ inr (inr (inl (begins_over own.y.to w.y.from b.y.from below e.y.from)))
  | inr (inr (inr above)) ↦ inr (inr (inr (ends_under b.y.to w.y.to own.y.from e.y.to above)))
]

pub round_apart : (own : Bounds) (ws bs : List Bounds) (k : ℕ) → AreRound ws bs → ((e : Bounds) → AreApart own (get_or ws k e)) → (e : Bounds)
    → AreApart own (get_or bs k e)
round_apart own ws bs k r f e = apart_in own (get_or ws k e) (get_or bs k e) (r.each k e) (f e)
