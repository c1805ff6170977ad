-- Lists of constraints on one unknown: compatible ones have a common point.
use Rattle.std.proofs.Common.{◌≡◌, ℕ, ◌<◌, Bool, true, false, List, [], ◌∷◌, ◌⊎◌, inl, inr, ℤ, pos, negsuc, ◌+ℤ◌, ◌-ℤ◌, ◌*ℤ◌, neg_ℤ, ◌<ℤ◌}
use Rattle.std.proofs.Common.{arith, lit<, refl, sym, subst}
use Rattle.std.specs.List.{AllByRecursion}
use Rattle.std.proofs.lemmas.Int.{ints}
use lib.Signed.{lt_z}
use lib.IntN.{neg_ℤ-neg_ℤ}
use Rattle.plane_terms.specs.Decide.{Bound}
use Rattle.cell_laws.specs.Bounds.{Above, Allows, either}
use Rattle.number_laws.proofs.Ring.{num, ◌⊕◌, ◌⊖◌, ◌⊗◌, lt_by}
use Rattle.cell_laws.proofs.Lines.{compatible_point, tighter_less, tighter_same, Above-any}

pub record IsRising (l : Bound) : Type 0 where
  pub positive : pos 0 <ℤ l.m

abbrev pub AllowedBy : ℤ → ℕ → Bound → Type 0
AllowedBy t w l = Allows l.m l.k l.strict t w

-- the first is at least as tight as the second
pub record IsTighter (a b : Bound) : Type 0 where
  pub gives : (t : ℤ) (w : ℕ) → 0 < w → AllowedBy t w a → AllowedBy t w b

Tightest : Bound → Bound → Bound → Type 0
Tightest a b c = ((c ≡ a) ⊎ (c ≡ b)) × IsTighter c a × IsTighter c b

same_tighter : (a : Bound) → IsTighter a a
same_tighter a = record { gives = λ t w p h. h }

-- one of two is the tighter
tighter_at : (a b : Bound) → IsRising a → IsRising b → (x y z : Bool) → lt_z (a.k *ℤ b.m) (b.k *ℤ a.m) ≡ x
    → lt_z (b.k *ℤ a.m) (a.k *ℤ b.m) ≡ y → a.strict ≡ z → (c : Bound) × Tightest a b c
unfolding Tightest same_tighter
tighter_at a b ra rb true y z e f g = (
  a,
  (
    inl refl,
    same_tighter a,
    record {
      gives = λ t w p h. tighter_less a.m a.k b.m b.k a.strict b.strict t w p ra.positive rb.positive
          (omega (arith, ints)) h;
    },
  ),
)
tighter_at a b ra rb false true z e f g = (
  b,
  (
    inr refl,
    record {
      gives = λ t w p h. tighter_less b.m b.k a.m a.k b.strict a.strict t w p rb.positive ra.positive
          (omega (arith, ints)) h;
    },
    same_tighter b,
  ),
)
tighter_at a b ra rb false false true e f g = (
  a,
  (
    inl refl,
    same_tighter a,
    record {
      gives = λ t w p h. tighter_same a.m a.k b.m b.k a.strict b.strict t w ra.positive rb.positive
          (omega (arith, ints)) (subst (λ s. either s b.strict ≡ s) (sym g) refl) h;
    },
  ),
)
tighter_at a b ra rb false false false e f g = (
  b,
  (
    inr refl,
    record {
      gives = λ t w p h. tighter_same b.m b.k a.m a.k b.strict a.strict t w rb.positive ra.positive
          (omega (arith, ints)) (subst (λ s. either b.strict s ≡ b.strict) (sym g) (either-false b.strict)) h;
    },
    same_tighter b,
  ),
)
  where
    either-false : (s : Bool) → either s false ≡ s
    either-false true = refl
    either-false false = refl

-- the tightest of a list; P is kept
pub record IsBest (P : Bound → Type 0) (ls : List Bound) (b : Bound) : Type 0 where
  pub kept : P b
  pub tightest : (t : ℤ) (w : ℕ) → 0 < w → AllowedBy t w b → AllByRecursion (AllowedBy t w) ls

choose : (P : Bound → Type 0) (a b c : Bound) → P a → P b → (c ≡ a) ⊎ (c ≡ b) → P c
choose P a b c p q (inl e) = subst P (sym e) p
choose P a b c p q (inr e) = subst P (sym e) q

pub best : (P : Bound → Type 0) → ((l : Bound) → P l → IsRising l) → (l : Bound) (ls : List Bound) → P l → AllByRecursion P ls
    → (b : Bound) × IsBest P (l ∷ ls) b
unfolding Tightest
best P up l [] p ps = (l, record { kept = p; tightest = λ t w q h. (h, tt) })
best P up l (m ∷ ms) p ps =
    let rest = best P up m ms ps.0 ps.1 in
    let b = rest.0 in
    let r = tighter_at l b (up l p) (up b rest.1.kept) _ _ _ refl refl refl in (
      r.0,
      record {
        kept = choose P l b r.0 p rest.1.kept r.1.0;
        tightest = λ t w q h.
            (r.1.1.gives t w q h, rest.1.tightest t w q (r.1.2.gives t w q h));
      },
    )

abbrev pub AreCompatible : Bound → Bound → Type 0
AreCompatible l u = Above (either l.strict u.strict) (l.k *ℤ u.m +ℤ u.k *ℤ l.m)

-- bounds from below, and bounds from above, each of which goes with each, leave a point
pub record HavePoint (ls us : List Bound) : Type 0 where
  pub t : ℤ
  pub w : ℕ
  pub positive : 0 < w
  pub below : AllByRecursion (AllowedBy t w) ls
  pub above : AllByRecursion (AllowedBy (neg_ℤ t) w) us

-- what a bound from above has with a bound from below
pub record Goes (l u : Bound) : Type 0 where
  pub rising : IsRising u
  pub with : AreCompatible l u

pub record GoesWithAll (us : List Bound) (l : Bound) : Type 0 where
  pub rising : IsRising l
  pub each : AllByRecursion (Goes l) us

pub over_zero : (m k : ℤ) (s : Bool) → pos 0 <ℤ m → (t : ℤ) × (w : ℕ) × (0 < w) × Allows m k s t w
over_zero (pos m) k s p = (pos 1 -ℤ k, m, omega (arith, ints), Above-any s _ (over m k (omega (arith, ints))))
  where
    over : (m : ℕ) (k : ℤ) → 0 < m → pos 0 <ℤ (pos m *ℤ (pos 1 -ℤ k) +ℤ k *ℤ pos m)
    over m k p = lt_by (num (pos 0)) (num (pos m) ⊗ (num (pos 1) ⊖ num k) ⊕ num k ⊗ num (pos m)) (omega arith)
over_zero (negsuc m) k s p = absurd (omega (arith, ints))

pub helly : (ls us : List Bound) → AllByRecursion (GoesWithAll us) ls → AllByRecursion IsRising us → HavePoint ls us
helly [] [] a r = record { t = pos 0; w = 1; positive = lit< tt; below = tt; above = tt }
helly [] (u ∷ us) a r =
    let b = best IsRising (λ l q. q) u us r.0 r.1 in
    let p = over_zero b.0.m b.0.k b.0.strict b.1.kept.positive in
    record {
      t = neg_ℤ p.0;
      w = p.1;
      positive = p.2;
      below = tt;
      above = b.1.tightest _ _ p.2
          (subst (λ t. AllowedBy t p.1 b.0) (sym (neg_ℤ-neg_ℤ p.0)) p.3);
    }
helly (l ∷ ls) [] a r =
    let b = best (GoesWithAll []) (λ l q. q.rising) l ls a.0 a.1 in
    let p = over_zero b.0.m b.0.k b.0.strict b.1.kept.rising.positive in
    record { t = p.0; w = p.1; positive = p.2; below = b.1.tightest _ _ p.2 p.3; above = tt }
helly (l ∷ ls) (u ∷ us) a r =
    let b = best (GoesWithAll (u ∷ us)) (λ l q. q.rising) l ls a.0 a.1 in
    let g = b.1.kept.each in
    let c = best (Goes b.0) (λ l q. q.rising) u us g.0 g.1 in
    let p = compatible_point b.0.m b.0.k c.0.m c.0.k b.0.strict c.0.strict b.1.kept.rising.positive c.1.kept.rising.positive c.1.kept.with
    in
    record { t = p.0; w = p.1; positive = p.2; below = b.1.tightest _ _ p.2 p.3; above = c.1.tightest _ _ p.2 p.4 }
