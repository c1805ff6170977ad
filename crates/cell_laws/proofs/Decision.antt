-- Whether a cell has a point is decided.
use Rattle.std.proofs.Common.{◌≡◌, ◌↔◌, ℕ, ◌<◌, Bool, true, false, List, [], ◌∷◌, ◌++◌, ℤ, pos, negsuc, suc, zero, ◌+ℤ◌, ◌*ℤ◌, neg_ℤ}
use Rattle.std.proofs.Common.{◌≤ℤ◌, arith, refl, sym, ◌∙◌, Option, Some, None, IfSome}
use Rattle.std.specs.List.{AllByRecursion}
use Rattle.std.proofs.lemmas.Int.{ints}
use Rattle.std.specs.Bool.{OnTrue, OnFalse}
use Rattle.std.specs.Prelude.{not}
use Rattle.std.proofs.lemmas.Bool.{false≢true}
use Rattle.std.proofs.lemmas.List.Elements.{recursion_from_All}
use Rattle.std.specs.List.{list_all}
use Rattle.std.specs.Prelude.{int_lt}
use Rattle.std.specs.Prelude.{◌&&◌}
use Rattle.std.specs.Prelude.{flat_map}
use Rattle.plane_terms.specs.HalfPlane.{HalfPlane, Says}
use Rattle.plane_terms.specs.declared.op.Op.{Op}
use Rattle.plane_terms.specs.declared.op.Op.TheVariants.{Over, AtLeast, Zero}
use Rattle.plane_terms.specs.Decide.{Edge, Bound, Parts, with_bound, parts_of, flat_by, pair_by, shadow_of, is_above, pair_allows}
use Rattle.plane_terms.specs.Decide.{parts_allow, has_point, low_of, high_of}
use Rattle.plane_terms.specs.Cell.{HasPoint}
use Rattle.cell_laws.specs.Bounds.{Above, Allows, either, Compatible, FlatHolds, PairsHold}
use Rattle.number_laws.proofs.Ring.{num, neg, ◌⊕◌, ◌⊗◌, same_by}
use Rattle.cell_laws.proofs.PairCuts.{pair_value}
use Rattle.cell_laws.proofs.Elimination.{PairHolds, eliminated, over, all_weaker}
use Rattle.cell_laws.proofs.Empty.{all_pairs, by_recursion}
use Rattle.cell_laws.proofs.Lines.{compatible_at}
use Rattle.cell_laws.proofs.Lists.{all_append}
use Rattle.cell_laws.proofs.Ranges.{flipped, level_allows}
use Rattle.number_laws.proofs.Ring.{int_tests}
use Rattle.cell_laws.proofs.LineLists.{IsRising, AllowedBy, AreCompatible, Goes, GoesWithAll, helly}

pub record AllowedByParts (t : ℤ) (w : ℕ) (p : Parts) : Type 0 where
  pub rise : AllByRecursion (AllowedBy t w) p.rise
  pub fall : AllByRecursion (AllowedBy (neg_ℤ t) w) p.fall
  pub level : AllByRecursion (λ l. Above l.strict l.k) p.level

pub record AreSorted (p : Parts) : Type 0 where
  pub rise : AllByRecursion IsRising p.rise
  pub fall : AllByRecursion IsRising p.fall

add_sorted : (m k : ℤ) (s : Bool) (p : Parts) → AreSorted p → AreSorted (with_bound m k s p)
unfolding with_bound
add_sorted (pos zero) k s p h = record { rise = h.rise; fall = h.fall }
add_sorted (pos (suc n)) k s p h = record { rise = (record { positive = omega (arith, ints) }, h.rise); fall = h.fall }
add_sorted (negsuc n) k s p h = record { rise = h.rise; fall = (record { positive = omega (arith, ints) }, h.fall) }

parts_sorted : (ls : List Bound) → AreSorted (parts_of ls)
unfolding parts_of
parts_sorted [] = record { rise = tt; fall = tt }
parts_sorted (l ∷ ls) = add_sorted l.m l.k l.strict (parts_of ls) (parts_sorted ls)

add_allowed : (m k : ℤ) (s : Bool) (p : Parts) (t : ℤ) (w : ℕ) → 0 < w → AllowedByParts t w (with_bound m k s p)
    ↔ (Allows m k s t w × AllowedByParts t w p)
unfolding with_bound
add_allowed (pos zero) k s p t w q = (
  λ h. ((level_allows (pos 0) k s t w q refl).1 h.level.0, record { rise = h.rise; fall = h.fall; level = h.level.1 }),
  λ h.
      record { rise = h.1.rise; fall = h.1.fall; level = ((level_allows (pos 0) k s t w q refl).0 h.0, h.1.level) },
)
add_allowed (pos (suc n)) k s p t w q = (
  λ h. (h.rise.0, record { rise = h.rise.1; fall = h.fall; level = h.level }),
  λ h. record {
    rise =
        (h.0, h.1.rise);
    fall = h.1.fall;
    level = h.1.level;
  },
)
add_allowed (negsuc n) k s p t w q = (
  λ h. ((flipped (negsuc n) k s t w).0 h.fall.0, record { rise = h.rise; fall = h.fall.1; level = h.level }),
  λ h.
      record { rise = h.1.rise; fall = ((flipped (negsuc n) k s t w).1 h.0, h.1.fall); level = h.1.level },
)

parts_allowed : (ls : List Bound) (t : ℤ) (w : ℕ) → 0 < w → AllowedByParts t w (parts_of ls) ↔ AllByRecursion (AllowedBy t w) ls
unfolding parts_of
parts_allowed [] t w q = (λ h. tt, λ h. record { rise = tt; fall = tt; level = tt })
parts_allowed (l ∷ ls) t w q =
    let a = add_allowed l.m l.k l.strict (parts_of ls) t w q in
    let b = parts_allowed ls t w q in
    (λ h. ((a.0 h).0, b.0 (a.0 h).1), λ h. a.1 (h.0, b.1 h.1))

-- some number is allowed by all
pub record HasNumber (ls : List Bound) : Type 0 where
  pub t : ℤ
  pub w : ℕ
  pub positive : 0 < w
  pub allowed : AllByRecursion (AllowedBy t w) ls

abbrev ArePaired : Parts → Type 0
ArePaired p = AllByRecursion (λ l. AllByRecursion (AreCompatible l) p.fall) p.rise

goes_all : (l : Bound) (us : List Bound) → AllByRecursion IsRising us → AllByRecursion (AreCompatible l) us → AllByRecursion (Goes l) us
goes_all l [] r c = tt
goes_all l (u ∷ us) r c = (record { rising = r.0; with = c.0 }, goes_all l us r.1 c.1)

goes_with_all : (ls us : List Bound) → AllByRecursion IsRising ls → AllByRecursion IsRising us
    → AllByRecursion (λ l. AllByRecursion (AreCompatible l) us) ls → AllByRecursion (GoesWithAll us) ls
goes_with_all [] us r s c = tt
goes_with_all (l ∷ ls) us r s c = (record { rising = r.0; each = goes_all l us s c.0 }, goes_with_all ls us r.1 s c.1)

compatible_all : (l : Bound) (us : List Bound) (t : ℤ) (w : ℕ) → 0 < w → IsRising l → AllowedBy t w l → AllByRecursion IsRising us
    → AllByRecursion (AllowedBy (neg_ℤ t) w) us → AllByRecursion (AreCompatible l) us
compatible_all l [] t w p r h s k = tt
compatible_all l (u ∷ us) t w p r h s k = (
  compatible_at l.m l.k u.m u.k l.strict u.strict t w p r.positive s.0.positive h k.0,
  compatible_all l us t w p r h s.1 k.1,
)

paired_all : (ls us : List Bound) (t : ℤ) (w : ℕ) → 0 < w → AllByRecursion IsRising ls → AllByRecursion (AllowedBy t w) ls
    → AllByRecursion IsRising us → AllByRecursion (AllowedBy (neg_ℤ t) w) us
    → AllByRecursion (λ l. AllByRecursion (AreCompatible l) us) ls
paired_all [] us t w p r h s k = tt
paired_all (l ∷ ls) us t w p r h s k = (compatible_all l us t w p r.0 h.0 s k, paired_all ls us t w p r.1 h.1 s k)

number_iff : (ls : List Bound) → (AllByRecursion (λ l. Above l.strict l.k) (parts_of ls).level × ArePaired (parts_of ls)) ↔ HasNumber ls
number_iff ls =
    let p = parts_of ls in
    let s = parts_sorted ls in (
      λ h.
          let q = helly p.rise p.fall (goes_with_all p.rise p.fall s.rise s.fall h.1) s.fall in
          record {
            t = q.t;
            w = q.w;
            positive = q.positive;
            allowed = (parts_allowed ls q.t q.w q.positive).0
                (record { rise = q.below; fall = q.above; level = h.0 });
          },
      λ a.
          let b = (parts_allowed ls a.t a.w a.positive).1 a.allowed in
          (b.level, paired_all p.rise p.fall a.t a.w a.positive s.rise b.rise s.fall b.fall),
    )

-- ---- the constraints on x that a cell makes

all_gathered : {A B : Type 0} (f : A → List B) (P : B → Type 0) (Q : A → Type 0) → ((a : A) → AllByRecursion P (f a) ↔ Q a)
    → (xs : List A) → AllByRecursion P (flat_map f xs) ↔ AllByRecursion Q xs
all_gathered f P Q e [] = (λ h. tt, λ h. tt)
all_gathered f P Q e (x ∷ xs) =
    let r = all_gathered f P Q e xs in
    let s = all_append P (f x) (flat_map f xs) in
    (λ h. let a = s.0 h in ((e x).0 a.0, r.0 a.1), λ h. s.1 ((e x).1 h.0, r.1 h.1))

negated : (a c t : ℤ) (w : ℕ) → neg_ℤ a *ℤ t +ℤ neg_ℤ c *ℤ pos w ≡ neg_ℤ (a *ℤ t +ℤ c *ℤ pos w)
negated a c t w = same_by (neg (num a) ⊗ num t ⊕ neg (num c) ⊗ num (pos w)) (neg (num a ⊗ num t ⊕ num c ⊗ num (pos w))) (omega arith)

flat_allowed : (b a c : ℤ) (o : Op) (t : ℤ) (w : ℕ) → AllByRecursion (AllowedBy t w) (flat_by b a c o) ↔ (b ≡ pos 0
    → Says o (a *ℤ t +ℤ c *ℤ pos w))
unfolding flat_by
flat_allowed (pos zero) a c Over t w = (λ h e. h.0, λ h. (h refl, tt))
flat_allowed (pos zero) a c AtLeast t w = (λ h e. h.0, λ h. (h refl, tt))
flat_allowed (pos zero) a c Zero t w = (
  λ h e. zero_both _ h.0 (rw (← negated a c t w) h.1.0),
  λ h.
      (zero_first _ (h refl), (rw (negated a c t w) (zero_second _ (h refl)), tt)),
)
  where
    zero_both : (v : ℤ) → pos 0 ≤ℤ v → pos 0 ≤ℤ neg_ℤ v → v ≡ pos 0
    zero_both v h k = omega (arith, ints)

    zero_first : (v : ℤ) → v ≡ pos 0 → pos 0 ≤ℤ v
    zero_first v h = omega (arith, ints)

    zero_second : (v : ℤ) → v ≡ pos 0 → pos 0 ≤ℤ neg_ℤ v
    zero_second v h = omega (arith, ints)
flat_allowed (pos (suc n)) a c o t w = (λ h e. absurd (omega (arith, ints)), λ h. tt)
flat_allowed (negsuc n) a c o t w = (λ h e. absurd (omega (arith, ints)), λ h. tt)

pair_allowed : (l u : Option Edge) (t : ℤ) (w : ℕ) → AllByRecursion (AllowedBy t w) (pair_by l u)
    ↔ IfSome l (λ a. IfSome u (λ b. Compatible a b t w))
unfolding pair_by
pair_allowed None u t w = (λ h. tt, λ h. tt)
pair_allowed (Some l) None t w = (λ h. tt, λ h. tt)
pair_allowed (Some l) (Some u) t w =
    (λ h. rw (← pair_value l u t w) h.0, λ h. (rw (pair_value l u t w) h, tt))

abbrev HoldsFor : List HalfPlane → ℤ → ℕ → HalfPlane → Type 0
HoldsFor hs t w h = FlatHolds h t w × AllByRecursion (λ g. IfSome (low_of h) (λ a. IfSome (high_of g) (λ b. Compatible a b t w))) hs

shadow_allowed : (hs : List HalfPlane) (t : ℤ) (w : ℕ) → AllByRecursion (AllowedBy t w) (shadow_of hs hs)
    ↔ AllByRecursion (HoldsFor hs t w) hs
unfolding shadow_of
shadow_allowed hs t w =
    all_gathered (λ h. flat_by h.b h.a h.c h.op ++ flat_map (λ g. pair_by (low_of h) (high_of g)) hs) (AllowedBy t w) (HoldsFor hs t w)
    (λ h.
    let s = all_append (AllowedBy t w) (flat_by h.b h.a h.c h.op) (flat_map (λ g. pair_by (low_of h) (high_of g)) hs) in
    let f = flat_allowed h.b h.a h.c h.op t w in
    let g = all_gathered (λ g. pair_by (low_of h) (high_of g)) (AllowedBy t w)
    (λ g. IfSome (low_of h) (λ a. IfSome (high_of g) (λ b. Compatible a b t w))) (λ g. pair_allowed (low_of h) (high_of g) t w) hs in
    (λ k. let a = s.0 k in (f.0 a.0, g.0 a.1), λ k. s.1 (f.1 k.0, g.1 k.1))) hs

-- `IfSome` of a fixed option, outside or inside
in_some : {A B : Type 0} (o : Option A) (P : A → B → Type 0) (xs : List B) → AllByRecursion (λ b. IfSome o (λ a. P a b)) xs
    ↔ IfSome o (λ a. AllByRecursion (P a) xs)
in_some None P [] = (λ h. tt, λ h. tt)
in_some None P (x ∷ xs) = (λ h. tt, λ h. (tt, (in_some None P xs).1 tt))
in_some (Some a) P xs = (λ h. h, λ h. h)

point_iff : (hs : List HalfPlane) → HasNumber (shadow_of hs hs) ↔ HasPoint hs
point_iff hs = (
  λ n.
      let k = (shadow_allowed hs n.t n.w).0 n.allowed in
      let flat = all_weaker (HoldsFor hs n.t n.w) (λ h. FlatHolds h n.t n.w) (λ h a. a.0) hs k in
      let pairs = all_weaker (HoldsFor hs n.t n.w) (PairHolds hs n.t n.w)
      (λ h a. (in_some (low_of h) (λ l g. IfSome (high_of g) (λ u. Compatible l u n.t n.w)) hs).0 a.1) hs k in
      let o = eliminated hs n.t n.w n.positive flat pairs in
      (over n.t n.w n.positive o.y o.d o.positive, o.within),
  λ p.
      let q = p.0 in
      let k = recursion_from_All (λ h. FlatHolds h q.x q.w × PairsHold hs h q.x q.w) hs (all_pairs hs q p.1) in
      record {
        t = q.x;
        w = q.w;
        positive = q.positive;
        allowed = (shadow_allowed hs q.x q.w).1
            (all_weaker (λ h. FlatHolds h q.x q.w × PairsHold hs h q.x q.w) (HoldsFor hs q.x q.w)
            (λ h a. (
              a.0,
              (in_some (low_of h) (λ l g. IfSome (high_of g) (λ u. Compatible l u q.x q.w)) hs).1
                  (by_recursion hs h q.x q.w a.1),
            )) hs k);
      },
)

decides_above : (s : Bool) (v : ℤ) → is_above s v ≡ true ↔ Above s v
unfolding is_above
decides_above true v = (λ e. omega (arith, ints), λ h. omega (arith, ints, int_tests))
decides_above false v = (λ e. not_lt v e, λ h. lt_not v h)
  where
    not_lt : (v : ℤ) → not (int_lt v (pos 0)) ≡ true → pos 0 ≤ℤ v
    not_lt v e = grind (arith, ints)

    lt_not : (v : ℤ) → pos 0 ≤ℤ v → not (int_lt v (pos 0)) ≡ true
    lt_not v h = let e : int_lt v (pos 0) ≡ false = omega (arith, ints, int_tests) in rw e refl

both_true : (b c : Bool) (P Q : Type 0) → (b ≡ true ↔ P) → (c ≡ true ↔ Q) → (b && c) ≡ true ↔ (P × Q)
both_true true c P Q f g = (λ e. (f.0 refl, g.0 e), λ h. g.1 h.1)
both_true false c P Q f g = (λ e. absurd (false≢true e), λ h. f.1 h.0)

all_true : {A : Type 0} (p : A → Bool) (P : A → Type 0) → ((a : A) → p a ≡ true ↔ P a) → (xs : List A)
    → list_all p xs ≡ true ↔ AllByRecursion P xs
all_true p P f [] = (λ e. tt, λ h. refl)
all_true p P f (x ∷ xs) = both_true (p x) (list_all p xs) (P x) (AllByRecursion P xs) (f x) (all_true p P f xs)

parts_true : (p : Parts) → parts_allow p ≡ true ↔ (AllByRecursion (λ l. Above l.strict l.k) p.level × ArePaired p)
unfolding parts_allow pair_allows
parts_true p =
    both_true _ _ _ _ (all_true (λ l. is_above l.strict l.k) (λ l. Above l.strict l.k) (λ l. decides_above l.strict l.k) p.level)
    (all_true (λ l. list_all (pair_allows l) p.fall) (λ l. AllByRecursion (AreCompatible l) p.fall)
    (λ l. all_true (pair_allows l) (AreCompatible l)
    (λ u. decides_above (either l.strict u.strict) (l.k *ℤ u.m +ℤ u.k *ℤ l.m)) p.fall) p.rise)

-- its one law
pub has_point-true : (hs : List HalfPlane) → has_point hs ≡ true ↔ HasPoint hs
unfolding has_point
has_point-true hs =
    let t = parts_true (parts_of (shadow_of hs hs)) in
    let d = number_iff (shadow_of hs hs) in
    let e = point_iff hs in
    (λ h. e.0 (d.0 (t.0 h)), λ p. t.1 (d.1 (e.1 p)))

-- an answer that is right both ways is the decision
pub decided_by : (b : Bool) (hs : List HalfPlane) → OnTrue b (¬ (HasPoint hs)) → OnFalse b (HasPoint hs) → b ≡ not (has_point hs)
decided_by b hs h k = decided_at b (has_point hs) hs refl h k
  where
    decided_at : (b c : Bool) (hs : List HalfPlane) → has_point hs ≡ c → OnTrue b (¬ (HasPoint hs)) → OnFalse b (HasPoint hs) → b ≡ not c
    decided_at true true hs e h k = absurd (h ((has_point-true hs).0 e))
    decided_at true false hs e h k = refl
    decided_at false true hs e h k = refl
    decided_at false false hs e h k = absurd (false≢true (sym e ∙ (has_point-true hs).1 k))
