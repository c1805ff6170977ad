-- Numbers within limits, and classes by their names.
use Rattle.std.proofs.Common.{ℕ, ℤ, pos, negsuc, suc, ◌≡◌, ◌<◌, ◌≤◌, ◌+◌, ◌-◌, ◌==◌, Bool, true, false, ◌&&◌, nat_le, List, [], ◌∷◌, Option, Some, None, if◌then◌else◌, refl, sym, ap, subst, ◌∙◌, arith}
use Rattle.std.specs.Prelude.{bytes_eq, slice_get, IfSome}
use Rattle.std.specs.Option.{option_map}
use Rattle.std.proofs.lemmas.Bool.Decides.{nat_tests}
use Rattle.std.proofs.lemmas.Option.{same_Some}
use Rattle.std.proofs.lemmas.Slice.Eq.{bytes_eq-Decides}
use Rattle.std.proofs.lemmas.Bool.{and_parts}
use Rattle.plane_terms.specs.declared.kind.Kind.{Kind}
use Rattle.topology_terms.specs.Feature.{Class, Side}
use Rattle.topology_terms.specs.Broken.{Row}
use Rattle.topology_terms.specs.Lookups.{class_at, number_from}
use Rattle.topology_terms.specs.Causes.{is_kind, is_fit}
use Rattle.feature_store.proofs.Keeping.{kinds_same}
use Rattle.project_terms.specs.Lines.{natural}
use Rattle.project_terms.specs.Written.{written_subtype}
use Rattle.project_terms.specs.Verdicts.{SideForm, RuleForm, bound_in, is_0, subtype_in, side_in, row, row_of, dest_in}
use Rattle.project_text.proofs.Spelled.{bound, mapped, tested}

pub natural_said : (low high : ℕ) (z : ℤ) (n : ℕ) → natural low high z ≡ Some n → (z ≡ pos n) × (low ≤ n) × (n ≤ high)
natural_said low high (negsuc m) n e = absurd cc
natural_said low high (pos m) n e =
    let t = tested (nat_le low m && nat_le m high) (Some m) n e in
    let same : m ≡ n = same_Some m n t.1 in
    let b = and_parts (nat_le low m) (nat_le m high) t.0 in
    let above : low ≤ m = grind (arith, nat_tests, b.0) in
    let below : m ≤ high = grind (arith, nat_tests, b.1) in
    (ap pos same, omega (arith, same, above), omega (arith, same, below))

pub kind_there : (o : Option Kind) (k : Kind) → is_kind o k ≡ true → o ≡ Some k
kind_there None k e = absurd cc
kind_there (Some l) k e = ap Some (kinds_same l k e)

-- the class whose number, counted from n, is k has the name
record IsNamed (n k : ℕ) (cs : List Class) (name : List ℕ) : Type 0 where
  class : Class
  place : slice_get cs (k - n) ≡ Some class
  named : class.name ≡ name
  from : n ≤ k

named_from : (n : ℕ) (cs : List Class) (name : List ℕ) (k : ℕ) → number_from n cs name ≡ Some k → IsNamed n k cs name
named_from n [] name k e = absurd cc
named_from n (c ∷ cs) name k e = by (bytes_eq c.name name) refl e (named_from (n + 1) cs name k)
  where
    by : (b : Bool) → bytes_eq c.name name ≡ b → (if b then Some n else number_from (n + 1) cs name) ≡ Some k
        → (number_from (n + 1) cs name ≡ Some k → IsNamed (n + 1) k cs name) → IsNamed n k (c ∷ cs) name
    by true t f rest =
        let same : n ≡ k = same_Some n k f in
        let first : k - n ≡ 0 = omega (arith, same) in
        record {
          class = c;
          place = ap (λ i. slice_get (c ∷ cs) i) first;
          named = (bytes_eq-Decides c.name name).0 t;
          from = omega (arith, same);
        }
    by false t f rest =
        let i = rest f in
        let behind : k - n ≡ suc (k - (n + 1)) = omega (arith, i.from) in
        record {
          class = i.class;
          place = ap (λ j. slice_get (c ∷ cs) j) behind ∙ i.place;
          named = i.named;
          from = omega (arith, i.from);
        }

pub named_class : (cs : List Class) (name : List ℕ) (k : ℕ) → number_from 1 cs name ≡ Some k
    → (c : Class) × (class_at cs k ≡ Some c) × (c.name ≡ name)
named_class cs name k e =
    let i = named_from 1 cs name k e in
    let some : (k == 0) ≡ false = grind (arith, nat_tests, i.from) in
    (i.class, rw some i.place, i.named)

-- the side of a class that is there
pub record IsNamedSide (cs : List Class) (a : SideForm) (t : Option ℕ) (A : Side) : Type 0 where
  pub class : Class
  pub place : class_at cs A.class ≡ Some class
  pub named : class.name ≡ a.name
  pub subtype : A.subtype ≡ t
  pub from : 1 ≤ A.class

pub side_named : (cs : List Class) (a : SideForm) (t : Option ℕ) (A : Side) → side_in cs a t ≡ Some A → IsNamedSide cs a t A
side_named cs a t A e =
    let put : ℕ → Side = λ n. record { class = n; subtype = t } in
    let m = mapped put (number_from 1 cs a.name) A e in
    let i = named_from 1 cs a.name m.0 m.1 in
    let c = named_class cs a.name m.0 m.1 in
    subst (IsNamedSide cs a t) m.2 (record { class = c.0; place = c.1; named = c.2; subtype = refl; from = i.from })

pub side_numbered : (cs : List Class) (a : SideForm) (t : Option ℕ) (A : Side) → Some A ≡ side_in cs a t → 0 < A.class
side_numbered cs a t A e = let i = side_named cs a t A (sym e) in omega (arith, i.from)

-- a bound subtype
abbrev Binds : Option ℤ → Option ℕ → Type 0
Binds o s = (o ≡ option_map (λ (n : ℕ). pos n) s) × IfSome s (λ (n : ℕ). n ≤ 255)

pub bound_is : (o : Option ℤ) (s : Option ℕ) → bound_in o ≡ Some s → (o ≡ option_map (λ (n : ℕ). pos n) s) × IfSome s (λ (n : ℕ). n ≤ 255)
bound_is None s e = subst (Binds None) (same_Some None s e) (refl, tt)
bound_is (Some z) s e =
    let m = mapped (λ (n : ℕ). Some n) (natural 0 255 z) s e in
    let b = natural_said 0 255 z m.0 m.1 in
    subst (Binds (Some z)) m.2 (ap (λ x. Some x) b.0, b.2)

-- the subtype of a feature, of which 0 is not written
pub subtype_is : (o : Option ℤ) (t : ℕ) → subtype_in o ≡ Some t → is_0 o ≡ false
    → (o ≡ option_map (λ (n : ℕ). pos n) (written_subtype t)) × (t ≤ 255)
subtype_is None t e other =
    subst (λ x. (None ≡ option_map (λ (n : ℕ). pos n) (written_subtype x)) × (x ≤ 255)) (same_Some 0 t e) (refl, omega arith)
subtype_is (Some z) t e other =
    let b = natural_said 0 255 z t e in
    let some : (t == 0) ≡ false = subst (λ x. is_0 (Some x) ≡ false) b.0 other in
    (ap (λ x. Some x) b.0 ∙ ap (λ c. option_map (λ (n : ℕ). pos n) (if c then None else Some t)) (sym some), b.2)

-- a row of sides that fit the rule
pub record IsRowOf (cs : List Class) (q : RuleForm) (s t : Option ℕ) (r : Row) : Type 0 where
  pub kind : q.kind ≡ r.kind
  pub origin : side_in cs q.origin s ≡ Some r.origin
  pub dest : dest_in cs q.dest t ≡ Some r.dest
  pub fit : is_fit cs r ≡ true

pub row_said : (cs : List Class) (q : RuleForm) (s t : Option ℕ) (r : Row) → row_of cs q s t ≡ Some r → IsRowOf cs q s t r
row_said cs q s t r e =
    let a = bound (side_in cs q.origin s) _ r e in
    let b = bound (dest_in cs q.dest t) _ r a.2 in
    let u = tested (is_fit cs (row q.kind a.0 b.0)) (Some (row q.kind a.0 b.0)) r b.2 in
    subst (IsRowOf cs q s t) (same_Some (row q.kind a.0 b.0) r u.1) (record { kind = refl; origin = a.1; dest = b.1; fit = u.0 })
