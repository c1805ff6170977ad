-- Rows that are equal, and classes that fit a row, as their tests tell.
use Rattle.std.proofs.Common.{◌≡◌, ℕ, inl, inr, Bool, true, false, ◌&&◌, ◌||◌, not, refl, sym, List, [], ◌∷◌, ◌++◌, Option, Some, None}
use Rattle.std.specs.Prelude.{◌==◌, IfSome, bytes_eq}
use Rattle.std.proofs.lemmas.Bool.{cases_Bool, or_parts}
use Rattle.std.proofs.lemmas.Slice.Eq.{bytes_eq-Decides}
use Rattle.plane_terms.specs.Lists.{Every}
use Rattle.plane_terms.specs.declared.kind.Kind.{Kind}
use Rattle.plane_terms.specs.declared.kind.Kind.TheVariants as kind
use Rattle.rule_words.specs.Table.{word_of, origin_of, dest_of}
use Rattle.topology_terms.specs.Feature.{Class, Side}
use Rattle.topology_terms.specs.Broken.{Row}
use Rattle.topology_terms.specs.Project.{InForce, rule_at}
use Rattle.topology_terms.specs.Lookups.{kind_of_class}
use Rattle.topology_terms.specs.Causes.{when, first_of, same_kind, is_kind, is_row, is_there, is_missing, is_fit, fits_dest, fit_cause, are_apart, same_side}
use Rattle.topology_terms.specs.declared.cause.Cause.TheVariants as cause
use Rattle.feature_store.proofs.Keeping.{kind_end}
use Rattle.rule_core.proofs.Sides.{equal_sides, own_side}
use Rattle.project_text.proofs.Named.{kind_there}
use Rattle.rule_core.specs.Kinds.{HasKinds}
use Rattle.plane_terms.proofs.Truths.{both_parts}

pub own_row : (r : Row) → is_row r r ≡ true
own_row r = rw ((bytes_eq-Decides (word_of r.kind) (word_of r.kind)).1 refl, own_side r.origin, own_side r.dest) refl

-- ---- a rule of the row
true_last : (t : Bool) → (t || true) ≡ true
true_last true = refl
true_last false = refl

pub somewhere : (row : Row) (rs : List InForce) (n : ℕ) → rule_at rs n ≡ Some row → is_there rs row ≡ true
unfolding rule_at
somewhere row [] n e = absurd cc
somewhere row (q ∷ rs) n e = by (q.number == n) refl (somewhere row rs n)
  where
    by : (t : Bool) → (q.number == n) ≡ t → (rule_at rs n ≡ Some row → is_there rs row ≡ true) → is_there (q ∷ rs) row ≡ true
    by true t rest = let same : q.row ≡ row = (let f = rw t at e in cc) in rw (same, own_row row) refl
    by false t rest = rw (rest (rw t at e)) (true_last (is_row q.row row))

-- ---- classes that serve the row have its kinds
no_fault : (s t : Bool) → first_of (when s cause.NoClass ∷ when (not t) cause.Unfit ∷ []) ≡ None → t ≡ true
no_fault true t e = cc
no_fault false true e = refl
no_fault false false e = cc

dest_told : (cs : List Class) (row : Row) (o : Option Kind) → fits_dest cs row o ≡ true
    → IfSome o (λ k. kind_of_class cs row.dest.class ≡ Some k)
dest_told cs row None e = tt
dest_told cs row (Some k) e = kind_there (kind_of_class cs row.dest.class) k (both_parts (is_kind (kind_of_class cs row.dest.class) k)
    (are_apart row.dest row.origin) e).0

pub fits_kinds : (cs : List Class) (row : Row) → is_fit cs row ≡ true → HasKinds cs row
fits_kinds cs row e =
    let fit = both_parts (is_kind (kind_of_class cs row.origin.class) (origin_of row.kind)) (fits_dest cs row (dest_of row.kind)) e in
    record {
      origin = kind_there (kind_of_class cs row.origin.class) (origin_of row.kind) fit.0;
      dest =
          dest_told cs row (dest_of row.kind) fit.1;
    }

pub no_cause_fits : (cs : List Class) (row : Row) → fit_cause cs row ≡ None → is_fit cs row ≡ true
no_cause_fits cs row e = no_fault (is_missing cs row) (is_fit cs row) e

-- ---- a class more leaves them fitting
own_kind : (k : Kind) → same_kind k k ≡ true
own_kind kind.Point = refl
own_kind kind.Line = refl
own_kind kind.Polygon = refl

kind_stays : (cs : List Class) (d : Class) (n : ℕ) (k : Kind) → is_kind (kind_of_class cs n) k ≡ true
    → is_kind (kind_of_class (cs ++ d ∷ []) n) k ≡ true
kind_stays cs d n k e = rw (kind_end cs d n k (kind_there (kind_of_class cs n) k e)) (own_kind k)

dest_stays : (cs : List Class) (d : Class) (row : Row) (o : Option Kind) → fits_dest cs row o ≡ true → fits_dest (cs ++ d ∷ []) row o ≡ true
dest_stays cs d row None e = e
dest_stays cs d row (Some k) e =
    let h = both_parts (is_kind (kind_of_class cs row.dest.class) k) (are_apart row.dest row.origin) e in
    rw (kind_stays cs d row.dest.class k h.0, h.1) refl

pub fit_end : (cs : List Class) (d : Class) (row : Row) → is_fit cs row ≡ true → is_fit (cs ++ d ∷ []) row ≡ true
fit_end cs d row e =
    let h = both_parts (is_kind (kind_of_class cs row.origin.class) (origin_of row.kind)) (fits_dest cs row (dest_of row.kind)) e in
    rw (kind_stays cs d row.origin.class (origin_of row.kind) h.0, dest_stays cs d row (dest_of row.kind) h.1) refl

-- ---- rows that differ
side_back : (A B : Side) → same_side A B ≡ true → same_side B A ≡ true
side_back A B e = let equal : A ≡ B = equal_sides A B e in rw equal (own_side B)

row_back : (q r : Row) → is_row q r ≡ true → is_row r q ≡ true
row_back q r e =
    let h = both_parts (bytes_eq (word_of q.kind) (word_of r.kind)) (same_side q.origin r.origin && same_side q.dest r.dest) e in
    let k = both_parts (same_side q.origin r.origin) (same_side q.dest r.dest) h.1 in
    let word = (bytes_eq-Decides (word_of q.kind) (word_of r.kind)).0 h.0 in
    rw (
      (bytes_eq-Decides (word_of r.kind) (word_of q.kind)).1 (sym word),
      side_back q.origin r.origin k.0,
      side_back q.dest r.dest k.1,
    ) refl

pub apart_back : (q r : Row) → is_row q r ≡ false → is_row r q ≡ false
apart_back q r e = elim (cases_Bool (is_row r q)) [ inl t ↦ let back = row_back r q t in absurd cc | inr f ↦ f ]

pub each_other : (row : Row) (rs : List InForce) → is_there rs row ≡ false → Every (λ (q : InForce). is_row q.row row ≡ false) rs
each_other row [] e = tt
each_other row (q ∷ rs) e = let h = or_parts (is_row q.row row) (is_there rs row) e in (h.0, each_other row rs h.1)
