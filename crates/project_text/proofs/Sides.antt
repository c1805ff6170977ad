-- Fields that spell a class, or a subtype of it.
--
-- IsSpelled field name o       the field is the name; or the name, a colon and the number, where there is one
-- IsSideField t field a        the field spells the side a, in a format that has subtypes (t) or has none
-- with_subtype name s          the side that is written of a name and a subtype
use Rattle.std.proofs.Common.{ℕ, ℤ, pos, ◌≡◌, ◌≤◌, ◌==◌, Bool, true, false, not, List, [], ◌∷◌, ◌++◌, Option, Some, None, if◌then◌else◌, refl, sym, ap, subst, ◌∙◌, arith, eqb-true}
use Rattle.std.specs.Prelude.{IfSome, decimal}
use Rattle.std.specs.Option.{option_map}
use Rattle.std.proofs.lemmas.Option.{same_Some}
use Rattle.std.proofs.lemmas.Bool.{and_parts}
use Rattle.std.proofs.lemmas.Bool.Decides.{nat_tests}
use Rattle.std.proofs.lemmas.List.Folds.{list_all-append}
use Rattle.text_terms.specs.Fields.{is_name}
use Rattle.text_fields.proofs.Colons.{no_colon, name_no_colon}
use Rattle.project_terms.specs.Lines.{number, before_colon, behind_colon}
use Rattle.project_terms.specs.Written.{sided, written_subtype}
use Rattle.project_terms.specs.Verdicts.{SideForm, bind, bound_form, side_form, is_0, own_form}
use Rattle.project_text.specs.Reading.{plain_side, bound_side}
use Rattle.project_text.proofs.Numerals.{natural_read}
use Rattle.project_text.proofs.Spelled.{bound, mapped, tested}
use Rattle.project_text.proofs.Bytes.{IsPlain, is_plain, plain_decimal, plain_name}

-- ---- where a colon stands
abbrev IsCutAt : List ℕ → List ℕ → Option (List ℕ) → Type 0
IsCutAt field front None = front ≡ field
IsCutAt field front (Some digits) = field ≡ front ++ 58 ∷ digits

cut_more : (b : ℕ) (bs front : List ℕ) (o : Option (List ℕ)) → IsCutAt bs front o → IsCutAt (b ∷ bs) (b ∷ front) o
cut_more b bs front None h = ap (λ t. b ∷ t) h
cut_more b bs front (Some digits) h = ap (λ t. b ∷ t) h

cut_colon : (field : List ℕ) → IsCutAt field (before_colon field) (behind_colon field)
cut_colon [] = refl
cut_colon (b ∷ bs) = by (b == 58) refl (cut_colon bs)
  where
    by : (t : Bool) → (b == 58) ≡ t → IsCutAt bs (before_colon bs) (behind_colon bs)
        → IsCutAt (b ∷ bs) (if t then [] else b ∷ before_colon bs) (if t then Some bs else behind_colon bs)
    by true e rest = ap (λ c. c ∷ bs) (eqb-true b 58 e)
    by false e rest = cut_more b bs (before_colon bs) (behind_colon bs) rest

-- the parts of a field, by its first colon
pub record IsPart (field name : List ℕ) (o : Option (List ℕ)) : Type 0 where
  pub front : before_colon field ≡ name
  pub behind : behind_colon field ≡ o

pub whole_part : (field : List ℕ) → no_colon field ≡ true → IsPart field field None
whole_part [] h = record { front = refl; behind = refl }
whole_part (b ∷ bs) h =
    let k = and_parts (not (b == 58)) (no_colon bs) h in
    let other : (b == 58) ≡ false = grind (arith, nat_tests, k.0) in
    let i = whole_part bs k.1 in
    record { front = rw other (ap (λ t. b ∷ t) i.front); behind = rw other i.behind }

pub front_part : (front digits : List ℕ) → no_colon front ≡ true → IsPart (front ++ 58 ∷ digits) front (Some digits)
front_part [] digits h = record { front = refl; behind = refl }
front_part (b ∷ bs) digits h =
    let k = and_parts (not (b == 58)) (no_colon bs) h in
    let other : (b == 58) ≡ false = grind (arith, nat_tests, k.0) in
    let i = front_part bs digits k.1 in
    record { front = rw other (ap (λ t. b ∷ t) i.front); behind = rw other i.behind }

-- ---- what a field says
abbrev pub IsSpelled : List ℕ → List ℕ → Option ℤ → Type 0
IsSpelled field name None = field ≡ name
IsSpelled field name (Some z) = (digits : List ℕ) × (field ≡ name ++ 58 ∷ digits) × (number digits ≡ Some z)

pub record IsSideField (typed : Bool) (field : List ℕ) (a : SideForm) : Type 0 where
  pub name : is_name a.name ≡ true
  pub plain : typed ≡ false → a.subtype ≡ None
  pub spelled : IsSpelled field a.name a.subtype

abbrev IsBoundTo : Bool → List ℕ → List ℕ → Option ℤ → Type 0
IsBoundTo typed field front s = (typed ≡ false → s ≡ None) × IsSpelled field front s

bound_said : (typed : Bool) (field front : List ℕ) (o : Option (List ℕ)) (s : Option ℤ) → IsCutAt field front o
    → bound_form typed o ≡ Some s → IsBoundTo typed field front s
bound_said typed field front None s cut e = subst (IsBoundTo typed field front) (same_Some None s e) ((λ p. refl), sym cut)
bound_said true field front (Some digits) s cut e =
    let m = mapped (λ (z : ℤ). Some z) (number digits) s e in
    subst (IsBoundTo true field front) m.2 ((λ p. absurd cc), (digits, cut, m.1))
bound_said false field front (Some digits) s cut e = absurd cc

pub side_said : (typed : Bool) (field : List ℕ) (a : SideForm) → side_form typed field ≡ Some a → IsSideField typed field a
side_said typed field a e =
    let t = tested (is_name (before_colon field)) _ a e in
    let put : Option ℤ → SideForm = λ s. record { name = before_colon field; subtype = s } in
    let m = mapped put (bound_form typed (behind_colon field)) a t.1 in
    let b = bound_said typed field (before_colon field) (behind_colon field) m.0 (cut_colon field) m.1 in
    subst (IsSideField typed field) m.2 (record { name = t.0; plain = b.0; spelled = b.1 })

untested : (b : Bool) (x a : SideForm) → (if b then None else Some x) ≡ Some a → (b ≡ false) × (x ≡ a)
untested true x a e = absurd cc
untested false x a e = (refl, same_Some x a e)

pub own_said : (typed : Bool) (field : List ℕ) (a : SideForm) → own_form typed field ≡ Some a
    → IsSideField typed field a × (is_0 a.subtype ≡ false)
own_said typed field a e =
    let b = bound (side_form typed field) _ a e in
    let t = untested (is_0 b.0.subtype) b.0 a b.2 in
    (side_said typed field a (b.1 ∙ ap (λ x. Some x) t.1), ap (λ (x : SideForm). is_0 x.subtype) (sym t.1) ∙ t.0)

-- ---- and what is written is read
abbrev pub with_subtype : List ℕ → Option ℕ → SideForm
with_subtype name s = record { name = name; subtype = option_map (λ (n : ℕ). pos n) s }

abbrev pub IsSmallIn : Option ℕ → Type 0
IsSmallIn s = IfSome s (λ (n : ℕ). n ≤ 255)

-- a field by its parts
by_part : (typed : Bool) (field front : List ℕ) (o : Option (List ℕ)) → IsPart field front o
    → side_form typed field ≡ (if is_name front then option_map (λ (s : Option ℤ). record { name = front; subtype = s }) (bound_form typed o)
    else None)
by_part typed field front o p =
    let put : Option (List ℕ) → List ℕ → Option SideForm = λ x n. if is_name n
    then option_map (λ (s : Option ℤ). record { name = n; subtype = s }) (bound_form typed x) else None in
    ap (λ n. put (behind_colon field) n) p.front ∙ ap (λ x. put x front) p.behind

pub whole_side : (typed : Bool) (field : List ℕ) → no_colon field ≡ true → side_form typed field ≡ plain_side field
whole_side typed field free = by_part typed field field None (whole_part field free)

at_cut : (field front digits : List ℕ) → no_colon front ≡ true → field ≡ front ++ 58 ∷ digits → IsPart field front (Some digits)
at_cut field front digits free cut = subst (λ f. IsPart f front (Some digits)) (sym cut) (front_part front digits free)

pub cut_side : (field front digits : List ℕ) → (no_colon front ≡ true) × (field ≡ front ++ 58 ∷ digits)
    → side_form true field ≡ bound_side front digits
cut_side field front digits (free, cut) = by_part true field front (Some digits) (at_cut field front digits free cut) ∙ by (number digits)
  where
    by : (o : Option ℤ) → (if is_name front then option_map {U = SideForm} (λ (s : Option ℤ). record { name = front; subtype = s })
        (option_map (λ (z : ℤ). Some z) o) else None) ≡
        (if is_name front then option_map {U = SideForm} (λ (z : ℤ). record { name = front; subtype = Some z }) o else None)
    by None = refl
    by (Some z) = refl

pub no_cut_side : (field front digits : List ℕ) → (no_colon front ≡ true) × (field ≡ front ++ 58 ∷ digits) → side_form false field ≡ None
no_cut_side field front digits (free, cut) = by_part false field front (Some digits) (at_cut field front digits free cut) ∙ by (is_name front)
  where
    by : (b : Bool) → (if b then option_map {U = SideForm} (λ (s : Option ℤ). record { name = front; subtype = s }) None else None) ≡ None
    by true = refl
    by false = refl

read_by : (typed : Bool) (field front : List ℕ) (o : Option (List ℕ)) (s : Option ℤ) → IsPart field front o → is_name front ≡ true
    → bound_form typed o ≡ Some s → side_form typed field ≡ Some (record { name = front; subtype = s })
read_by typed field front o s p h e =
    let put : Option (List ℕ) → List ℕ → Option SideForm = λ x n. if is_name n
    then option_map (λ (t : Option ℤ). record { name = n; subtype = t }) (bound_form typed x) else None in
    ap (λ n. put (behind_colon field) n) p.front ∙ (ap (λ x. put x front) p.behind
    ∙ (ap (λ b. if b then option_map (λ (t : Option ℤ). record { name = front; subtype = t }) (bound_form typed o) else None) h
    ∙ ap (λ x. option_map (λ (t : Option ℤ). record { name = front; subtype = t }) x) e))

pub side_back : (typed : Bool) (name : List ℕ) (s : Option ℕ) → is_name name ≡ true → (typed ≡ false → s ≡ None) → IsSmallIn s
    → side_form typed (sided name s) ≡ Some (with_subtype name s)
side_back typed name None h plain small = read_by typed name name None None (whole_part name (name_no_colon name h)) h refl
side_back true name (Some n) h plain small =
    read_by true (name ++ 58 ∷ decimal n) name (Some (decimal n)) (Some (pos n)) (front_part name (decimal n) (name_no_colon name h)) h
    (ap (λ o. option_map (λ (z : ℤ). Some z) o) (natural_read n (omega (arith, small))))
side_back false name (Some n) h plain small = absurd (let k = plain refl in cc)

pub own_back : (typed : Bool) (name : List ℕ) (t : ℕ) → is_name name ≡ true → (typed ≡ false → t ≡ 0) → t ≤ 255
    → own_form typed (sided name (written_subtype t)) ≡ Some (with_subtype name (written_subtype t))
own_back typed name t h plain small = by (t == 0) refl
  where
    by : (b : Bool) → (t == 0) ≡ b
        → own_form typed (sided name (if b then None else Some t)) ≡ Some (with_subtype name (if b then None else Some t))
    by true e = ap (λ o. bind o (λ (a : SideForm). if is_0 a.subtype then None else Some a)) (side_back typed name None h (λ p. refl) tt)
    by false e =
        ap (λ o. bind o (λ (a : SideForm). if is_0 a.subtype then None else Some a))
        (side_back typed name (Some t) h (λ p. absurd (let z : t ≡ 0 = plain p in let k : (t == 0) ≡ true = grind (arith, nat_tests, z) in cc))
        small)
        ∙ ap (λ b. if b then None else Some (with_subtype name (Some t))) e

pub plain_sided : (name : List ℕ) (s : Option ℕ) → is_name name ≡ true → IsPlain (sided name s)
plain_sided name None h = plain_name name h
plain_sided name (Some n) h = list_all-append is_plain name (58 ∷ decimal n) ∙ rw (plain_name name h, plain_decimal n) refl
