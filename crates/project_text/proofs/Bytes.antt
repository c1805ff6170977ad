-- No written field but the text of a shape has a space, and none an LF: so a written line is cut into its fields again.
--
-- IsPlain f      no space and no LF is in the field
-- fields_back    the fields of a line, of which the last may have spaces, are found again
use Rattle.std.proofs.Common.{ℕ, ℤ, pos, negsuc, suc, ◌≡◌, ◌+◌, ◌==◌, Bool, true, false, ◌&&◌, nat_le, not, List, [], ◌∷◌, ◌++◌, map, length, append-nil, append_assoc, if◌then◌else◌, refl, sym, ap, ◌∙◌, arith}
use Rattle.std.specs.Prelude.{nat_lt, codes}
use Rattle.std.specs.List.{list_all}
use Rattle.std.specs.Fmt.{decimal, signed_decimal, digit_glyph}
use Rattle.std.proofs.lemmas.Bool.{and_parts}
use Rattle.std.proofs.lemmas.Bool.Decides.{nat_tests}
use Rattle.std.proofs.lemmas.List.Folds.{list_all-append}
use Rattle.plane_terms.specs.Lists.{Every}
use Rattle.plane_terms.specs.Point.{Place}
use Rattle.plane_terms.specs.Shape.{Shape}
use Rattle.plane_terms.specs.declared.kind.Kind.{Kind}
use Rattle.plane_terms.specs.declared.kind.Kind.TheVariants as kind
use Rattle.plane_terms.specs.declared.op.Op.{Op}
use Rattle.plane_terms.specs.declared.op.Op.TheVariants.{Over, AtLeast, Zero}
use Rattle.text_terms.specs.Fields.{is_letter, is_name_byte, is_name}
use Rattle.text_terms.specs.Wkt.{listed}
use Rattle.text_terms.proofs.Decimals.{decimal_has}
use Rattle.rule_words.specs.declared.rule_kind.RuleKind.{RuleKind}
use Rattle.rule_words.specs.declared.rule_kind.RuleKind.TheVariants as rule
use Rattle.rule_words.specs.Table.{word_of}
use Rattle.line_terms.specs.Forms.{kind_word}
use Rattle.wkt_terms.specs.Grammar.{Geometry, APoint, ALine, Lines, APolygon, Polygons}
use Rattle.wkt_terms.specs.Written.{place_text, bracketed, list_text, lists_text, written}
use Rattle.wkt_terms.specs.Shapes.{geometry_in, shape_text}
use Rattle.project_terms.specs.Lines.{joined, fields, fields_from}
use Rattle.project_terms.specs.Written.{mark_word, extent_word}
use Rattle.project_terms.specs.Texts.{is_inner, IsInner}
use Rattle.project_text.specs.Pushed.{sign_text}

abbrev pub is_plain : ℕ → Bool
is_plain b = not (b == 32) && not (b == 10)

abbrev pub IsPlain : List ℕ → Type 0
IsPlain f = list_all is_plain f ≡ true

all_also : (p q : ℕ → Bool) → ((b : ℕ) → p b ≡ true → q b ≡ true) → (bs : List ℕ) → list_all p bs ≡ true → list_all q bs ≡ true
all_also p q f [] h = refl
all_also p q f (b ∷ bs) h = let k = and_parts (p b) (list_all p bs) h in rw (f b k.0) (all_also p q f bs k.1)

-- ---- numbers
plain_glyph : (d : ℕ) → is_plain (digit_glyph false d) ≡ true
plain_glyph d = by (nat_lt d 10)
  where
    by : (b : Bool) → is_plain (if b then 48 + d else (if false then 55 + d else 87 + d)) ≡ true
    by true = grind (arith, nat_tests)
    by false = grind (arith, nat_tests)

pub plain_decimal : (n : ℕ) → IsPlain (decimal n)
plain_decimal n = decimal_has IsPlain (λ d bs h. rw (plain_glyph d) h) refl n

pub plain_signed : (z : ℤ) → IsPlain (signed_decimal z)
plain_signed (pos n) = plain_decimal n
plain_signed (negsuc n) = plain_decimal (suc n)

-- ---- names and words
plain_letter : (b : ℕ) → is_letter b ≡ true → is_plain b ≡ true
plain_letter b h = grind (arith, nat_tests)

plain_name_byte : (b : ℕ) → is_name_byte b ≡ true → is_plain b ≡ true
plain_name_byte b h = grind (arith, nat_tests)

pub plain_name : (n : List ℕ) → is_name n ≡ true → IsPlain n
plain_name [] h = refl
plain_name (b ∷ bs) h =
    let k = and_parts (is_letter b) (nat_le (length bs) 31 && list_all is_name_byte bs) h in
    let m = and_parts (nat_le (length bs) 31) (list_all is_name_byte bs) k.1 in
    rw (plain_letter b k.0) (all_also is_name_byte is_plain plain_name_byte bs m.1)

pub plain_kind : (k : Kind) → IsPlain (kind_word k)
plain_kind kind.Point = refl
plain_kind kind.Line = refl
plain_kind kind.Polygon = refl

pub plain_rule : (k : RuleKind) → IsPlain (word_of k)
plain_rule rule.PolygonMustNotOverlap = refl
plain_rule other = refl

pub plain_mark : (b : Bool) → IsPlain (mark_word b)
plain_mark true = refl
plain_mark false = refl

pub plain_extent : (b : Bool) → IsPlain (extent_word b)
plain_extent true = refl
plain_extent false = refl

pub plain_sign : (o : Op) (more : Bool) → IsPlain (sign_text o more)
plain_sign Over true = refl
plain_sign Over false = refl
plain_sign AtLeast true = refl
plain_sign AtLeast false = refl
plain_sign Zero true = refl
plain_sign Zero false = refl

-- ---- fields
over_plain : (before f rest : List ℕ) → IsPlain f → fields_from before (f ++ rest) ≡ fields_from (before ++ f) rest
over_plain before [] rest h = ap (λ t. fields_from t rest) (sym (append-nil before))
over_plain before (b ∷ bs) rest h =
    let k = and_parts (is_plain b) (list_all is_plain bs) h in
    let no_space : (b == 32) ≡ false = grind (arith, nat_tests, k.0) in
    rw no_space (over_plain (before ++ b ∷ []) bs rest k.1) ∙ ap (λ t. fields_from t rest) (append_assoc before (b ∷ []) bs)

pub one_field : (f rest : List ℕ) → IsPlain f → fields (f ++ 32 ∷ rest) ≡ f ∷ fields rest
one_field f rest h = over_plain [] f (32 ∷ rest) h

last_field : (f : List ℕ) → IsPlain f → fields f ≡ f ∷ []
last_field f h = ap fields (sym (append-nil f)) ∙ over_plain [] f [] h

pub fields_back : (fs : List (List ℕ)) (t : List ℕ) → Every IsPlain fs → fields (joined (fs ++ t ∷ [])) ≡ fs ++ fields t
fields_back [] t h = refl
fields_back (f ∷ []) t h = one_field f t h.0
fields_back (f ∷ g ∷ fs) t h = one_field f (joined (g ∷ (fs ++ t ∷ []))) h.0 ∙ ap (λ x. f ∷ x) (fields_back (g ∷ fs) t h.1)

pub all_back : (f : List ℕ) (fs : List (List ℕ)) → Every IsPlain (f ∷ fs) → fields (joined (f ∷ fs)) ≡ f ∷ fs
all_back f [] h = last_field f h.0
all_back f (g ∷ fs) h = one_field f (joined (g ∷ fs)) h.0 ∙ ap (λ x. f ∷ x) (all_back g fs h.1)

-- ---- no LF
inner_byte : (b : ℕ) → is_plain b ≡ true → is_inner b ≡ true
inner_byte b h = (and_parts (not (b == 32)) (not (b == 10)) h).1

pub plain_inner : (f : List ℕ) → IsPlain f → IsInner f
plain_inner f h = all_also is_plain is_inner inner_byte f h

inner_append : (a b : List ℕ) → IsInner a → IsInner b → IsInner (a ++ b)
inner_append a b h k = list_all-append is_inner a b ∙ rw (h, k) refl

pub inner_joined : (fs : List (List ℕ)) → Every IsInner fs → IsInner (joined fs)
inner_joined [] h = refl
inner_joined (f ∷ []) h = h.0
inner_joined (f ∷ g ∷ fs) h = inner_append f (32 ∷ joined (g ∷ fs)) h.0 (inner_joined (g ∷ fs) h.1)

inner_listed : (ts : List (List ℕ)) → Every IsInner ts → IsInner (listed ts)
inner_listed [] h = refl
inner_listed (t ∷ []) h = h.0
inner_listed (t ∷ u ∷ ts) h =
    inner_append t (codes ", " ++ listed (u ∷ ts)) h.0 (inner_append (codes ", ") (listed (u ∷ ts)) refl (inner_listed (u ∷ ts) h.1))

inner_each : {A : Type 0} (f : A → List ℕ) → ((x : A) → IsInner (f x)) → (xs : List A) → Every IsInner (map f xs)
inner_each f h [] = tt
inner_each f h (x ∷ xs) = (h x, inner_each f h xs)

inner_bracketed : (t : List ℕ) → IsInner t → IsInner (bracketed t)
inner_bracketed t h = inner_append t (41 ∷ []) h refl

inner_signed : (z : ℤ) → IsInner (signed_decimal z)
inner_signed z = plain_inner (signed_decimal z) (plain_signed z)

inner_place : (p : Place) → IsInner (place_text p)
inner_place p = inner_append (signed_decimal p.x) (32 ∷ signed_decimal p.y) (inner_signed p.x) (inner_signed p.y)

inner_list : (ps : List Place) → IsInner (list_text ps)
inner_list ps = inner_bracketed (listed (map place_text ps)) (inner_listed (map place_text ps) (inner_each place_text inner_place ps))

inner_lists : (pss : List (List Place)) → IsInner (lists_text pss)
inner_lists pss = inner_bracketed (listed (map list_text pss)) (inner_listed (map list_text pss) (inner_each list_text inner_list pss))

inner_written : (g : Geometry) → IsInner (written g)
inner_written (APoint q) = inner_append (codes "POINT ") (bracketed (place_text q)) refl (inner_bracketed (place_text q) (inner_place q))
inner_written (ALine ps) = inner_append (codes "LINESTRING ") (list_text ps) refl (inner_list ps)
inner_written (Lines pss) = inner_append (codes "MULTILINESTRING ") (lists_text pss) refl (inner_lists pss)
inner_written (APolygon rings) = inner_append (codes "POLYGON ") (lists_text rings) refl (inner_lists rings)
inner_written (Polygons parts) =
    inner_append (codes "MULTIPOLYGON ") (bracketed (listed (map lists_text parts))) refl
    (inner_bracketed (listed (map lists_text parts)) (inner_listed (map lists_text parts) (inner_each lists_text inner_lists parts)))

pub inner_shape : (s : Shape) → IsInner (shape_text s)
inner_shape s = inner_written (geometry_in s)
