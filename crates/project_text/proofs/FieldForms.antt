-- What fields say, field by field.
use Rattle.std.proofs.Common.{ℕ, ℤ, pos, to_z, of_z, w64, subst, ◌≡◌, ◌≤◌, ◌==◌, nat_le, Bool, true, false, List, [], ◌∷◌, ◌++◌, append-nil, append_assoc, Option, Some, None, if◌then◌else◌, refl, sym, ap, ◌∙◌, arith}
use Rattle.std.specs.Prelude.{neg_ℤ, unsigned_abs, IfSome}
use Rattle.std.specs.Option.{option_map}
use Rattle.std.proofs.lemmas.Int.{ints}
use Rattle.std.proofs.lemmas.Bool.Decides.{nat_tests}
use Rattle.plane_terms.specs.Rectangle.{Rectangle, rect_of as rectangle}
use Rattle.plane_terms.specs.HalfPlane.{HalfPlane}
use Rattle.plane_terms.specs.declared.kind.Kind.{Kind}
use Rattle.plane_terms.specs.declared.op.Op.{Op}
use Rattle.text_terms.specs.Fields.{is_name}
use Rattle.rule_words.specs.declared.rule_kind.RuleKind.{RuleKind}
use Rattle.rule_words.specs.Table.{word_of, first_of_word, all_rules}
use Rattle.rule_words.proofs.OneWord.{has_word}
use Rattle.wkt_terms.specs.Numerals.{value_of}
use Rattle.project_terms.specs.Lines.{number, positive, negative, spelled, is_positive, counted, joined, fields, fields_from}
use Rattle.project_terms.specs.Verdicts.{SideForm, RuleForm, FeatureForm, HalfForm, bind, is_none, title_of, side_form, own_form, number_of, kind_of_word, class_of, second_of, rule_of, feature_of, rect_of, extent_of, error_of, op_of, half_of, halves_behind}
use Rattle.project_text.specs.Reading.{is_single}

pub no_title : (fs : List (List ℕ)) → is_single fs ≡ false → title_of fs ≡ None
no_title [] h = refl
no_title (f ∷ []) h = absurd cc
no_title (f ∷ g ∷ fs) h = refl

pub no_number_of : (fs : List (List ℕ)) → is_single fs ≡ false → number_of fs ≡ None
no_number_of [] h = refl
no_number_of (f ∷ []) h = absurd cc
no_number_of (f ∷ g ∷ fs) h = refl

-- a line has a field, if an empty one
pub some_fields : (before t : List ℕ) → is_none (fields_from before t) ≡ false
some_fields before [] = refl
some_fields before (b ∷ bs) = by (b == 32) (some_fields (before ++ b ∷ []) bs)
  where
    by : (y : Bool) → is_none (fields_from (before ++ b ∷ []) bs) ≡ false
        → is_none (if y then before ∷ fields_from [] bs else fields_from (before ++ b ∷ []) bs) ≡ false
    by true more = refl
    by false more = more

-- ---- classes
pub class_long : (n : List ℕ) (fs : List (List ℕ)) → is_single fs ≡ false → class_of (n ∷ fs) ≡ None
class_long n [] h = refl
class_long n (f ∷ []) h = absurd cc
class_long n (f ∷ g ∷ fs) h = refl

pub class_unnamed : (n k : List ℕ) → is_name n ≡ false → class_of (n ∷ k ∷ []) ≡ None
class_unnamed n k h = rw h refl

pub class_unkind : (n k : List ℕ) → is_name n ≡ true → kind_of_word k ≡ None → class_of (n ∷ k ∷ []) ≡ None
class_unkind n k h e = rw (h, e) refl

pub class_found : (n k : List ℕ) (c : Kind) → is_name n ≡ true → kind_of_word k ≡ Some c
    → class_of (n ∷ k ∷ []) ≡ Some (record { name = n; kind = c })
class_found n k c h e = rw (h, e) refl

-- ---- rules
pub no_second : (typed : Bool) (fs : List (List ℕ)) → is_none fs ≡ false → is_single fs ≡ false → second_of typed fs ≡ None
no_second typed [] h s = absurd cc
no_second typed (f ∷ []) h s = absurd cc
no_second typed (f ∷ g ∷ fs) h s = refl

pub second_none : (typed : Bool) (fs : List (List ℕ)) → is_none fs ≡ true → second_of typed fs ≡ Some None
second_none typed [] h = refl
second_none typed (f ∷ fs) h = absurd cc

pub rule_unworded : (typed : Bool) (f w n : List ℕ) (fs : List (List ℕ)) (z : ℤ) → number f ≡ Some z → first_of_word w all_rules ≡ None
    → rule_of typed (f ∷ w ∷ n ∷ fs) ≡ None
rule_unworded typed f w n fs z h e = rw (h, e) refl

pub rule_found : (typed : Bool) (f w n : List ℕ) (fs : List (List ℕ)) (z : ℤ) (k : RuleKind) (a : SideForm) (d : Option SideForm)
    → number f ≡ Some z → first_of_word w all_rules ≡ Some k → second_of typed fs ≡ Some d → side_form typed n ≡ Some a
    → rule_of typed (f ∷ w ∷ n ∷ fs) ≡ Some (record { number = z; kind = k; origin = a; dest = d })
rule_found typed f w n fs z k a d h e s m =
    let put : SideForm → RuleForm = λ x. record { number = z; kind = k; origin = x; dest = d } in
    rw (h, e) (ap (λ o. bind o (λ dest. option_map (λ (x : SideForm). record { number = z; kind = k; origin = x; dest = dest })
    (side_form typed n))) s ∙ ap (λ o. option_map put o) m)

-- ---- features
-- the parts of a line with spaces between them are the line
joined_more : (before : List ℕ) (fs : List (List ℕ)) → is_none fs ≡ false → joined (before ∷ fs) ≡ before ++ 32 ∷ joined fs
joined_more before [] h = absurd cc
joined_more before (f ∷ fs) h = refl

joined_from : (before t : List ℕ) → joined (fields_from before t) ≡ before ++ t
joined_from before [] = sym (append-nil before)
joined_from before (b ∷ bs) = by (b == 32) refl (joined_from [] bs) (joined_from (before ++ b ∷ []) bs)
  where
    by : (y : Bool) → (b == 32) ≡ y → joined (fields_from [] bs) ≡ bs
        → joined (fields_from (before ++ b ∷ []) bs) ≡ (before ++ b ∷ []) ++ bs
        → joined (if y then before ∷ fields_from [] bs else fields_from (before ++ b ∷ []) bs) ≡ before ++ b ∷ bs
    by true e rest on =
        let space : b ≡ 32 = grind (arith, nat_tests) in
        joined_more before (fields_from [] bs) (some_fields [] bs)
        ∙ (ap (λ t. before ++ 32 ∷ t) rest ∙ ap (λ c. before ++ c ∷ bs) (sym space))
    by false e rest on = on ∙ append_assoc before (b ∷ []) bs

pub joined_fields : (t : List ℕ) → joined (fields t) ≡ t
joined_fields t = joined_from [] t

pub feature_found : (typed : Bool) (h n t : List ℕ) (fs : List (List ℕ)) (z : ℤ) (a : SideForm) → fs ≡ fields t → number h ≡ Some z
    → own_form typed n ≡ Some a → feature_of typed (h ∷ n ∷ fs) ≡ Some (record { handle = z; own = a; wkt = t })
feature_found typed h n t [] z a e m k = absurd (let s = some_fields [] t in let e' : [] ≡ fields_from [] t = e in cc)
feature_found typed h n t (f ∷ fs) z a e m k =
    let put : List ℕ → ℤ → FeatureForm = λ w x. record { handle = x; own = a; wkt = w } in
    ap (λ o. bind o (λ (x : SideForm). option_map (λ (y : ℤ). record { handle = y; own = x; wkt = joined (f ∷ fs) }) (number h))) k
    ∙ (ap (λ o. option_map (put (joined (f ∷ fs))) o) m ∙ ap (λ w. Some (put w z)) (ap joined e ∙ joined_fields t))

pub feature_unnamed : (typed : Bool) (h n : List ℕ) (fs : List (List ℕ)) → own_form typed n ≡ None → feature_of typed (h ∷ n ∷ fs) ≡ None
feature_unnamed typed h n [] e = refl
feature_unnamed typed h n (f ∷ fs) e =
    ap (λ o. bind o (λ (x : SideForm). option_map {U = FeatureForm} (λ (y : ℤ). record { handle = y; own = x; wkt = joined (f ∷ fs) })
    (number h))) e

-- ---- half-planes
pub no_half : (fs : List (List ℕ)) → fs ≡ [] → (hs : List HalfPlane) → halves_behind hs true fs ≡ None
no_half fs e hs = rw e refl

pub half_one : (a : List ℕ) (hs : List HalfPlane) → halves_behind hs true (a ∷ []) ≡ None
half_one a hs = refl

pub half_two : (a b : List ℕ) (hs : List HalfPlane) → halves_behind hs true (a ∷ b ∷ []) ≡ None
half_two a b hs = refl

pub half_three : (a b c : List ℕ) (hs : List HalfPlane) → halves_behind hs true (a ∷ b ∷ c ∷ []) ≡ None
half_three a b c hs = refl

pub half_wrong : (a b c w : List ℕ) (fs : List (List ℕ)) → half_of a b c w ≡ None → (hs : List HalfPlane)
    → halves_behind hs true (a ∷ b ∷ c ∷ w ∷ fs) ≡ None
half_wrong a b c w fs e hs = rw e refl

pub half_right : (a b c w : List ℕ) (fs : List (List ℕ)) (h : HalfForm) → half_of a b c w ≡ Some h → (hs : List HalfPlane)
    → halves_behind hs true (a ∷ b ∷ c ∷ w ∷ fs) ≡ halves_behind (hs ++ h.half ∷ []) h.more fs
half_right a b c w fs h e hs = rw e refl

pub half_said : (a b c w : List ℕ) (x y z : ℤ) (o : Op) (m : Bool) → number a ≡ Some x → number b ≡ Some y → number c ≡ Some z
    → op_of w ≡ Some (o, m)
    → half_of a b c w ≡ Some (record { half = record { a = x; b = y; c = z; op = o }; more = m })
half_said a b c w x y z o m h i j k = rw (h, i, j, k) refl

pub half_first : (a b c w : List ℕ) → number a ≡ None → half_of a b c w ≡ None
half_first a b c w h = rw h refl

pub half_second : (a b c w : List ℕ) (x : ℤ) → number a ≡ Some x → number b ≡ None → half_of a b c w ≡ None
half_second a b c w x h i = rw (h, i) refl

pub half_third : (a b c w : List ℕ) (x y : ℤ) → number a ≡ Some x → number b ≡ Some y → number c ≡ None → half_of a b c w ≡ None
half_third a b c w x y h i j = rw (h, i, j) refl

unbound : {A B : Type 0} (o : Option A) → bind {B = B} o (λ x. None) ≡ None
unbound None = refl
unbound (Some x) = refl

pub half_unsigned : (a b c w : List ℕ) → op_of w ≡ None → half_of a b c w ≡ None
half_unsigned a b c w h = by (number a) (number b) (number c)
  where
    by : (o p q : Option ℤ) → bind {B = HalfForm} o (λ x. bind p (λ y. bind q (λ z.
        option_map (λ (s : Op × Bool). record { half = record { a = x; b = y; c = z; op = s.0 }; more = s.1 }) (op_of w)))) ≡ None
    by None p q = refl
    by (Some x) None q = refl
    by (Some x) (Some y) None = refl
    by (Some x) (Some y) (Some z) = rw h refl

-- ---- rectangles
pub rect_short : (fs : List (List ℕ)) (a b c : List ℕ) → is_single fs ≡ false → rect_of (a ∷ b ∷ c ∷ fs) ≡ None
rect_short [] a b c h = refl
rect_short (f ∷ []) a b c h = absurd cc
rect_short (f ∷ g ∷ fs) a b c h = refl

pub rect_first : (a b c d : List ℕ) → number a ≡ None → rect_of (a ∷ b ∷ c ∷ d ∷ []) ≡ None
rect_first a b c d h = rw h refl

pub rect_second : (a b c d : List ℕ) (x : ℤ) → number a ≡ Some x → number b ≡ None → rect_of (a ∷ b ∷ c ∷ d ∷ []) ≡ None
rect_second a b c d x h i = rw (h, i) refl

pub rect_third : (a b c d : List ℕ) (x y : ℤ) → number a ≡ Some x → number b ≡ Some y → number c ≡ None
    → rect_of (a ∷ b ∷ c ∷ d ∷ []) ≡ None
rect_third a b c d x y h i j = rw (h, i, j) refl

pub rect_fourth : (a b c d : List ℕ) (x y z : ℤ) → number a ≡ Some x → number b ≡ Some y → number c ≡ Some z → number d ≡ None
    → rect_of (a ∷ b ∷ c ∷ d ∷ []) ≡ None
rect_fourth a b c d x y z h i j k = rw (h, i, j, k) refl

pub rect_found : (a b c d : List ℕ) (x y z w : ℤ) → number a ≡ Some x → number b ≡ Some y → number c ≡ Some z → number d ≡ Some w
    → rect_of (a ∷ b ∷ c ∷ d ∷ []) ≡ Some (rectangle x y z w)
rect_found a b c d x y z w h i j k = rw (h, i, j, k) refl

-- ---- errors
pub error_first : (r a b w : List ℕ) (fs : List (List ℕ)) → number r ≡ None → error_of (r ∷ a ∷ b ∷ w ∷ fs) ≡ None
error_first r a b w fs h = rw h refl

pub error_second : (r a b w : List ℕ) (fs : List (List ℕ)) (x : ℤ) → number r ≡ Some x → number a ≡ None
    → error_of (r ∷ a ∷ b ∷ w ∷ fs) ≡ None
error_second r a b w fs x h i = rw (h, i) refl

pub error_third : (r a b w : List ℕ) (fs : List (List ℕ)) (x y : ℤ) → number r ≡ Some x → number a ≡ Some y → number b ≡ None
    → error_of (r ∷ a ∷ b ∷ w ∷ fs) ≡ None
error_third r a b w fs x y h i j = rw (h, i, j) refl

pub error_fourth : (r a b w : List ℕ) (fs : List (List ℕ)) (x y z : ℤ) → number r ≡ Some x → number a ≡ Some y → number b ≡ Some z
    → extent_of w ≡ None → error_of (r ∷ a ∷ b ∷ w ∷ fs) ≡ None
error_fourth r a b w fs x y z h i j k = rw (h, i, j, k) refl

pub error_fifth : (r a b w : List ℕ) (fs : List (List ℕ)) (x y z : ℤ) (e : Bool) → number r ≡ Some x → number a ≡ Some y → number b ≡ Some z
    → extent_of w ≡ Some e → rect_of fs ≡ None → error_of (r ∷ a ∷ b ∷ w ∷ fs) ≡ None
error_fifth r a b w fs x y z e h i j k l = rw (h, i, j, k, l) refl

pub error_found : (r a b w : List ℕ) (fs : List (List ℕ)) (x y z : ℤ) (e : Bool) (f : Rectangle) → number r ≡ Some x → number a ≡ Some y
    → number b ≡ Some z → extent_of w ≡ Some e → rect_of fs ≡ Some f
    → error_of (r ∷ a ∷ b ∷ w ∷ fs) ≡ Some (record { rule = x; subject = y; other = z; whole = e; frame = f })
error_found r a b w fs x y z e f h i j k l = rw (h, i, j, k, l) refl

-- ---- numbers fit
counted_small : (digits : List ℕ) → counted digits ≤ 1125899906842624
counted_small digits = by (nat_le (value_of digits) 1125899906842624) refl
  where
    by : (y : Bool) → nat_le (value_of digits) 1125899906842624 ≡ y → (if y then value_of digits else 1125899906842624) ≤ 1125899906842624
    by true e = grind (arith, nat_tests)
    by false e = omega arith

neg_small : (n : ℕ) → n ≤ 1125899906842624 → unsigned_abs (neg_ℤ (pos n)) ≤ 1125899906842624
neg_small n h = omega (arith, ints)

at_some : (b : Bool) (x z : ℤ) → Some z ≡ (if b then Some x else None) → unsigned_abs x ≤ 1125899906842624
    → unsigned_abs z ≤ 1125899906842624
at_some true x z e h = let s : x ≡ z = cc in subst (λ (y : ℤ). unsigned_abs y ≤ 1125899906842624) s h
at_some false x z e h = absurd cc

number_small : (f : List ℕ) (z : ℤ) → Some z ≡ number f → unsigned_abs z ≤ 1125899906842624
number_small [] z e = absurd cc
number_small (b ∷ bs) z e = by (b == 45) e
  where
    by : (y : Bool) → Some z ≡ (if y then negative bs else positive (b ∷ bs)) → unsigned_abs z ≤ 1125899906842624
    by true k = at_some (is_positive bs) (neg_ℤ (pos (counted bs))) z k (neg_small (counted bs) (counted_small bs))
    by false k = at_some (spelled (b ∷ bs)) (pos (counted (b ∷ bs))) z k (counted_small (b ∷ bs))

pub fits : (f : List ℕ) (z : ℤ) → Some z ≡ number f → to_z w64 (of_z w64 z) ≡ z
fits f z e = omega (arith, ints, number_small f z e)

-- ---- what is left, field by field
pub feature_said_at : (typed : Bool) (ls ms fs : List (List ℕ)) (h n t : List ℕ) (z : ℤ) (a : SideForm) → ls ≡ h ∷ ms → ms ≡ n ∷ fs
    → fs ≡ fields t → Some z ≡ number h → Some a ≡ own_form typed n
    → feature_of typed ls ≡ Some (record { handle = z; own = a; wkt = t })
feature_said_at typed ls ms fs h n t z a b c e k m =
    ap (feature_of typed) (b ∙ ap (λ x. h ∷ x) c) ∙ feature_found typed h n t fs z a e (sym k) (sym m)

pub feature_unnamed_at : (typed : Bool) (ls ms fs : List (List ℕ)) (h n : List ℕ) → ls ≡ h ∷ ms → ms ≡ n ∷ fs → None ≡ own_form typed n
    → feature_of typed ls ≡ None
feature_unnamed_at typed ls ms fs h n b c m = ap (feature_of typed) (b ∙ ap (λ x. h ∷ x) c) ∙ feature_unnamed typed h n fs (sym m)

pub rect_short_at : (ls ms ns fs : List (List ℕ)) (a b c : List ℕ) → ls ≡ a ∷ ms → ms ≡ b ∷ ns → ns ≡ c ∷ fs → is_single fs ≡ false
    → rect_of ls ≡ None
rect_short_at ls ms ns fs a b c h i j k = ap rect_of (h ∙ ap (λ x. a ∷ x) (i ∙ ap (λ x. b ∷ x) j)) ∙ rect_short fs a b c k

no_rule : (w : List ℕ) → ((k : RuleKind) → word_of k ≡ w → None ≡ Some k) → first_of_word w all_rules ≡ None
no_rule w h = by (first_of_word w all_rules) (has_word w all_rules)
  where
    by : (o : Option RuleKind) → IfSome o (λ k. word_of k ≡ w) → o ≡ None
    by None k = refl
    by (Some r) k = sym (h r k)

pub rule_unworded_at : (typed : Bool) (ls ms ns fs : List (List ℕ)) (f w n : List ℕ) (z : ℤ) → ls ≡ f ∷ ms → ms ≡ w ∷ ns → ns ≡ n ∷ fs → Some z ≡ number f
    → ((k : RuleKind) → word_of k ≡ w → None ≡ Some k) → rule_of typed ls ≡ None
rule_unworded_at typed ls ms ns fs f w n z h i j k l = ap (rule_of typed) (h ∙ ap (λ x. f ∷ x) (i ∙ ap (λ x. w ∷ x) j))
    ∙ rule_unworded typed f w n fs z (sym k) (no_rule w l)

pub half_said_at : (ls ms ns os fs : List (List ℕ)) (a b c w : List ℕ) (x y z : ℤ) (o : Op) (m : Bool) → ls ≡ a ∷ ms → ms ≡ b ∷ ns
    → ns ≡ c ∷ os
    → os ≡ w ∷ fs → Some x ≡ number a → Some y ≡ number b → Some z ≡ number c → Some (o, m) ≡ op_of w → (hs : List HalfPlane)
    → halves_behind hs true ls ≡ halves_behind (hs ++ record { a = x; b = y; c = z; op = o } ∷ []) m fs
half_said_at ls ms ns os fs a b c w x y z o m h i j k p q r s hs =
    ap (halves_behind hs true) (h ∙ ap (λ t. a ∷ t) (i ∙ ap (λ t. b ∷ t) (j ∙ ap (λ t. c ∷ t) k)))
    ∙ half_right a b c w fs (record { half = record { a = x; b = y; c = z; op = o }; more = m })
    (half_said a b c w x y z o m (sym p) (sym q) (sym r) (sym s)) hs
