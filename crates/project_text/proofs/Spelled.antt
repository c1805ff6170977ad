-- What a line says is spelled in one way: the fields are those that are written of it.
use Rattle.std.proofs.Common.{ℕ, ℤ, ◌≡◌, ◌≢◌, Bool, true, false, List, [], ◌∷◌, ◌++◌, append-nil, append_assoc, Option, Some, None, if◌then◌else◌, refl, sym, ap, subst, ◌∙◌, arith}
use Rattle.std.specs.Prelude.{codes, IfSome}
use Rattle.std.specs.List.{list_all}
use Rattle.std.specs.Option.{option_map}
use Rattle.std.specs.Fmt.{signed_decimal, digits}
use Rattle.std.proofs.lemmas.Option.{same_Some}
use Rattle.std.proofs.lemmas.Bool.{and_parts}
use Rattle.plane_terms.specs.Rectangle.{Rectangle, rect_of as rectangle}
use Rattle.plane_terms.specs.HalfPlane.{HalfPlane}
use Rattle.plane_terms.specs.Cell.{Cell}
use Rattle.plane_terms.specs.declared.kind.Kind.{Kind}
use Rattle.plane_terms.specs.declared.kind.Kind.TheVariants as kind
use Rattle.plane_terms.specs.declared.op.Op.{Op}
use Rattle.plane_terms.specs.declared.op.Op.TheVariants.{Over, AtLeast, Zero}
use Rattle.text_terms.specs.Fields.{is_name}
use Rattle.rule_words.specs.declared.rule_kind.RuleKind.{RuleKind}
use Rattle.rule_words.specs.Table.{word_of, first_of_word, all_rules}
use Rattle.rule_words.proofs.OneWord.{has_word}
use Rattle.line_terms.specs.Forms.{kind_word}
use Rattle.topology_terms.specs.Feature.{Class}
use Rattle.project_terms.specs.Lines.{number}
use Rattle.project_terms.specs.Drafts.{is_half}
use Rattle.project_terms.specs.Verdicts.{ErrorForm, HalfForm, bind, title_of, is_none, number_of, kind_of_word, class_of, rect_of, extent_of, error_of, op_of, half_of, halves_behind, cell_of}
use Rattle.project_terms.specs.Written.{title, cell_fields, extent_word}
use Rattle.project_text.specs.Pushed.{sign_text, some}
use Rattle.project_text.proofs.LineCases.{pick}
use Rattle.project_text.proofs.Halves.{is_valid}
use Rattle.project_text.proofs.Numerals.{number_written}

-- ---- a result that is there
pub bound : {A B : Type 0} (o : Option A) (f : A → Option B) (y : B) → bind o f ≡ Some y → (x : A) × (o ≡ Some x) × (f x ≡ Some y)
bound None f y e = absurd cc
bound (Some x) f y e = (x, refl, e)

pub mapped : {A B : Type 0} (f : A → B) (o : Option A) (y : B) → option_map f o ≡ Some y → (x : A) × (o ≡ Some x) × (f x ≡ y)
mapped f None y e = absurd cc
mapped f (Some x) y e = (x, refl, cc)

pub tested : {A : Type 0} (b : Bool) (o : Option A) (y : A) → (if b then o else None) ≡ Some y → (b ≡ true) × (o ≡ Some y)
tested true o y e = (refl, e)
tested false o y e = absurd cc

-- ---- words
kind_spelled : (w : List ℕ) (k : Kind) → kind_of_word w ≡ Some k → w ≡ kind_word k
kind_spelled w k =
    let P : Option Kind → Type 0 = λ o. o ≡ Some k → w ≡ kind_word k in
    pick P w (codes "point") _ _ (λ e s. e ∙ ap kind_word (same_Some kind.Point k s))
    (pick P w (codes "line") _ _ (λ e s. e ∙ ap kind_word (same_Some kind.Line k s))
    (pick P w (codes "polygon") _ _ (λ e s. e ∙ ap kind_word (same_Some kind.Polygon k s)) (λ s. absurd cc)))

extent_spelled : (w : List ℕ) (b : Bool) → extent_of w ≡ Some b → w ≡ extent_word b
extent_spelled w b =
    let P : Option Bool → Type 0 = λ o. o ≡ Some b → w ≡ extent_word b in
    pick P w (codes "cells") _ _ (λ e s. e ∙ ap extent_word (same_Some false b s))
    (pick P w (codes "whole") _ _ (λ e s. e ∙ ap extent_word (same_Some true b s)) (λ s. absurd cc))

abbrev sign_of : Op × Bool → List ℕ
sign_of s = sign_text s.0 s.1

sign_spelled : (w : List ℕ) (s : Op × Bool) → op_of w ≡ Some s → w ≡ sign_of s
sign_spelled w s =
    let P : Option (Op × Bool) → Type 0 = λ o. o ≡ Some s → w ≡ sign_of s in
    pick P w (codes ">") _ _ (λ e t. e ∙ ap sign_of (same_Some (Over, false) s t))
    (pick P w (codes ">=") _ _ (λ e t. e ∙ ap sign_of (same_Some (AtLeast, false) s t))
    (pick P w (codes "=") _ _ (λ e t. e ∙ ap sign_of (same_Some (Zero, false) s t))
    (pick P w (codes ">,") _ _ (λ e t. e ∙ ap sign_of (same_Some (Over, true) s t))
    (pick P w (codes ">=,") _ _ (λ e t. e ∙ ap sign_of (same_Some (AtLeast, true) s t))
    (pick P w (codes "=,") _ _ (λ e t. e ∙ ap sign_of (same_Some (Zero, true) s t)) (λ t. absurd cc))))))

pub rule_spelled : (w : List ℕ) (k : RuleKind) → first_of_word w all_rules ≡ Some k → w ≡ word_of k
rule_spelled w k e = by (first_of_word w all_rules) (has_word w all_rules) e
  where
    by : (o : Option RuleKind) → IfSome o (λ r. word_of r ≡ w) → o ≡ Some k → w ≡ word_of k
    by None h s = absurd cc
    by (Some r) h s = sym h ∙ ap word_of (same_Some r k s)

-- ---- lines
abbrev pub format_word : Bool → List ℕ
format_word true = codes "2"
format_word false = codes "1"

-- the number of the format
abbrev pub format : Bool → ℕ
format true = 2
format false = 1

pub title_fields : (t : Bool) → title (format t) ≡ codes "topology" ∷ format_word t ∷ []
unfolding digits
title_fields true = refl
title_fields false = refl

title_word : (f : List ℕ) (t : Bool) → title_of (f ∷ []) ≡ Some t → f ≡ format_word t
title_word f t =
    let P : Option Bool → Type 0 = λ o. o ≡ Some t → f ≡ format_word t in
    pick P f (codes "1") _ _ (λ e s. e ∙ ap format_word (same_Some false t s))
    (pick P f (codes "2") _ _ (λ e s. e ∙ ap format_word (same_Some true t s)) (λ s. absurd cc))

pub title_said : (fs : List (List ℕ)) (t : Bool) → title_of fs ≡ Some t → fs ≡ format_word t ∷ []
title_said [] t e = absurd cc
title_said (f ∷ []) t e = ap (λ x. x ∷ []) (title_word f t e)
title_said (f ∷ g ∷ fs) t e = absurd cc

pub none_said : (fs : List (List ℕ)) → is_none fs ≡ true → fs ≡ []
none_said [] h = refl
none_said (f ∷ fs) h = absurd cc

pub number_said : (fs : List (List ℕ)) (z : ℤ) → number_of fs ≡ Some z → (f : List ℕ) × (fs ≡ f ∷ []) × (number f ≡ Some z)
number_said [] z e = absurd cc
number_said (f ∷ []) z e = (f, refl, e)
number_said (f ∷ g ∷ fs) z e = absurd cc

pub class_said : (fs : List (List ℕ)) (c : Class) → class_of fs ≡ Some c → (is_name c.name ≡ true) × (fs ≡ c.name ∷ kind_word c.kind ∷ [])
class_said [] c e = absurd cc
class_said (n ∷ []) c e = absurd cc
class_said (n ∷ k ∷ f ∷ fs) c e = absurd cc
class_said (n ∷ k ∷ []) c e =
    let t = tested (is_name n) _ c e in
    let m = mapped (λ (x : Kind). record { name = n; kind = x }) (kind_of_word k) c t.1 in
    subst (λ (d : Class). (is_name d.name ≡ true) × (n ∷ k ∷ [] ≡ d.name ∷ kind_word d.kind ∷ [])) m.2
    (t.0, ap (λ w. n ∷ w ∷ []) (kind_spelled k m.0 m.1))

pub record IsRectLine (fs : List (List ℕ)) (r : Rectangle) : Type 0 where
  pub x0 : List ℕ
  pub y0 : List ℕ
  pub x1 : List ℕ
  pub y1 : List ℕ
  pub left : number x0 ≡ Some r.x0
  pub below : number y0 ≡ Some r.y0
  pub right : number x1 ≡ Some r.x1
  pub above : number y1 ≡ Some r.y1
  pub spelled : fs ≡ x0 ∷ y0 ∷ x1 ∷ y1 ∷ []

pub rect_said : (fs : List (List ℕ)) (r : Rectangle) → rect_of fs ≡ Some r → IsRectLine fs r
rect_said [] r e = absurd cc
rect_said (a ∷ []) r e = absurd cc
rect_said (a ∷ b ∷ []) r e = absurd cc
rect_said (a ∷ b ∷ c ∷ []) r e = absurd cc
rect_said (a ∷ b ∷ c ∷ d ∷ f ∷ fs) r e = absurd cc
rect_said (a ∷ b ∷ c ∷ d ∷ []) r e =
    let x = bound (number a) _ r e in
    let y = bound (number b) _ r x.2 in
    let z = bound (number c) _ r y.2 in
    let w = mapped (rectangle x.0 y.0 z.0) (number d) r z.2 in
    subst (IsRectLine (a ∷ b ∷ c ∷ d ∷ [])) w.2 (record {
      x0 = a;
      y0 = b;
      x1 = c;
      y1 = d;
      left = x.1;
      below = y.1;
      right = z.1;
      above = w.1;
      spelled = refl;
    })

pub record IsErrorLine (fs : List (List ℕ)) (e : ErrorForm) : Type 0 where
  pub rule : List ℕ
  pub subject : List ℕ
  pub other : List ℕ
  pub sides : List (List ℕ)
  pub of_rule : number rule ≡ Some e.rule
  pub of_subject : number subject ≡ Some e.subject
  pub of_other : number other ≡ Some e.other
  pub frame : IsRectLine sides e.frame
  pub spelled : fs ≡ rule ∷ subject ∷ other ∷ extent_word e.whole ∷ sides

pub error_said : (fs : List (List ℕ)) (f : ErrorForm) → error_of fs ≡ Some f → IsErrorLine fs f
error_said [] f e = absurd cc
error_said (r ∷ []) f e = absurd cc
error_said (r ∷ a ∷ []) f e = absurd cc
error_said (r ∷ a ∷ b ∷ []) f e = absurd cc
error_said (r ∷ a ∷ b ∷ w ∷ fs) f e =
    let q = bound (number r) _ f e in
    let x = bound (number a) _ f q.2 in
    let y = bound (number b) _ f x.2 in
    let v = bound (extent_of w) _ f y.2 in
    let m = mapped (λ (g : Rectangle). record { rule = q.0; subject = x.0; other = y.0; whole = v.0; frame = g }) (rect_of fs) f v.2 in
    subst (IsErrorLine (r ∷ a ∷ b ∷ w ∷ fs)) m.2 (record {
      rule = r;
      subject = a;
      other = b;
      sides = fs;
      of_rule = q.1;
      of_subject = x.1;
      of_other = y.1;
      frame = rect_said fs m.0 m.1;
      spelled = ap (λ t. r ∷ a ∷ b ∷ t ∷ fs) (extent_spelled w v.0 v.1);
    })

-- ---- half-planes
pub record IsHalfLine (a b c w : List ℕ) (h : HalfForm) : Type 0 where
  pub of_a : number a ≡ Some h.half.a
  pub of_b : number b ≡ Some h.half.b
  pub of_c : number c ≡ Some h.half.c
  pub sign : w ≡ sign_text h.half.op h.more

half_said : (a b c w : List ℕ) (h : HalfForm) → half_of a b c w ≡ Some h → IsHalfLine a b c w h
half_said a b c w h e =
    let x = bound (number a) _ h e in
    let y = bound (number b) _ h x.2 in
    let z = bound (number c) _ h y.2 in
    let s = mapped (λ (o : Op × Bool). record { half = record { a = x.0; b = y.0; c = z.0; op = o.0 }; more = o.1 }) (op_of w) h z.2 in
    subst (IsHalfLine a b c w) s.2 (record { of_a = x.1; of_b = y.1; of_c = z.1; sign = sign_spelled w s.0 s.1 })

pub four : {A : Type 0} (a b c d e f g h : A) (xs ys : List A) → a ≡ e → b ≡ f → c ≡ g → d ≡ h → xs ≡ ys
    → a ∷ b ∷ c ∷ d ∷ xs ≡ e ∷ f ∷ g ∷ h ∷ ys
four a b c d e f g h xs ys i j k l m = cc

-- a half-plane within its limits, and those behind it
half_fields : (a b c w : List ℕ) (h : HalfForm) (fs : List (List ℕ)) (rest : Cell) → IsHalfLine a b c w h → h.more ≡ some rest
    → is_half h.half ≡ true → fs ≡ cell_fields rest → a ∷ b ∷ c ∷ w ∷ fs ≡ cell_fields (h.half ∷ rest)
half_fields a b c w h fs rest l more fits others =
    let v = is_valid h.half fits in
    let x = sym (number_written a h.half.a l.of_a (omega (arith, v.a_fits))) in
    let y = sym (number_written b h.half.b l.of_b (omega (arith, v.b_fits))) in
    let z = sym (number_written c h.half.c l.of_c (omega (arith, v.c_fits))) in
    by rest more others x y z
  where
    by : (r : Cell) → h.more ≡ some r → fs ≡ cell_fields r → a ≡ signed_decimal h.half.a → b ≡ signed_decimal h.half.b
        → c ≡ signed_decimal h.half.c → a ∷ b ∷ c ∷ w ∷ fs ≡ cell_fields (h.half ∷ r)
    by [] m o x y z = four _ _ _ _ _ _ _ _ _ _ x y z (l.sign ∙ ap (λ t. sign_text h.half.op t) m) o
    by (g ∷ r) m o x y z = four _ _ _ _ _ _ _ _ _ _ x y z (l.sign ∙ ap (λ t. sign_text h.half.op t) m) o

-- the half-planes behind these are as many as the signs say
pub record AreSaid (hs : List HalfPlane) (more : Bool) (fs : List (List ℕ)) (c : Cell) : Type 0 where
  pub rest : Cell
  pub all : c ≡ hs ++ rest
  pub signed : more ≡ some rest
  pub spelled : list_all is_half rest ≡ true → fs ≡ cell_fields rest

pub halves_said : (fs : List (List ℕ)) (hs : List HalfPlane) (more : Bool) (c : Cell) → halves_behind hs more fs ≡ Some c
    → AreSaid hs more fs c
halves_said [] hs true c e = absurd cc
halves_said [] hs false c e = record { rest = []; all = sym (same_Some hs c e) ∙ sym (append-nil hs); signed = refl; spelled = λ t. refl }
halves_said (a ∷ []) hs more c e = absurd cc
halves_said (a ∷ b ∷ []) hs more c e = absurd cc
halves_said (a ∷ b ∷ d ∷ []) hs more c e = absurd cc
halves_said (a ∷ b ∷ d ∷ w ∷ fs) hs false c e = absurd cc
halves_said (a ∷ b ∷ d ∷ w ∷ fs) hs true c e =
    let h = bound (half_of a b d w) _ c e in
    let i = halves_said fs (hs ++ h.0.half ∷ []) h.0.more c h.2 in
    record {
      rest = h.0.half ∷ i.rest;
      all = i.all ∙ append_assoc hs (h.0.half ∷ []) i.rest;
      signed = refl;
      spelled = λ t.
          let u = and_parts (is_half h.0.half) (list_all is_half i.rest) t in
          half_fields a b d w h.0 fs i.rest (half_said a b d w h.0 h.1) i.signed u.0 (i.spelled u.1);
    }

pub record IsCellLine (fs : List (List ℕ)) (c : Cell) : Type 0 where
  pub some : c ≢ []
  pub spelled : list_all is_half c ≡ true → fs ≡ cell_fields c

pub cell_said : (fs : List (List ℕ)) (c : Cell) → cell_of fs ≡ Some c → IsCellLine fs c
cell_said fs c e =
    let h = halves_said fs [] true c e in
    subst (IsCellLine fs) (sym h.all) (record { some = λ n. absurd (let k = h.signed ∙ ap some n in cc); spelled = h.spelled })
