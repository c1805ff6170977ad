-- A line has one form.
use Rattle.std.proofs.Common.{ℕ, ◌≡◌, Bool, true, false, List, [], ◌∷◌, refl, sym, ap, ◌∙◌, subst, arith, Option, Some, None, eqb-true}
use Rattle.std.specs.Prelude.{codes, bytes_eq, is_some, if◌then◌else◌}
use Rattle.plane_terms.specs.Point.{Place}
use Rattle.plane_terms.specs.declared.kind.Kind.{Kind}
use Rattle.plane_terms.specs.declared.kind.Kind.TheVariants as shapes
use Rattle.text_terms.specs.Fields.{is_remark, skip_blanks, front_field, behind_field}
use Rattle.rule_words.specs.Table.{dest_of}
use Rattle.rule_words.proofs.OneWord.{one_word}
use Rattle.plane_terms.specs.Rectangle.{Rectangle}
use Rattle.line_terms.specs.Commands.{Sided, CommandOf, Form, Window, All, Numbers}
use Rattle.line_terms.specs.Commands as form
use Rattle.text_terms.specs.Numbers.{IsSigned}
use Rattle.line_terms.specs.Lines.{Holds}
use Rattle.line_terms.specs.Forms.{Piece, Rest, HasForm, IsLine, pieces, written, kind_word, second_class, place}
use Rattle.script_text.proofs.Numbers.{one_number}
use Rattle.script_text.proofs.Sides.{one_sided}
use Rattle.script_text.proofs.Wholes.{one_signed, all_is_none}

one_kind : (j k : Kind) → kind_word j ≡ kind_word k → j ≡ k
one_kind shapes.Point shapes.Point e = refl
one_kind shapes.Line shapes.Line e = refl
one_kind shapes.Polygon shapes.Polygon e = refl
one_kind j k e = cc

-- ---- the first three fields tell the forms apart
abbrev first : List ℕ → List ℕ
first line = front_field (skip_blanks line)

abbrev behind_first : List ℕ → List ℕ
behind_first line = behind_field (skip_blanks line)

abbrev second : List ℕ → List ℕ
second line = first (behind_first line)

abbrev third : List ℕ → List ℕ
third line = first (behind_first (behind_first line))

abbrev tag : {S W : Type 0} → CommandOf S W → ℕ
tag form.Blank = 0
tag (form.Class n k) = 1
tag (form.Rule k n d) = 2
tag (form.DropRule r) = 3
tag (form.Begin e) = 4
tag (form.End e) = 5
tag (form.Discard e) = 6
tag (form.Add e c s) = 7
tag (form.Change e h s) = 8
tag (form.Delete e h) = 9
tag (form.Retype e h t) = 13
tag (form.Undo e) = 10
tag (form.Redo e) = 11
tag (form.Validate window) = 12
tag (form.Explode e h) = 31
tag (form.Snap e r h i to) = 32
tag (form.Create e r h at) = 33
tag (form.Move e from to) = 34
tag (form.Mark r a b) = 14
tag (form.Unmark r a b) = 15
tag form.Dirty = 16
tag form.Errors = 17
tag form.Cells = 18
tag form.Features = 19
tag form.Rules = 20
tag (form.Corners r a b) = 21
tag (form.Version n) = 22
tag (form.In n) = 23
tag (form.Reconcile n) = 24
tag (form.Post n) = 25

abbrev edit_tag : List ℕ → ℕ
edit_tag word =
    if bytes_eq word (codes "add") then 7 else
    (if bytes_eq word (codes "change") then 8 else
    (if bytes_eq word (codes "delete") then 9 else
    (if bytes_eq word (codes "retype") then 13 else
    (if bytes_eq word (codes "undo") then 10 else
    (if bytes_eq word (codes "redo") then 11 else
    (if bytes_eq word (codes "explode") then 31 else
    (if bytes_eq word (codes "snap") then 32 else
    (if bytes_eq word (codes "create") then 33 else 34))))))))

abbrev version_tag : List ℕ → ℕ
version_tag word =
    if bytes_eq word (codes "version") then 22 else
    (if bytes_eq word (codes "in") then 23 else
    (if bytes_eq word (codes "reconcile") then 24 else 25))

abbrev listing_tag : List ℕ → ℕ
listing_tag word =
    if bytes_eq word (codes "dirty") then 16 else
    (if bytes_eq word (codes "errors") then 17 else
    (if bytes_eq word (codes "cells") then 18 else
    (if bytes_eq word (codes "features") then 19 else
    (if bytes_eq word (codes "rules") then 20 else
    (if bytes_eq word (codes "corners") then 21 else version_tag word)))))

abbrev tag_of : List ℕ → List ℕ → ℕ
tag_of word third =
    if is_remark word then 0 else
    (if bytes_eq word (codes "class") then 1 else
    (if bytes_eq word (codes "rule") then 2 else
    (if bytes_eq word (codes "droprule") then 3 else
    (if bytes_eq word (codes "begin") then 4 else
    (if bytes_eq word (codes "end") then 5 else
    (if bytes_eq word (codes "discard") then 6 else
    (if bytes_eq word (codes "by") then edit_tag third else
    (if bytes_eq word (codes "validate") then 12 else
    (if bytes_eq word (codes "mark") then 14 else
    (if bytes_eq word (codes "unmark") then 15 else listing_tag word))))))))))

-- a remark's first field is one, too
remark_field : (text : List ℕ) → is_remark text ≡ true → is_remark (front_field text) ≡ true
remark_field [] e = refl
remark_field (b ∷ bs) e = let same : b ≡ 35 = eqb-true b 35 e in subst (λ c. is_remark (front_field (c ∷ bs)) ≡ true) (sym same) refl

remark_tag : (word third : List ℕ) → is_remark word ≡ true → tag_of word third ≡ 0
remark_tag word third e = rw e refl

by_word : (line : List ℕ) (word : List ℕ) → first line ≡ word → tag_of (first line) (third line) ≡ tag_of word (third line)
by_word line word e = ap (λ w. tag_of w (third line)) e

by_edit : (line : List ℕ) (word : List ℕ) → first line ≡ codes "by" → third line ≡ word → tag_of (first line) (third line) ≡ edit_tag word
by_edit line word e h = by_word line (codes "by") e ∙ ap edit_tag h

pub tagged : {S W : Type 0} (s : S → Piece) (w : W → List Piece) (line : List ℕ) (c : CommandOf S W) → IsLine line (pieces s w c)
    → tag_of (first line) (third line) ≡ tag c
tagged s w line form.Blank p = remark_tag (first line) (third line) (remark_field (skip_blanks line) p.0)
tagged s w line (form.Class n k) p = by_word line (codes "class") p.0
tagged s w line (form.Rule k n d) p = by_word line (codes "rule") p.0
tagged s w line (form.DropRule r) p = by_word line (codes "droprule") p.0
tagged s w line (form.Begin e) p = by_word line (codes "begin") p.0
tagged s w line (form.End e) p = by_word line (codes "end") p.0
tagged s w line (form.Discard e) p = by_word line (codes "discard") p.0
tagged s w line (form.Add e c x) p = by_edit line (codes "add") p.0 p.1.1.0
tagged s w line (form.Change e h x) p = by_edit line (codes "change") p.0 p.1.1.0
tagged s w line (form.Delete e h) p = by_edit line (codes "delete") p.0 p.1.1.0
tagged s w line (form.Retype e h t) p = by_edit line (codes "retype") p.0 p.1.1.0
tagged s w line (form.Undo e) p = by_edit line (codes "undo") p.0 p.1.1.0
tagged s w line (form.Redo e) p = by_edit line (codes "redo") p.0 p.1.1.0
tagged s w line (form.Explode e h) p = by_edit line (codes "explode") p.0 p.1.1.0
tagged s w line (form.Snap e r h i to) p = by_edit line (codes "snap") p.0 p.1.1.0
tagged s w line (form.Create e r h at) p = by_edit line (codes "create") p.0 p.1.1.0
tagged s w line (form.Move e from to) p = by_edit line (codes "move") p.0 p.1.1.0
tagged s w line (form.Validate x) p = by_word line (codes "validate") p.0
tagged s w line (form.Mark r a b) p = by_word line (codes "mark") p.0
tagged s w line (form.Unmark r a b) p = by_word line (codes "unmark") p.0
tagged s w line form.Dirty p = by_word line (codes "dirty") p.0
tagged s w line form.Errors p = by_word line (codes "errors") p.0
tagged s w line form.Cells p = by_word line (codes "cells") p.0
tagged s w line form.Features p = by_word line (codes "features") p.0
tagged s w line form.Rules p = by_word line (codes "rules") p.0
tagged s w line (form.Corners r a b) p = by_word line (codes "corners") p.0
tagged s w line (form.Version n) p = by_word line (codes "version") p.0
tagged s w line (form.In n) p = by_word line (codes "in") p.0
tagged s w line (form.Reconcile n) p = by_word line (codes "reconcile") p.0
tagged s w line (form.Post n) p = by_word line (codes "post") p.0

-- ---- and each form has its values from the line
one_second : (takes : Bool) (text : List ℕ) (d e : Option Sided) → IsLine text (second_class takes d)
    → IsLine text (second_class takes e) → d ≡ e
one_second false text None None p q = refl
one_second true text (Some a) (Some b) p q = ap (λ x. Some x) (one_sided (first text) a b p.0 q.0)
one_second true text None e p q = absurd p.0
one_second false text (Some n) e p q = absurd p.0
one_second true text d None p q = absurd q.0
one_second false text d (Some n) p q = absurd q.0

-- the fourth field of a line, and what is left behind it
abbrev fourth : List ℕ → List ℕ
fourth line = first (behind_first (behind_first (behind_first line)))

abbrev behind_fourth : List ℕ → List ℕ
behind_fourth line = behind_first (behind_first (behind_first (behind_first line)))

abbrev Shapes : {S : Type 0} → (S → Piece) → (S → Piece) → (S → Type 0) → (S → Type 0) → Type 0
Shapes {S = S} s t M N = (text : List ℕ) (x y : S) → IsLine text (s x ∷ []) → IsLine text (t y ∷ []) → M x → N y → x ≡ y

abbrev Windows : {W : Type 0} → (W → List Piece) → (W → List Piece) → (W → Type 0) → (W → Type 0) → Type 0
Windows {W = W} v w M N = (text : List ℕ) (x y : W) → IsLine text (v x) → IsLine text (w y) → M x → N y → x ≡ y

-- a place, from the two fields that write it
one_place : (text : List ℕ) (ps qs : List Piece) (q p : Place) → IsLine text (place q ps) → IsLine text (place p qs) → q ≡ p
one_place text ps qs q p g h =
    let e0 = one_signed (first text) q.x p.x g.0 h.0 in
    let e1 = one_signed (second text) q.y p.y g.1.0 h.1.0 in
    λ i. record { x = e0 i; y = e1 i }

pub one_of : {S W : Type 0} (s t : S → Piece) (v w : W → List Piece) (M N : S → Type 0) (O P : W → Type 0) (Q R : Place → Type 0) → Shapes s t M N
    → Windows v w O P
    → (line : List ℕ) (c d : CommandOf S W) → IsLine line (pieces s v c) → IsLine line (pieces t w d) → Holds M O Q c → Holds N P R d
    → tag c ≡ tag d → c ≡ d
one_of s t v w M N O P Q R shapes windows line form.Blank form.Blank p q m n e = refl
one_of s t v w M N O P Q R shapes windows line (form.Class x k) (form.Class y j) p q m n e = let same = one_kind k j (sym p.1.1.0 ∙ q.1.1.0) in
    cc
one_of s t v w M N O P Q R shapes windows line (form.Rule j x d) (form.Rule k y c) p q m n e =
    let same = one_word j k (sym p.1.0 ∙ q.1.0) in
    let text = behind_first (behind_first (behind_first line)) in
    let takes = subst (λ i. IsLine text (second_class (is_some (dest_of i)) d)) same p.1.1.1 in
    let origin = one_sided (third line) x y p.1.1.0 q.1.1.0 in
    let dest = one_second (is_some (dest_of k)) text d c takes q.1.1.1 in
    cc
one_of s t v w M N O P Q R shapes windows line (form.DropRule x) (form.DropRule y) p q m n e =
    ap form.DropRule (one_number (second line) 1 65535 x y p.1.0 q.1.0)
one_of s t v w M N O P Q R shapes windows line (form.Begin x) (form.Begin y) p q m n e = cc
one_of s t v w M N O P Q R shapes windows line (form.End x) (form.End y) p q m n e = cc
one_of s t v w M N O P Q R shapes windows line (form.Discard x) (form.Discard y) p q m n e = cc
one_of s t v w M N O P Q R shapes windows line (form.Add x a g) (form.Add y b h) p q m n e =
    let own = one_sided (fourth line) a b p.1.1.1.0 q.1.1.1.0 in
    let same = shapes (behind_fourth line) g h p.1.1.1.1 q.1.1.1.1 m n in
    cc
one_of s t v w M N O P Q R shapes windows line (form.Change x a g) (form.Change y b h) p q m n e =
    let number = one_number (fourth line) 1 4294967295 a b p.1.1.1.0 q.1.1.1.0 in
    let same = shapes (behind_fourth line) g h p.1.1.1.1 q.1.1.1.1 m n in
    cc
one_of s t v w M N O P Q R shapes windows line (form.Delete x a) (form.Delete y b) p q m n e =
    let number = one_number (fourth line) 1 4294967295 a b p.1.1.1.0 q.1.1.1.0 in
    cc
one_of s t v w M N O P Q R shapes windows line (form.Retype x a r) (form.Retype y b o) p q m n e =
    let number = one_number (fourth line) 1 4294967295 a b p.1.1.1.0 q.1.1.1.0 in
    let subtype = one_number (first (behind_fourth line)) 0 255 r o p.1.1.1.1.0 q.1.1.1.1.0 in
    cc
one_of s t v w M N O P Q R shapes windows line (form.Undo x) (form.Undo y) p q m n e = cc
one_of s t v w M N O P Q R shapes windows line (form.Redo x) (form.Redo y) p q m n e = cc
one_of s t v w M N O P Q R shapes windows line (form.Explode x a) (form.Explode y b) p q m n e =
    let number = one_number (fourth line) 1 4294967295 a b p.1.1.1.0 q.1.1.1.0 in
    cc
one_of s t v w M N O P Q R shapes windows line (form.Snap x r a j g) (form.Snap y o b k h) p q m n e =
    let rule = one_number (fourth line) 1 65535 r o p.1.1.1.0 q.1.1.1.0 in
    let number = one_number (first (behind_fourth line)) 1 4294967295 a b p.1.1.1.1.0 q.1.1.1.1.0 in
    let end = one_number (second (behind_fourth line)) 0 4294967295 j k p.1.1.1.1.1.0 q.1.1.1.1.1.0 in
    let at = one_place (behind_first (behind_first (behind_fourth line))) [] [] g h p.1.1.1.1.1.1 q.1.1.1.1.1.1 in
    cc
one_of s t v w M N O P Q R shapes windows line (form.Create x r a g) (form.Create y o b h) p q m n e =
    let rule = one_number (fourth line) 1 65535 r o p.1.1.1.0 q.1.1.1.0 in
    let number = one_number (first (behind_fourth line)) 1 4294967295 a b p.1.1.1.1.0 q.1.1.1.1.0 in
    let at = one_place (behind_first (behind_fourth line)) [] [] g h p.1.1.1.1.1 q.1.1.1.1.1 in
    cc
one_of s t v w M N O P Q R shapes windows line (form.Move x f g) (form.Move y d h) p q m n e =
    let text = behind_first (behind_first (behind_first line)) in
    let from = one_place text (place g []) (place h []) f d p.1.1.1 q.1.1.1 in
    let to = one_place (behind_first (behind_first text)) [] [] g h p.1.1.1.1.1 q.1.1.1.1.1 in
    cc
one_of s t v w M N O P Q R shapes windows line (form.Validate g) (form.Validate h) p q m n e =
    ap form.Validate (windows (behind_first line) g h p.1 q.1 m n)
one_of s t v w M N O P Q R shapes windows line (form.Mark r a b) (form.Mark x y z) p q m n e =
    let rule = one_number (second line) 1 65535 r x p.1.0 q.1.0 in
    let subject = one_number (third line) 1 4294967295 a y p.1.1.0 q.1.1.0 in
    let other = one_number (fourth line) 0 4294967295 b z p.1.1.1.0 q.1.1.1.0 in
    cc
one_of s t v w M N O P Q R shapes windows line (form.Unmark r a b) (form.Unmark x y z) p q m n e =
    let rule = one_number (second line) 1 65535 r x p.1.0 q.1.0 in
    let subject = one_number (third line) 1 4294967295 a y p.1.1.0 q.1.1.0 in
    let other = one_number (fourth line) 0 4294967295 b z p.1.1.1.0 q.1.1.1.0 in
    cc
one_of s t v w M N O P Q R shapes windows line form.Dirty form.Dirty p q m n e = refl
one_of s t v w M N O P Q R shapes windows line form.Errors form.Errors p q m n e = refl
one_of s t v w M N O P Q R shapes windows line form.Cells form.Cells p q m n e = refl
one_of s t v w M N O P Q R shapes windows line form.Features form.Features p q m n e = refl
one_of s t v w M N O P Q R shapes windows line form.Rules form.Rules p q m n e = refl
one_of s t v w M N O P Q R shapes windows line (form.Corners r a b) (form.Corners x y z) p q m n e =
    let rule = one_number (second line) 1 65535 r x p.1.0 q.1.0 in
    let subject = one_number (third line) 1 4294967295 a y p.1.1.0 q.1.1.0 in
    let other = one_number (fourth line) 0 4294967295 b z p.1.1.1.0 q.1.1.1.0 in
    cc
one_of s t v w M N O P Q R shapes windows line (form.Version x) (form.Version y) p q m n e = cc
one_of s t v w M N O P Q R shapes windows line (form.In x) (form.In y) p q m n e = cc
one_of s t v w M N O P Q R shapes windows line (form.Reconcile x) (form.Reconcile y) p q m n e = cc
one_of s t v w M N O P Q R shapes windows line (form.Post x) (form.Post y) p q m n e = cc
one_of s t v w M N O P Q R shapes windows line c d p q m n e = absurd (omega (arith, e))

one_rect : (text : List ℕ) (q r : Rectangle) → IsLine text (written (Numbers q)) → IsLine text (written (Numbers r)) → q ≡ r
one_rect text q r g h =
    let e0 = one_signed (first text) q.x0 r.x0 g.0 h.0 in
    let e1 = one_signed (second text) q.y0 r.y0 g.1.0 h.1.0 in
    let e2 = one_signed (third text) q.x1 r.x1 g.1.1.0 h.1.1.0 in
    let e3 = one_signed (fourth text) q.y1 r.y1 g.1.1.1.0 h.1.1.1.0 in
    λ i. record { x0 = e0 i; y0 = e1 i; x1 = e2 i; y1 = e3 i }

pub no_all : (text : List ℕ) (r : Rectangle) → first text ≡ codes "all" → IsLine text (written (Numbers r)) → ⊥
no_all text r e h = all_is_none r.x0 (subst (λ f. IsSigned f r.x0) e h.0)

pub one_window : (text : List ℕ) (v w : Window) → IsLine text (written v) → IsLine text (written w) → v ≡ w
one_window text All All g h = refl
one_window text (Numbers q) (Numbers r) g h = ap Numbers (one_rect text q r g h)
one_window text All (Numbers r) g h = absurd (no_all text r g.0 h)
one_window text (Numbers r) All g h = absurd (no_all text r h.0 g)

one_rest : Shapes Rest Rest (λ _. Unit {0}) (λ _. Unit {0})
one_rest text x y p q m n = sym p.0 ∙ q.0

trivial : (f : Form) → Holds (λ _. Unit {0}) (λ _. Unit {0}) (λ _. Unit {0}) f
trivial (form.Add e c x) = tt
trivial (form.Change e h x) = tt
trivial (form.Snap e r h i to) = tt
trivial (form.Create e r h at) = tt
trivial (form.Move e from to) = (tt, tt)
trivial (form.Validate w) = tt
trivial other = tt

pub one_form : (line : List ℕ) (f g : Form) → HasForm line f → HasForm line g → f ≡ g
one_form line f g p q =
    one_of Rest Rest written written (λ _. Unit {0}) (λ _. Unit {0}) (λ _. Unit {0}) (λ _. Unit {0}) (λ _. Unit {0}) (λ _. Unit {0}) one_rest
    (λ text v w a b m n. one_window text v w a b)
    line f g p q (trivial f) (trivial g) (sym (tagged Rest written line f p) ∙ tagged Rest written line g q)
