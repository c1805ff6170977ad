-- What a line says behind a draft: the draft with the line, or why the line is wrong. Its form is tested first, then its shape, its
-- numbers, the names in it, its order.
--
-- Verdict               the draft that the line makes of the one before; or the first cause that applies
-- WktReading            what comes of the text of a shape: the shape of which it is the written form; it is Unwritten, if it is too long,
--                       no
--                       well-known text, or the text of a shape, but not its written form; it is Refused for another reason
-- SideForm              a class, and the number of a subtype where one is given
-- side_form t field     the side that a field spells: a name, and in a format that has subtypes (t) perhaps a colon and a number
-- own_form t field      the same of a feature, whose subtype is not written where it is 0
-- title_of, rule_of, feature_of, rect_of, error_of, cell_of     what the fields behind the first word say, where they have the form; none
-- else
-- class_verdict, ..     the verdict on what a line says
-- line_verdict r d fs   the verdict on a line of these fields behind the draft d; r is what comes of the text of its shape, if it has one
-- wkt_of d fs           the text of the line's shape, where it has one, and all else of it has its form
--
-- A name is told by its bytes; a class by the first of its name; a number is any whole number, and the limits are looked at once the form
-- is right.
use Rattle.std.specs.Prelude.{ℕ, ℤ, pos, ◌-◌, Bool, true, false, ◌&&◌, ◌||◌, not, ◌==◌, ltb, List, [], ◌∷◌, ◌++◌, length, codes, bytes_eq, Option, Some, None, is_some, Result, Ok, Err, if◌then◌else◌}
use Rattle.std.specs.List.{list_all, list_any}
use Rattle.std.specs.Option.{option_map}
use Rattle.plane_terms.specs.Rectangle.{Rectangle, rect_of as rectangle, is_within}
use Rattle.plane_terms.specs.HalfPlane.{HalfPlane}
use Rattle.plane_terms.specs.Cell.{Cell}
use Rattle.plane_terms.specs.Shape.{Shape}
use Rattle.plane_terms.specs.declared.kind.Kind.{Kind}
use Rattle.plane_terms.specs.declared.kind.Kind.TheVariants as kind
use Rattle.plane_terms.specs.declared.op.Op.{Op}
use Rattle.plane_terms.specs.declared.op.Op.TheVariants.{Over, AtLeast, Zero}
use Rattle.text_terms.specs.Fields.{is_name}
use Rattle.rule_words.specs.declared.rule_kind.RuleKind.{RuleKind}
use Rattle.rule_words.specs.Table.{first_of_word, all_rules}
use Rattle.topology_terms.specs.Feature.{Class, Feature, feature_of as feature, Side, no_side}
use Rattle.topology_terms.specs.Broken.{Row}
use Rattle.topology_terms.specs.Entry.{Entry}
use Rattle.topology_terms.specs.Project.{InForce, rule_at}
use Rattle.topology_terms.specs.Lookups.{number_from, kind_of_class}
use Rattle.topology_terms.specs.Causes.{is_kind, is_fit, is_there}
use Rattle.project_terms.specs.declared.stage.Stage.{Stage}
use Rattle.project_terms.specs.declared.stage.Stage.TheVariants as stage
use Rattle.project_terms.specs.declared.project_cause.ProjectCause.{ProjectCause}
use Rattle.project_terms.specs.declared.project_cause.ProjectCause.TheVariants as cause
use Rattle.project_terms.specs.Lines.{joined, number, natural, before_colon, behind_colon}
use Rattle.project_terms.specs.Drafts.{Draft, is_open, is_cell_open, with_cell, last_in, is_last_key, is_rectangle, is_half}

abbrev pub Verdict : Type 0
Verdict = Result Draft ProjectCause

pub data WktReading : Type 0 where
  Unwritten : WktReading
  Refused : WktReading
  Written : Shape → WktReading

-- ---- forms

abbrev pub kind_of_word : List ℕ → Option Kind
kind_of_word w = if bytes_eq w (codes "point") then Some kind.Point else
    (if bytes_eq w (codes "line") then Some kind.Line else (if bytes_eq w (codes "polygon") then Some kind.Polygon else None))

abbrev pub bind : {A B : Type 0} → Option A → (A → Option B) → Option B
bind None f = None
bind (Some x) f = f x

abbrev pub class_of : List (List ℕ) → Option Class
class_of (n ∷ k ∷ []) = if is_name n then option_map (λ (c : Kind). record { name = n; kind = c }) (kind_of_word k) else None
class_of other = None

pub record SideForm : Type 0 where
  pub name : List ℕ
  pub subtype : Option ℤ

-- what stands behind a name's colon
abbrev pub bound_form : Bool → Option (List ℕ) → Option (Option ℤ)
bound_form typed None = Some None
bound_form true (Some digits) = option_map (λ (z : ℤ). Some z) (number digits)
bound_form false (Some digits) = None

abbrev pub side_form : Bool → List ℕ → Option SideForm
side_form typed field = if is_name (before_colon field)
    then option_map (λ (s : Option ℤ). record { name = before_colon field; subtype = s }) (bound_form typed (behind_colon field)) else None

abbrev pub is_0 : Option ℤ → Bool
is_0 (Some (pos n)) = n == 0
is_0 other = false

abbrev pub own_form : Bool → List ℕ → Option SideForm
own_form typed field = bind (side_form typed field) (λ (a : SideForm). if is_0 a.subtype then None else Some a)

pub record RuleForm : Type 0 where
  pub number : ℤ
  pub kind : RuleKind
  pub origin : SideForm
  pub dest : Option SideForm

-- the second side, where there is one
abbrev pub second_of : Bool → List (List ℕ) → Option (Option SideForm)
second_of typed [] = Some None
second_of typed (n ∷ []) = option_map (λ (a : SideForm). Some a) (side_form typed n)
second_of typed other = None

abbrev pub rule_of : Bool → List (List ℕ) → Option RuleForm
rule_of typed (r ∷ w ∷ n ∷ fs) = bind (number r) (λ z. bind (first_of_word w all_rules) (λ k. bind (second_of typed fs) (λ dest.
    option_map (λ (a : SideForm). record { number = z; kind = k; origin = a; dest = dest }) (side_form typed n))))
rule_of typed other = None

pub record FeatureForm : Type 0 where
  pub handle : ℤ
  pub own : SideForm
  pub wkt : List ℕ

abbrev pub feature_of : Bool → List (List ℕ) → Option FeatureForm
feature_of typed (h ∷ n ∷ f ∷ fs) = bind (own_form typed n) (λ (a : SideForm).
    option_map (λ z. record { handle = z; own = a; wkt = joined (f ∷ fs) }) (number h))
feature_of typed other = None

abbrev pub rect_of : List (List ℕ) → Option Rectangle
rect_of (a ∷ b ∷ c ∷ d ∷ []) = bind (number a) (λ x0. bind (number b) (λ y0. bind (number c)
    (λ x1. option_map (rectangle x0 y0 x1) (number d))))
rect_of other = None

pub record ErrorForm : Type 0 where
  pub rule : ℤ
  pub subject : ℤ
  pub other : ℤ
  pub whole : Bool
  pub frame : Rectangle

abbrev pub extent_of : List ℕ → Option Bool
extent_of w = if bytes_eq w (codes "cells") then Some false else (if bytes_eq w (codes "whole") then Some true else None)

abbrev pub error_of : List (List ℕ) → Option ErrorForm
error_of (r ∷ a ∷ b ∷ w ∷ fs) = bind (number r) (λ q. bind (number a) (λ subject. bind (number b) (λ other. bind (extent_of w) (λ whole.
    option_map (λ frame. record { rule = q; subject = subject; other = other; whole = whole; frame = frame }) (rect_of fs)))))
error_of other = None

-- the sign of a half-plane, and whether a comma stands behind it
abbrev pub op_of : List ℕ → Option (Op × Bool)
op_of w = if bytes_eq w (codes ">") then Some (Over, false) else (if bytes_eq w (codes ">=") then Some (AtLeast, false) else
    (if bytes_eq w (codes "=") then Some (Zero, false) else (if bytes_eq w (codes ">,") then Some (Over, true) else
    (if bytes_eq w (codes ">=,") then Some (AtLeast, true) else (if bytes_eq w (codes "=,") then Some (Zero, true) else None)))))

pub record HalfForm : Type 0 where
  pub half : HalfPlane
  pub more : Bool

abbrev pub half_of : List ℕ → List ℕ → List ℕ → List ℕ → Option HalfForm
half_of a b c w = bind (number a) (λ x. bind (number b) (λ y. bind (number c) (λ z.
    option_map (λ (o : Op × Bool). record { half = record { a = x; b = y; c = z; op = o.0 }; more = o.1 }) (op_of w))))

-- the half-planes behind these: where a comma stands behind the last, there are more
abbrev pub halves_behind : List HalfPlane → Bool → List (List ℕ) → Option Cell
halves_behind hs more [] = if more then None else Some hs
halves_behind hs more (a ∷ b ∷ c ∷ w ∷ fs) = if more then bind (half_of a b c w) (λ h. halves_behind (hs ++ h.half ∷ []) h.more fs) else
    None
halves_behind hs more other = None

abbrev pub cell_of : List (List ℕ) → Option Cell
cell_of fs = halves_behind [] true fs

-- ---- what is said, and of what

abbrev pub class_verdict : Draft → Class → Verdict
class_verdict d c = if length d.project.classes == 64 then Err cause.Range else
    (if is_some (number_from 1 d.project.classes c.name) then Err cause.Order else
    Ok (record d { stage = stage.Classes; project = record d.project { classes = d.project.classes ++ c ∷ [] } }))

-- the subtype that a side binds, where it is within the limits
abbrev pub bound_in : Option ℤ → Option (Option ℕ)
bound_in None = Some None
bound_in (Some z) = option_map (λ (s : ℕ). Some s) (natural 0 255 z)

abbrev pub dest_bound : Option SideForm → Option (Option ℕ)
dest_bound None = Some None
dest_bound (Some a) = bound_in a.subtype

abbrev pub row : RuleKind → Side → Side → Row
row k origin dest = record { kind = k; origin = origin; dest = dest }

-- the side of a class that is there
abbrev pub side_in : List Class → SideForm → Option ℕ → Option Side
side_in cs a t = option_map (λ (n : ℕ). record { class = n; subtype = t }) (number_from 1 cs a.name)

abbrev pub dest_in : List Class → Option SideForm → Option ℕ → Option Side
dest_in cs None t = Some no_side
dest_in cs (Some a) t = side_in cs a t

-- the row of sides whose classes are there, and which fit the rule
abbrev pub row_of : List Class → RuleForm → Option ℕ → Option ℕ → Option Row
row_of cs q s t = bind (side_in cs q.origin s) (λ origin. bind (dest_in cs q.dest t)
    (λ dest. if is_fit cs (row q.kind origin dest) then Some (row q.kind origin dest) else None))

abbrev pub with_rule : Draft → InForce → Verdict
with_rule d q = if not (ltb (last_in (λ (r : InForce). r.number) d.project.rules) q.number) || is_there d.project.rules q.row then Err
    cause.Order else
    Ok (record d { stage = stage.Rules; project = record d.project { rules = d.project.rules ++ q ∷ [] } })

abbrev pub rule_in : Draft → ℕ → Option Row → Verdict
rule_in d n None = Err cause.Unknown
rule_in d n (Some r) = with_rule d (record { number = n; row = r })

abbrev pub rule_bound : Draft → RuleForm → ℕ → Option (Option ℕ) → Option (Option ℕ) → Verdict
rule_bound d q n (Some s) (Some t) = rule_in d n (row_of d.project.classes q s t)
rule_bound d q n s t = Err cause.Range

abbrev pub rule_numbered : Draft → RuleForm → Option ℕ → Verdict
rule_numbered d q None = Err cause.Range
rule_numbered d q (Some n) = rule_bound d q n (bound_in q.origin.subtype) (dest_bound q.dest)

abbrev pub rule_verdict : Draft → RuleForm → Verdict
rule_verdict d q = rule_numbered d q (natural 1 256 q.number)

abbrev pub with_feature : Draft → Feature → Verdict
with_feature d f = if ltb (last_in (λ (g : Feature). g.handle) d.project.features) f.handle
    then Ok (record d { stage = stage.Features; project = record d.project { features = d.project.features ++ f ∷ [] } }) else Err cause.Order

abbrev pub feature_in : Draft → ℕ → ℕ → Shape → Option ℕ → Verdict
feature_in d h t s None = Err cause.Unknown
feature_in d h t s (Some c) = if is_kind (kind_of_class d.project.classes c) s.kind then with_feature d (feature h c t s) else Err
    cause.Unknown

-- the subtype of a feature, where it is within the limits
abbrev pub subtype_in : Option ℤ → Option ℕ
subtype_in None = Some 0
subtype_in (Some z) = natural 0 255 z

abbrev pub feature_typed : Draft → SideForm → Shape → ℕ → Option ℕ → Verdict
feature_typed d a s h None = Err cause.Range
feature_typed d a s h (Some t) = feature_in d h t s (number_from 1 d.project.classes a.name)

abbrev pub feature_numbered : Draft → SideForm → Shape → Option ℕ → Verdict
feature_numbered d a s None = Err cause.Range
feature_numbered d a s (Some h) = feature_typed d a s h (subtype_in a.subtype)

abbrev pub feature_verdict : WktReading → Draft → FeatureForm → Verdict
feature_verdict Unwritten d f = Err cause.Form
feature_verdict Refused d f = Err cause.Shape
feature_verdict (Written s) d f = feature_numbered d f.own s (natural 1 (d.project.next - 1) f.handle)

-- one of the two lies in the other
abbrev pub are_nested : Rectangle → Rectangle → Bool
are_nested r s = is_within r s || is_within s r

abbrev pub dirty_verdict : Draft → Rectangle → Verdict
dirty_verdict d r = if not (is_rectangle r) then Err cause.Range else
    (if list_any (are_nested r) d.project.dirt then Err cause.Order else
    Ok (record d { stage = stage.Dirt; project = record d.project { dirt = d.project.dirt ++ r ∷ [] } }))

abbrev pub with_error : Draft → Entry → Verdict
with_error d e = if is_last_key d.project.entries (e.rule, e.subject, e.other)
    then Ok (record d { stage = stage.Errors; project = record d.project { entries = d.project.entries ++ e ∷ [] } }) else Err cause.Order

abbrev pub error_ruled : Draft → Bool → ErrorForm → ℕ → ℕ → Option ℕ → Verdict
error_ruled d marked e a b None = Err cause.Unknown
error_ruled d marked e a b (Some r) = if is_some (rule_at d.project.rules r)
    then with_error d (record { rule = r; subject = a; other = b; whole = e.whole; marked = marked; frame = e.frame; cells = [] }) else Err
    cause.Unknown

abbrev pub error_in : Draft → Bool → ErrorForm → Option ℕ → Option ℕ → Verdict
error_in d marked e None b = Err cause.Range
error_in d marked e (Some a) None = Err cause.Range
error_in d marked e (Some a) (Some b) = if not (is_rectangle e.frame) || (e.whole && not (b == 0)) then Err cause.Range else error_ruled d
    marked e a b (natural 1 256 e.rule)

abbrev pub error_verdict : Bool → Draft → ErrorForm → Verdict
error_verdict marked d e = error_in d marked e (natural 1 (d.project.next - 1) e.subject) (natural 0 (d.project.next - 1) e.other)

abbrev pub cell_verdict : Draft → Cell → Verdict
cell_verdict d c = if list_all is_half c then Ok (record d { project = record d.project { entries = with_cell d.project.entries c } }) else
    Err cause.Range

abbrev pub next_numbered : Draft → Option ℕ → Verdict
next_numbered d None = Err cause.Range
next_numbered d (Some n) = Ok (record d { stage = stage.Next; project = record d.project { next = n } })

abbrev pub next_verdict : Draft → ℤ → Verdict
next_verdict d z = next_numbered d (natural 1 4294967295 z)

-- ---- a line by its first word

-- nothing else is said, and the draft comes to this stage
abbrev pub said : Stage → Draft → Bool → Verdict
said s d only = if only then Ok (record d { stage = s }) else Err cause.Form

abbrev pub judged : {A : Type 0} → (A → Verdict) → Option A → Verdict
judged f None = Err cause.Form
judged f (Some x) = f x

-- whether the format that is named has subtypes: format 2 has them, format 1 has none, and there is no other
abbrev pub title_of : List (List ℕ) → Option Bool
title_of (f ∷ []) = if bytes_eq f (codes "1") then Some false else (if bytes_eq f (codes "2") then Some true else None)
title_of other = None

abbrev pub title_verdict : Draft → Bool → Verdict
title_verdict d typed = Ok (record d { stage = stage.Title; typed = typed })

abbrev pub is_none : List (List ℕ) → Bool
is_none [] = true
is_none other = false

abbrev pub number_of : List (List ℕ) → Option ℤ
number_of (f ∷ []) = number f
number_of other = None

-- where a line of the stage may stand
abbrev pub at : Stage → Draft → Verdict → Verdict
at s d v = if is_open s d then v else Err cause.Form

abbrev pub line_verdict : WktReading → Draft → List (List ℕ) → Verdict
line_verdict reading d [] = Err cause.Form
line_verdict reading d (w ∷ fs) =
    if bytes_eq w (codes "topology") then at stage.Title d (judged (title_verdict d) (title_of fs)) else
    (if bytes_eq w (codes "next") then at stage.Next d (judged (next_verdict d) (number_of fs)) else
    (if bytes_eq w (codes "class") then at stage.Classes d (judged (class_verdict d) (class_of fs)) else
    (if bytes_eq w (codes "rule") then at stage.Rules d (judged (rule_verdict d) (rule_of d.typed fs)) else
    (if bytes_eq w (codes "feature") then at stage.Features d (judged (feature_verdict reading d) (feature_of d.typed fs)) else
    (if bytes_eq w (codes "dirty") then at stage.Dirt d (judged (dirty_verdict d) (rect_of fs)) else
    (if bytes_eq w (codes "error") then at stage.Errors d (judged (error_verdict false d) (error_of fs)) else
    (if bytes_eq w (codes "exception") then at stage.Errors d (judged (error_verdict true d) (error_of fs)) else
    (if bytes_eq w (codes "cell") then (if is_cell_open d then judged (cell_verdict d) (cell_of fs) else Err cause.Form) else
    (if bytes_eq w (codes "end") then at stage.End d (said stage.End d (is_none fs)) else Err cause.Form)))))))))

abbrev pub wkt_in : Option FeatureForm → Option (List ℕ)
wkt_in None = None
wkt_in (Some f) = Some f.wkt

abbrev pub wkt_of : Draft → List (List ℕ) → Option (List ℕ)
wkt_of d [] = None
wkt_of d (w ∷ fs) = if bytes_eq w (codes "feature") && is_open stage.Features d then wkt_in (feature_of d.typed fs) else None
