-- What is written of classes, rules, features and dirty rectangles is read as it.
--
-- HasPlain t p           a format that has no subtypes is of a project that has none
-- IsWrittenRow t cs r    what is written of a row's sides, and what is read of it
use Rattle.std.proofs.Common.{ℕ, ℤ, pos, ◌≡◌, ◌≢◌, ◌<◌, ◌≤◌, ◌+◌, ◌-◌, ◌==◌, ltb, Bool, true, false, List, [], ◌∷◌, ◌++◌, map, append-nil, append_assoc, length, length-append, Option, Some, None, Ok, if◌then◌else◌, refl, sym, ap, subst, ◌∙◌, arith}
use Rattle.std.specs.Prelude.{IfSome, codes, unsigned_abs, decimal}
use Rattle.std.specs.Fmt.{signed_decimal}
use Rattle.std.specs.List.{list_any}
use Rattle.std.specs.Option.{option_map}
use Rattle.std.proofs.lemmas.Bool.{and_parts, or_from}
use Rattle.std.proofs.lemmas.Bool.Decides.{nat_tests}
use Rattle.plane_terms.specs.Lists.{Every, EveryPair}
use Rattle.plane_terms.proofs.ListLemmas.{every_map}
use Rattle.plane_terms.specs.Rectangle.{Rectangle, IsRectangle, is_within}
use Rattle.plane_terms.specs.Dirt.{AreLoose}
use Rattle.plane_terms.specs.Shape.{Shape}
use Rattle.plane_terms.specs.declared.kind.Kind.{Kind}
use Rattle.plane_terms.specs.declared.kind.Kind.TheVariants as kind
use Rattle.text_terms.specs.Fields.{is_name}
use Rattle.wkt_terms.specs.Shapes.{IsShapeText, shape_text}
use Rattle.wkt_text.proofs.Again.{again}
use Rattle.rule_words.specs.Table.{word_of, origin_of, dest_of}
use Rattle.rule_words.proofs.OneWord.{found}
use Rattle.line_terms.specs.Forms.{kind_word}
use Rattle.topology_terms.specs.Broken.{Row}
use Rattle.topology_terms.specs.Feature.{Class, Feature, Side, no_side, feature_of as feature}
use Rattle.topology_terms.specs.Lookups.{number_from, kind_of_class}
use Rattle.topology_terms.specs.Causes.{same_kind, is_kind, is_fit, fits_dest, are_apart, same_side, same_subtype, is_row, is_there}
use Rattle.topology_terms.specs.Project.{Project, InForce}
use Rattle.feature_store.specs.Keeps.{AreUnlike}
use Rattle.project_terms.specs.declared.stage.Stage.{Stage}
use Rattle.project_terms.specs.declared.stage.Stage.TheVariants as stage
use Rattle.project_terms.specs.Lines.{joined, fields, number, natural}
use Rattle.project_terms.specs.Records.{IsNumbered, IsSmall, HasSmallSides, HasPlainSides, IsPlaced, IsRecord, IsPlain as HasNoSubtype}
use Rattle.project_terms.specs.Written.{sided, sided_in, side_field, written_subtype, rect_fields, class_line, rule_line, feature_line, dirty_line}
use Rattle.project_terms.specs.Drafts.{Draft, rank, is_open, last_in, is_rectangle}
use Rattle.project_terms.specs.Verdicts.{Written, SideForm, RuleForm, FeatureForm, bind, judged, kind_of_word, class_of, second_of, feature_of, rect_of, side_in, dest_in, bound_in, dest_bound, subtype_in, row, row_of, class_verdict, rule_verdict, rule_numbered, rule_bound, rule_in, feature_verdict, feature_numbered, feature_typed, feature_in, are_nested, dirty_verdict}
use Rattle.project_terms.specs.Texts.{IsLineVerdict, IsVerdict, IsReading, AreRead}
use Rattle.project_text.proofs.FieldForms.{rule_found, feature_found, rect_found}
use Rattle.project_text.proofs.Numerals.{natural_read, signed_read}
use Rattle.wkt_text.proofs.Results.{one_shape}
use Rattle.project_text.proofs.Rects.{sides, rectangle_true}
use Rattle.project_text.proofs.Ends.{none_any, last_below}
use Rattle.project_text.proofs.Sides.{with_subtype, side_back, own_back, plain_sided}
use Rattle.project_text.proofs.Named.{kind_there}
use Rattle.project_text.proofs.OneSpelling.{near}
use Rattle.project_text.proofs.Bytes.{IsPlain, plain_decimal, plain_signed, plain_name, plain_kind, plain_rule, fields_back}
use Rattle.project_text.proofs.Short.{shape_short}
use Rattle.project_text.proofs.Standing.{every_mid, between, below, other, natural_back, at_stage, open_here, at_true, plain_verdict, in_classes, in_rules, in_features, in_dirt}
use Rattle.project_text.proofs.ByName.{IsThere, HasName, unlike_names, kind_class}

-- ---- classes
pub kind_back : (k : Kind) → kind_of_word (kind_word k) ≡ Some k
kind_back kind.Point = refl
kind_back kind.Line = refl
kind_back kind.Polygon = refl

pub class_back : (c : Class) → is_name c.name ≡ true → class_of (c.name ∷ kind_word c.kind ∷ []) ≡ Some c
class_back c h = rw (h, kind_back c.kind) refl

pub none_named : (n : ℕ) (cs : List Class) (name : List ℕ) → Every (λ (c : Class). c.name ≢ name) cs → number_from n cs name ≡ None
none_named n [] name h = refl
none_named n (c ∷ cs) name h = rw (unlike_names c.name name h.0) (none_named (n + 1) cs name h.1)

pub class_put : (d : Draft) (c : Class) → (length d.project.classes == 64) ≡ false → number_from 1 d.project.classes c.name ≡ None
    → class_verdict d c ≡ Ok (record d { stage = stage.Classes; project = record d.project { classes = d.project.classes ++ c ∷ [] } })
class_put d c few free = rw (few, free) refl

pub class_step : (t : Bool) (p : Project) → IsRecord p → (done : List Class) (c : Class) (cs : List Class) → done ++ c ∷ cs ≡ p.classes → (s : Stage)
    → 2 ≤ rank s → rank s ≤ 3
    → IsVerdict (at_stage t s (in_classes p done)) (joined (class_line c)) (Ok (at_stage t stage.Classes (in_classes p (done ++ c ∷ []))))
class_step t p h done c cs same s some up =
    let d : Draft = at_stage t s (in_classes p done) in
    let name : HasName c = every_mid HasName done c cs (subst (Every HasName) (sym same) h.names) in
    let unlike = between AreUnlike done c cs (subst (EveryPair AreUnlike) (sym same) h.unlike) in
    let all : length (done ++ c ∷ cs) ≤ 64 = subst (λ (xs : List Class). length xs ≤ 64) (sym same) h.few in
    let left : length done < 64 = omega (arith, length-append done (c ∷ cs), all) in
    plain_verdict d _ (codes "class") (c.name ∷ kind_word c.kind ∷ []) (refl, (plain_name c.name name, (plain_kind c.kind, tt))) refl
    (at_true stage.Classes d _ (open_here t s stage.Classes (in_classes p done) some (omega (arith, up)) (omega arith) up refl)
    ∙ (ap (judged (class_verdict d)) (class_back c name) ∙ class_put d c (other (length done) 64 left) (none_named 1 done c.name unlike)))

pub classes_read : (t : Bool) (p : Project) → IsRecord p → (rest : List (List (List ℕ))) (e : Draft)
    → ((s : Stage) → 2 ≤ rank s → rank s ≤ 3 → AreRead (at_stage t s (in_classes p p.classes)) (map joined rest) e)
    → (todo done : List Class) → done ++ todo ≡ p.classes → (s : Stage) → 2 ≤ rank s → rank s ≤ 3
    → AreRead (at_stage t s (in_classes p done)) (map joined (map class_line todo ++ rest)) e
classes_read t p h rest e k [] done same s some up =
    subst (λ (cs : List Class). AreRead (at_stage t s (in_classes p cs)) (map joined rest) e) (sym same ∙ append-nil done) (k s some up)
classes_read t p h rest e k (c ∷ cs) done same s some up = (
  at_stage t stage.Classes (in_classes p (done ++ c ∷ [])),
  class_step t p h done c cs same s some up,
  classes_read t p h rest e k cs (done ++ c ∷ []) (append_assoc done (c ∷ []) cs ∙ same) stage.Classes (omega arith) (omega arith),
)

-- ---- rules
abbrev pub HasPlain : Bool → Project → Type 0
HasPlain t p = t ≡ false → HasNoSubtype p

pub record IsWrittenRow (t : Bool) (cs : List Class) (r : Row) : Type 0 where
  pub name : List ℕ
  pub named : is_name name ≡ true
  pub dest : Option SideForm
  pub more : List (List ℕ)
  pub plain : Every IsPlain more
  pub fields : side_field cs r.origin ++ side_field cs r.dest ≡ sided name r.origin.subtype ∷ more
  pub from_origin : number_from 1 cs name ≡ Some r.origin.class
  pub second : second_of t more ≡ Some dest
  pub bound : dest_bound dest ≡ Some r.dest.subtype
  pub from_dest : dest_in cs dest r.dest.subtype ≡ Some r.dest

pub bound_back : (s : Option ℕ) → IfSome s (λ (n : ℕ). n ≤ 255) → bound_in (option_map (λ (n : ℕ). pos n) s) ≡ Some s
bound_back None h = refl
bound_back (Some n) h = ap (λ o. option_map (λ (x : ℕ). Some x) o) (natural_back 0 255 n (omega arith) h)

-- a side that is none
none_bound : (s : Option ℕ) → same_subtype s None ≡ true → s ≡ None
none_bound None e = refl
none_bound (Some n) e = absurd cc

none_side : (A : Side) → same_side A no_side ≡ true → A ≡ no_side
none_side A e =
    let b = and_parts (A.class == 0) (same_subtype A.subtype None) e in
    let class : A.class ≡ 0 = grind (arith, nat_tests, b.0) in
    let subtype = none_bound A.subtype b.1 in
    λ i. record { class = class i; subtype = subtype i }

side_there : (cs : List Class) (name : List ℕ) (A : Side) → number_from 1 cs name ≡ Some A.class
    → side_in cs (with_subtype name A.subtype) A.subtype ≡ Some A
side_there cs name A e = ap (λ o. option_map (λ (n : ℕ). record { class = n; subtype = A.subtype }) o) e

pub row_written : (t : Bool) (cs : List Class) (r : Row) → EveryPair AreUnlike cs → Every HasName cs → IsSmall r.dest
    → (t ≡ false → r.dest.subtype ≡ None) → is_fit cs r ≡ true → IsWrittenRow t cs r
row_written t cs r unlike names small untyped fit =
    let b = and_parts (is_kind (kind_of_class cs r.origin.class) (origin_of r.kind)) (fits_dest cs r (dest_of r.kind)) fit in
    let o = kind_class cs r.origin.class (origin_of r.kind) unlike names (kind_there _ (origin_of r.kind) b.0) in
    by o (dest_of r.kind) b.1
  where
    by : IsThere cs r.origin.class → (k : Option Kind) → fits_dest cs r k ≡ true → IsWrittenRow t cs r
    by o None e =
        let none = none_side r.dest e in
        record {
          name = o.class.name;
          named = o.name;
          dest = None;
          more = [];
          plain = tt;
          fields = ap (λ (A : Side). side_field cs r.origin ++ side_field cs A) none
              ∙ ap (λ x. sided_in x r.origin.subtype ++ []) o.place;
          from_origin = o.number;
          second = refl;
          bound = ap (λ (A : Side). Some A.subtype) (sym none);
          from_dest = ap (λ (A : Side). Some A) (sym none);
        }
    by o (Some k) e =
        let b = and_parts (is_kind (kind_of_class cs r.dest.class) k) (are_apart r.dest r.origin) e in
        let d = kind_class cs r.dest.class k unlike names (kind_there _ k b.0) in
        record {
          name = o.class.name;
          named = o.name;
          dest = Some (with_subtype d.class.name r.dest.subtype);
          more = sided d.class.name r.dest.subtype ∷ [];
          plain = (plain_sided d.class.name r.dest.subtype d.name, tt);
          fields = ap (λ x. sided_in x r.origin.subtype ++ side_field cs r.dest) o.place
              ∙ ap (λ x. sided o.class.name r.origin.subtype ∷ sided_in x r.dest.subtype) d.place;
          from_origin = o.number;
          second = ap (λ x. option_map (λ (a : SideForm). Some a) x) (side_back t d.class.name r.dest.subtype d.name untyped small);
          bound = bound_back r.dest.subtype small;
          from_dest = side_there cs d.class.name r.dest d.number;
        }

pub row_back : (cs : List Class) (q : RuleForm) (s t : Option ℕ) (A B : Side) → side_in cs q.origin s ≡ Some A
    → dest_in cs q.dest t ≡ Some B → is_fit cs (row q.kind A B) ≡ true → row_of cs q s t ≡ Some (row q.kind A B)
row_back cs q s t A B a b c =
    ap (λ o. bind o (λ (x : Side). bind (dest_in cs q.dest t) (λ (y : Side). if is_fit cs (row q.kind x y) then Some (row q.kind x y) else
    None))) a
    ∙ (ap (λ o. bind o (λ (y : Side). if is_fit cs (row q.kind A y) then Some (row q.kind A y) else None)) b
    ∙ ap (λ v. if v then Some (row q.kind A B) else None) c)

pub rule_put : (d : Draft) (q : RuleForm) (n : ℕ) (s t : Option ℕ) (r : Row) → natural 1 256 q.number ≡ Some n
    → bound_in q.origin.subtype ≡ Some s → dest_bound q.dest ≡ Some t → row_of d.project.classes q s t ≡ Some r
    → ltb (last_in (λ (x : InForce). x.number) d.project.rules) n ≡ true → is_there d.project.rules r ≡ false
    → rule_verdict d q ≡
    Ok (record d { stage = stage.Rules; project = record d.project { rules = d.project.rules ++ record { number = n; row = r } ∷ [] } })
rule_put d q n s t r a u v b c e =
    ap (rule_numbered d q) a ∙ (ap (λ o. rule_bound d q n o (dest_bound q.dest)) u ∙ (ap (λ o. rule_bound d q n (Some s) o) v
    ∙ (ap (rule_in d n) b ∙ rw (c, e) refl)))

pub rule_step : (t : Bool) (p : Project) → IsRecord p → HasPlain t p → (done : List InForce) (q : InForce) (qs : List InForce) → done ++ q ∷ qs ≡ p.rules
    → (s : Stage)
    → 2 ≤ rank s → rank s ≤ 4
    → IsVerdict (at_stage t s (in_rules p done)) (joined (rule_line p.classes q)) (Ok (at_stage t stage.Rules (in_rules p (done ++ q ∷ []))))
rule_step t p h untyped done q qs same s some up =
    let d : Draft = at_stage t s (in_rules p done) in
    let m : Draft = at_stage t stage.Rules (in_rules p (done ++ q ∷ [])) in
    let n = every_mid IsNumbered done q qs (subst (Every IsNumbered) (sym same) h.numbers) in
    let fit = every_mid (λ (x : InForce). is_fit p.classes x.row ≡ true) done q qs
    (subst (Every (λ (x : InForce). is_fit p.classes x.row ≡ true)) (sym same) h.fit) in
    let apart = between (λ (x y : InForce). is_row x.row y.row ≡ false) done q qs
    (subst (EveryPair (λ (x y : InForce). is_row x.row y.row ≡ false)) (sym same) h.apart) in
    let rising = between (λ (x y : InForce). x.number < y.number) done q qs
    (subst (EveryPair (λ (x y : InForce). x.number < y.number)) (sym same) h.rules) in
    let small = every_mid HasSmallSides done q qs (subst (Every HasSmallSides) (sym same) h.sides) in
    let bare : t ≡ false → HasPlainSides q =
    λ e. every_mid HasPlainSides done q qs (subst (Every HasPlainSides) (sym same) (untyped e).rules) in
    let w = row_written t p.classes q.row h.unlike h.names small.dest (λ e. (bare e).dest) fit in
    let origin : SideForm = with_subtype w.name q.row.origin.subtype in
    let first = sided w.name q.row.origin.subtype in
    let form : RuleForm = record { number = pos q.number; kind = q.row.kind; origin = origin; dest = w.dest } in
    let read = rule_found t (decimal q.number) (word_of q.row.kind) first w.more (pos q.number) q.row.kind origin w.dest
    (natural_read q.number (omega (arith, n.1))) (found q.row.kind) w.second
    (side_back t w.name q.row.origin.subtype w.named (λ e. (bare e).origin) small.origin) in
    let less = below _ _ (last_below (λ (x : InForce). x.number) done q.number (omega (arith, n.0)) rising) in
    let line = plain_verdict d m (codes "rule") (decimal q.number ∷ word_of q.row.kind ∷ first ∷ w.more)
    (refl, (plain_decimal q.number, (plain_rule q.row.kind, (plain_sided w.name q.row.origin.subtype w.named, w.plain)))) refl
    (at_true stage.Rules d _ (open_here t s stage.Rules (in_rules p done) some (omega (arith, up)) (omega arith) up refl)
    ∙ (ap (judged (rule_verdict d)) read
    ∙ rule_put d form q.number q.row.origin.subtype q.row.dest.subtype q.row (natural_back 1 256 q.number n.0 n.1)
    (bound_back q.row.origin.subtype small.origin) w.bound
    (row_back p.classes form q.row.origin.subtype q.row.dest.subtype q.row.origin q.row.dest
    (side_there p.classes w.name q.row.origin w.from_origin) w.from_dest fit) less
    (none_any (λ (x : InForce). is_row x.row q.row) done apart))) in
    subst (λ (ns : List (List ℕ)). IsVerdict d (joined (codes "rule" ∷ decimal q.number ∷ word_of q.row.kind ∷ ns)) (Ok m))
    (sym w.fields) line

pub rules_read : (t : Bool) (p : Project) → IsRecord p → HasPlain t p → (rest : List (List (List ℕ))) (e : Draft)
    → ((s : Stage) → 2 ≤ rank s → rank s ≤ 4 → AreRead (at_stage t s (in_rules p p.rules)) (map joined rest) e)
    → (todo done : List InForce) → done ++ todo ≡ p.rules → (s : Stage) → 2 ≤ rank s → rank s ≤ 4
    → AreRead (at_stage t s (in_rules p done)) (map joined (map (rule_line p.classes) todo ++ rest)) e
rules_read t p h untyped rest e k [] done same s some up =
    subst (λ (rs : List InForce). AreRead (at_stage t s (in_rules p rs)) (map joined rest) e) (sym same ∙ append-nil done) (k s some up)
rules_read t p h untyped rest e k (q ∷ qs) done same s some up = (
  at_stage t stage.Rules (in_rules p (done ++ q ∷ [])),
  rule_step t p h untyped done q qs same s some up,
  rules_read t p h untyped rest e k qs (done ++ q ∷ []) (append_assoc done (q ∷ []) qs ∙ same) stage.Rules (omega arith) (omega arith),
)

-- ---- features
pub kind_own : (k : Kind) → same_kind k k ≡ true
kind_own kind.Point = refl
kind_own kind.Line = refl
kind_own kind.Polygon = refl

pub written : (s : Shape) → IsShapeText (shape_text s) s → length (shape_text s) ≤ 1048576 → IsReading (shape_text s) (Written s)
written s says short = (record { short = short; says = says; written = refl }, λ u k. one_shape (shape_text s) u s k says)

pub subtype_back : (n : ℕ) → n ≤ 255 → subtype_in (option_map (λ (x : ℕ). pos x) (written_subtype n)) ≡ Some n
subtype_back n h = by (n == 0) refl
  where
    by : (b : Bool) → (n == 0) ≡ b → subtype_in (option_map (λ (x : ℕ). pos x) (if b then None else Some n)) ≡ Some n
    by true e = let z : n ≡ 0 = grind (arith, nat_tests, e) in ap (λ x. Some x) (sym z)
    by false e = natural_back 0 255 n (omega arith) h

pub feature_put : (d : Draft) (f : FeatureForm) (s : Shape) (n u c : ℕ) → natural 1 (d.project.next - 1) f.handle ≡ Some n
    → subtype_in f.own.subtype ≡ Some u → number_from 1 d.project.classes f.own.name ≡ Some c
    → is_kind (kind_of_class d.project.classes c) s.kind ≡ true → ltb (last_in (λ (g : Feature). g.handle) d.project.features) n ≡ true
    → feature_verdict (Written s) d f ≡
    Ok (record d { stage = stage.Features; project = record d.project { features = d.project.features ++ feature n c u s ∷ [] } })
feature_put d f s n u c a k b i j =
    ap (feature_numbered d f.own s) a ∙ (ap (feature_typed d f.own s n) k ∙ (ap (feature_in d n u s) b ∙ rw (i, j) refl))

-- a line with a shape's text that is read
pub shape_verdict : (d m : Draft) (s : Shape) (front : List (List ℕ)) (fs : List (List ℕ)) (f : FeatureForm) → Every IsPlain front
    → front ++ fields (shape_text s) ≡ codes "feature" ∷ fs → is_open stage.Features d ≡ true → feature_of d.typed fs ≡ Some f
    → f.wkt ≡ shape_text s → IsReading (shape_text s) (Written s) → feature_verdict (Written s) d f ≡ Ok m
    → IsVerdict d (joined (front ++ shape_text s ∷ [])) (Ok m)
shape_verdict d m s front fs f plain cut o form same reading verdict =
    subst (λ (gs : List (List ℕ)). IsLineVerdict d gs (Ok m))
    (sym (fields_back front (shape_text s) plain ∙ cut)) (
      Written s,
      rw (o, form) (subst (λ (t : List ℕ). IsReading t (Written s)) (sym same) reading),
      sym (at_true stage.Features d _ o ∙ (ap (judged (feature_verdict (Written s) d)) form ∙ verdict)),
    )

pub feature_step : (t : Bool) (p : Project) → IsRecord p → HasPlain t p → (done : List Feature) (f : Feature) (fs : List Feature) → done ++ f ∷ fs ≡ p.features
    → (s : Stage)
    → 2 ≤ rank s → rank s ≤ 5 → IsVerdict (at_stage t s (in_features p done)) (joined (feature_line p.classes f))
    (Ok (at_stage t stage.Features (in_features p (done ++ f ∷ []))))
feature_step t p h untyped done f fs same s some up =
    let d : Draft = at_stage t s (in_features p done) in
    let m : Draft = at_stage t stage.Features (in_features p (done ++ f ∷ [])) in
    let g = every_mid (IsPlaced p) done f fs (subst (Every (IsPlaced p)) (sym same) h.placed) in
    let rising = between (λ (x y : Feature). x.handle < y.handle) done f fs
    (subst (EveryPair (λ (x y : Feature). x.handle < y.handle)) (sym same) h.features) in
    let c = kind_class p.classes f.class f.shape.kind h.unlike h.names g.kind in
    let top = h.next.1 in
    let wkt = shape_text f.shape in
    let bare : t ≡ false → f.subtype ≡ 0 =
    λ e. every_mid (λ (x : Feature). x.subtype ≡ 0) done f fs
    (subst (Every (λ (x : Feature). x.subtype ≡ 0)) (sym same) (untyped e).features) in
    let own : SideForm = with_subtype c.class.name (written_subtype f.subtype) in
    let field = sided c.class.name (written_subtype f.subtype) in
    let form : FeatureForm = record { handle = pos f.handle; own = own; wkt = wkt } in
    let o = open_here t s stage.Features (in_features p done) some (omega (arith, up)) (omega arith) up refl in
    let read = feature_found t (decimal f.handle) field wkt (fields wkt) (pos f.handle) own refl
    (natural_read f.handle (omega (arith, g.given, top))) (own_back t c.class.name f.subtype c.name bare g.subtype) in
    let kinds : is_kind (kind_of_class p.classes f.class) f.shape.kind ≡ true = rw g.kind (kind_own f.shape.kind) in
    let less = below _ _ (last_below (λ (x : Feature). x.handle) done f.handle (omega (arith, g.from_1)) rising) in
    let line = shape_verdict d m f.shape (codes "feature" ∷ decimal f.handle ∷ field ∷ [])
    (decimal f.handle ∷ field ∷ fields wkt)
    form (refl, (plain_decimal f.handle, (plain_sided c.class.name (written_subtype f.subtype) c.name, tt))) refl o read refl
    (written f.shape (again f.shape g.shape) (shape_short f.shape g.shape))
    (feature_put d form f.shape f.handle f.subtype f.class
    (natural_back 1 (p.next - 1) f.handle g.from_1 (omega (arith, g.given))) (subtype_back f.subtype g.subtype) c.number kinds less) in
    subst (λ (ns : List (List ℕ)). IsVerdict d (joined (codes "feature" ∷ decimal f.handle ∷ (ns ++ wkt ∷ []))) (Ok m))
    (sym (ap (λ x. sided_in x (written_subtype f.subtype)) c.place)) line

pub features_read : (t : Bool) (p : Project) → IsRecord p → HasPlain t p → (rest : List (List (List ℕ))) (e : Draft)
    → ((s : Stage) → 2 ≤ rank s → rank s ≤ 5 → AreRead (at_stage t s (in_features p p.features)) (map joined rest) e)
    → (todo done : List Feature) → done ++ todo ≡ p.features → (s : Stage) → 2 ≤ rank s → rank s ≤ 5
    → AreRead (at_stage t s (in_features p done)) (map joined (map (feature_line p.classes) todo ++ rest)) e
features_read t p h untyped rest e k [] done same s some up =
    subst (λ (F : List Feature). AreRead (at_stage t s (in_features p F)) (map joined rest) e) (sym same ∙ append-nil done) (k s some up)
features_read t p h untyped rest e k (f ∷ fs) done same s some up = (
  at_stage t stage.Features (in_features p (done ++ f ∷ [])),
  feature_step t p h untyped done f fs same s some up,
  features_read t p h untyped rest e k fs (done ++ f ∷ []) (append_assoc done (f ∷ []) fs ∙ same) stage.Features (omega arith) (omega arith),
)

-- ---- dirty rectangles
pub plain_sides : (r : Rectangle) → Every IsPlain (rect_fields r)
plain_sides r = (plain_signed r.x0, (plain_signed r.y0, (plain_signed r.x1, (plain_signed r.y1, tt))))

pub side_read : (v : ℤ) → unsigned_abs v < 1125899906842624 → number (signed_decimal v) ≡ Some v
side_read v h = signed_read v (omega (arith, h))

pub rect_back : (r : Rectangle) → IsRectangle r → rect_of (rect_fields r) ≡ Some r
rect_back r h =
    let s = sides r (rectangle_true r h) in
    rect_found (signed_decimal r.x0) (signed_decimal r.y0) (signed_decimal r.x1) (signed_decimal r.y1) r.x0 r.y0 r.x1 r.y1
    (side_read r.x0 (near r.x0 s.x0)) (side_read r.y0 (near r.y0 s.y0)) (side_read r.x1 (near r.x1 s.x1)) (side_read r.y1 (near r.y1 s.y1))

pub dirty_put : (d : Draft) (r : Rectangle) → is_rectangle r ≡ true → list_any (are_nested r) d.project.dirt ≡ false
    → dirty_verdict d r ≡ Ok (record d { stage = stage.Dirt; project = record d.project { dirt = d.project.dirt ++ r ∷ [] } })
dirty_put d r a b = rw (a, b) refl

pub dirty_step : (t : Bool) (p : Project) → IsRecord p → (done : List Rectangle) (r : Rectangle) (rs : List Rectangle) → done ++ r ∷ rs ≡ p.dirt
    → (s : Stage)
    → 2 ≤ rank s → rank s ≤ 6
    → IsVerdict (at_stage t s (in_dirt p done)) (joined (dirty_line r)) (Ok (at_stage t stage.Dirt (in_dirt p (done ++ r ∷ []))))
dirty_step t p h done r rs same s some up =
    let d : Draft = at_stage t s (in_dirt p done) in
    let rectangle = every_mid IsRectangle done r rs (subst (Every IsRectangle) (sym same) h.rectangles) in
    let loose = between AreLoose done r rs (subst (EveryPair AreLoose) (sym same) h.loose) in
    let free = every_map (λ (x : Rectangle). AreLoose x r) (λ (x : Rectangle). are_nested r x ≡ false)
    (λ x l. or_from (is_within r x) (is_within x r) l.right l.left) done loose in
    plain_verdict d _ (codes "dirty") (rect_fields r) (refl, plain_sides r) refl
    (at_true stage.Dirt d _ (open_here t s stage.Dirt (in_dirt p done) some (omega (arith, up)) (omega arith) up refl)
    ∙ (ap (judged (dirty_verdict d)) (rect_back r rectangle)
    ∙ dirty_put d r (rectangle_true r rectangle) (none_any (are_nested r) done free)))

pub dirt_read : (t : Bool) (p : Project) → IsRecord p → (rest : List (List (List ℕ))) (e : Draft)
    → ((s : Stage) → 2 ≤ rank s → rank s ≤ 6 → AreRead (at_stage t s (in_dirt p p.dirt)) (map joined rest) e)
    → (todo done : List Rectangle) → done ++ todo ≡ p.dirt → (s : Stage) → 2 ≤ rank s → rank s ≤ 6
    → AreRead (at_stage t s (in_dirt p done)) (map joined (map dirty_line todo ++ rest)) e
dirt_read t p h rest e k [] done same s some up =
    subst (λ (D : List Rectangle). AreRead (at_stage t s (in_dirt p D)) (map joined rest) e) (sym same ∙ append-nil done) (k s some up)
dirt_read t p h rest e k (r ∷ rs) done same s some up = (
  at_stage t stage.Dirt (in_dirt p (done ++ r ∷ [])),
  dirty_step t p h done r rs same s some up,
  dirt_read t p h rest e k rs (done ++ r ∷ []) (append_assoc done (r ∷ []) rs ∙ same) stage.Dirt (omega arith) (omega arith),
)
