-- What is read is spelled as it is written: a project has one text.
--
-- IsNextLine d l m     the line l brings the draft d to m, and is spelled as the line that m has more is written
use Rattle.std.proofs.Common.{ℕ, ℤ, pos, ◌≡◌, ◌<◌, ◌≤◌, ◌-◌, ◌==◌, ltb, Bool, true, false, ◌&&◌, ◌||◌, not, List, [], ◌∷◌, ◌++◌, map, append-nil, append_assoc, length, Option, Some, None, Ok, Err, if◌then◌else◌, refl, sym, ap, subst, ◌∙◌, arith}
use Rattle.std.specs.Prelude.{IfOk, IfSome, is_some, codes, flat_map, unsigned_abs, decimal}
use Rattle.std.specs.List.{list_all, list_any}
use Rattle.std.specs.Option.{option_map}
use Rattle.std.proofs.lemmas.Bool.{and_parts, or_parts, not-false}
use Rattle.std.proofs.lemmas.Int.{ints}
use Rattle.std.proofs.lemmas.List.Folds.{flat_map-map}
use Rattle.plane_terms.specs.Point.{InReach}
use Rattle.plane_terms.specs.Rectangle.{Rectangle}
use Rattle.plane_terms.specs.Cell.{Cell}
use Rattle.wkt_terms.specs.Shapes.{shape_text}
use Rattle.rule_words.specs.Table.{word_of}
use Rattle.line_terms.specs.Forms.{kind_word}
use Rattle.topology_terms.specs.Broken.{Row}
use Rattle.topology_terms.specs.Feature.{Class, Feature, Side, no_side, feature_of as feature}
use Rattle.topology_terms.specs.Lookups.{class_at, number_from, kind_of_class}
use Rattle.topology_terms.specs.Causes.{is_kind, is_there}
use Rattle.topology_terms.specs.Project.{Project, InForce, rule_at}
use Rattle.project_terms.specs.declared.stage.Stage.TheVariants as stage
use Rattle.project_terms.specs.declared.project_cause.ProjectCause.TheVariants as cause
use Rattle.project_terms.specs.Lines.{number, fields, joined, natural}
use Rattle.project_terms.specs.Written.{sided, sided_in, side_field, written_subtype, mark_word, extent_word, rect_fields, cell_fields, title, next_line, class_line, rule_line, feature_line, dirty_line, error_line, cell_line, last_line, lines_of, line_text, text_of}
use Rattle.project_terms.specs.Drafts.{Draft, start, rank, may_follow, is_open, is_cell_open, takes_cell, with_cell, last_in, is_last_key, is_rectangle, is_half}
use Rattle.project_terms.specs.Verdicts.{Verdict, WktReading, Unwritten, Refused, Written, RuleForm, FeatureForm, ErrorForm, SideForm, is_0, title_of, title_verdict, is_none, number_of, class_of, side_in, dest_in, bound_in, dest_bound, subtype_in, rule_of, row_of, feature_of, rect_of, error_of, cell_of, next_verdict, next_numbered, class_verdict, rule_verdict, rule_numbered, rule_bound, rule_in, feature_verdict, feature_numbered, feature_typed, feature_in, are_nested, dirty_verdict, error_verdict, error_in, error_ruled, cell_verdict, line_verdict, wkt_of}
use Rattle.project_terms.specs.Texts.{AreRead, IsVerdict, IsReading, IsRead, ended}
use Rattle.project_text.proofs.FieldForms.{joined_fields}
use Rattle.project_text.proofs.Numerals.{number_written}
use Rattle.project_text.proofs.Rects.{sides}
use Rattle.project_text.proofs.Spelled.{four, format, format_word, title_fields, title_said, none_said, number_said, class_said, IsRectLine, rect_said, error_said, cell_said}
use Rattle.project_text.proofs.Named.{natural_said, named_class, side_named, bound_is, subtype_is, row_said}
use Rattle.project_text.proofs.Sides.{IsSpelled, IsSideField}
use Rattle.project_text.proofs.SideLines.{IsSecond, rule_said, feature_said}
use Rattle.project_text.proofs.Staged.{MayStand, may_stand, opened, ArePlain, IsKept, start_kept}
use Rattle.project_text.proofs.Kept.{shape_read, verdict_kept, read_kept}
use Rattle.project_text.proofs.LineCases.{line_by, at_ok, judged_ok, said_ok, if_ok}
use Rattle.project_text.proofs.Sound.{before_title, open_next}
use Rattle.project_text.proofs.LinesTo.{body, lines_to, lines_in, lines_all, none_said_yet, class_more, rule_more, feature_more, dirty_more, errors_more, error_more, cell_more}

-- ---- names and numbers
natural_written : (f : List ℕ) (z : ℤ) (n : ℕ) → number f ≡ Some z → z ≡ pos n → n < 1125899906842624 → f ≡ decimal n
natural_written f z n e same small =
    let k : number f ≡ Some (pos n) = e ∙ ap Some same in sym (number_written f (pos n) k small)

sided_written : (field name : List ℕ) (s : Option ℕ) → IsSpelled field name (option_map (λ (n : ℕ). pos n) s)
    → IfSome s (λ (n : ℕ). n ≤ 255) → field ≡ sided name s
sided_written field name None h small = h
sided_written field name (Some n) (digits, cut, e) small =
    cut ∙ ap (λ x. name ++ 58 ∷ x) (natural_written digits (pos n) n e refl (omega (arith, small)))

spelled_as : (field name : List ℕ) (o : Option ℤ) (s : Option ℕ) → IsSpelled field name o → o ≡ option_map (λ (n : ℕ). pos n) s
    → IfSome s (λ (n : ℕ). n ≤ 255) → field ≡ sided name s
spelled_as field name o s h e small = sided_written field name s (subst (IsSpelled field name) e h) small

side_written : (cs : List Class) (typed : Bool) (field : List ℕ) (a : SideForm) (s : Option ℕ) (A : Side) → IsSideField typed field a
    → bound_in a.subtype ≡ Some s → side_in cs a s ≡ Some A → side_field cs A ≡ field ∷ []
side_written cs typed field a s A l b e =
    let n = side_named cs a s A e in
    let k = bound_is a.subtype s b in
    let same = spelled_as field a.name a.subtype s l.spelled k.0 k.1 in
    ap (λ c. sided_in c A.subtype) n.place ∙ (ap (λ x. sided n.class.name x ∷ []) n.subtype
    ∙ (ap (λ x. sided x s ∷ []) n.named ∙ ap (λ x. x ∷ []) (sym same)))

second_written : (cs : List Class) (typed : Bool) (fs : List (List ℕ)) (o : Option SideForm) (s : Option ℕ) (A : Side)
    → IsSecond typed fs o → dest_bound o ≡ Some s → dest_in cs o s ≡ Some A → side_field cs A ≡ fs
second_written cs typed fs None s A l b e =
    let none : no_side ≡ A = cc in subst (λ (B : Side). side_field cs B ≡ []) none refl ∙ sym l
second_written cs typed fs (Some a) s A (field, one, l) b e = side_written cs typed field a s A l b e ∙ sym one

own_written : (cs : List Class) (typed : Bool) (field : List ℕ) (a : SideForm) (t k : ℕ) (c : Class) → IsSideField typed field a
    → is_0 a.subtype ≡ false → subtype_in a.subtype ≡ Some t → class_at cs k ≡ Some c → c.name ≡ a.name
    → sided_in (class_at cs k) (written_subtype t) ≡ field ∷ []
own_written cs typed field a t k c l other b place named =
    let i = subtype_is a.subtype t b other in
    let same = spelled_as field a.name a.subtype (written_subtype t) l.spelled i.0 (small_written t i.1) in
    ap (λ x. sided_in x (written_subtype t)) place ∙ (ap (λ x. sided x (written_subtype t) ∷ []) named ∙ ap (λ x. x ∷ []) (sym same))
  where
    small_written : (t : ℕ) → t ≤ 255 → IfSome (written_subtype t) (λ (n : ℕ). n ≤ 255)
    small_written t h = by (t == 0)
      where
        by : (b : Bool) → IfSome (if b then None else Some t) (λ (n : ℕ). n ≤ 255)
        by true = tt
        by false = h

pub near : (v : ℤ) → InReach v → unsigned_abs v < 1125899906842624
near v h = omega (arith, ints, h.low, h.high)

rect_written : (fs : List (List ℕ)) (r : Rectangle) → IsRectLine fs r → is_rectangle r ≡ true → fs ≡ rect_fields r
rect_written fs r l t =
    let s = sides r t in
    let a = number_written l.x0 r.x0 l.left (near r.x0 s.x0) in
    let b = number_written l.y0 r.y0 l.below (near r.y0 s.y0) in
    let c = number_written l.x1 r.x1 l.right (near r.x1 s.x1) in
    let d = number_written l.y1 r.y1 l.above (near r.y1 s.y1) in
    l.spelled ∙ rw (a, b, c, d) refl

-- ---- each line
pub record IsNextLine (d : Draft) (l : List ℕ) (m : Draft) : Type 0 where
  pub line : List (List ℕ)
  pub spelled : l ≡ joined line
  pub last : lines_to m.typed m.stage m.project ≡ lines_to d.typed d.stage d.project ++ line ∷ []

line_same : (w x : List ℕ) (fs gs : List (List ℕ)) → w ≡ x → fs ≡ gs → joined (w ∷ fs) ≡ joined (x ∷ gs)
line_same w x fs gs e k = ap (λ t. joined (t ∷ fs)) e ∙ ap (λ t. joined (x ∷ t)) k

-- in a section
put : (d m : Draft) (l : List ℕ) (line : List (List ℕ)) → MayStand d.stage m.stage → 3 ≤ rank m.stage → rank m.stage ≤ 7
    → m.typed ≡ d.typed → m.project.next ≡ d.project.next → l ≡ joined line → body m.project ≡ body d.project ++ line ∷ [] → IsNextLine d l m
put d m l line s some on typed next spelled more = record {
  line = line;
  spelled = spelled;
  last = lines_in m.typed m.stage m.project (omega (arith, some)) on
      ∙ (ap (λ t. title (format t) ∷ next_line m.project.next ∷ body m.project) typed
      ∙ (ap (λ n. title (format d.typed) ∷ next_line n ∷ body m.project) next
      ∙ (ap (λ t. title (format d.typed) ∷ next_line d.project.next ∷ t) more
      ∙ ap (λ t. t ++ line ∷ []) (sym (lines_in d.typed d.stage d.project (s.begun some) s.on)))));
}

title_next : (d : Draft) (w : List ℕ) (fs : List (List ℕ)) (t : Bool) → w ≡ codes "topology" → is_open stage.Title d ≡ true
    → title_of fs ≡ Some t → IsNextLine d (joined (w ∷ fs)) (record d { stage = stage.Title; typed = t })
title_next d w fs t k o e =
    let at : d.stage ≡ stage.Start = before_title d.stage (and_parts _ _ o).0 in
    let said = title_said fs t e in
    record {
      line = title (format t);
      spelled = line_same w (codes "topology") fs (format_word t ∷ []) k said ∙ ap joined (sym (title_fields t));
      last = ap (λ s. lines_to d.typed s d.project ++ title (format t) ∷ []) (sym at);
    }

next_next : (d : Draft) (w : List ℕ) (fs : List (List ℕ)) (z : ℤ) → IsKept d → w ≡ codes "next" → is_open stage.Next d ≡ true
    → number_of fs ≡ Some z
    → IfOk (next_verdict d z) (IsNextLine d (joined (w ∷ fs)))
next_next d w fs z h k o e = by (natural 1 4294967295 z) refl
  where
    at : d.stage ≡ stage.Title
    at = open_next d o

    by : (n : Option ℕ) → natural 1 4294967295 z ≡ n → IfOk (next_numbered d n) (IsNextLine d (joined (w ∷ fs)))
    by None i = tt
    by (Some n) i =
        let b = natural_said 1 4294967295 z n i in
        let t : rank d.stage ≤ 2 = (let r : rank d.stage ≡ 1 = ap rank at in omega (arith, r)) in
        let s = h.staged in
        let f = number_said fs z e in
        let none = none_said_yet d.project.classes d.project.rules d.project.features d.project.dirt d.project.entries (s.classes t)
        (s.rules (omega (arith, t))) (s.features (omega (arith, t))) (s.dirt (omega (arith, t))) (s.entries (omega (arith, t))) in
        record {
          line = next_line n;
          spelled = line_same w (codes "next") fs (decimal n ∷ []) k
              (f.1 ∙ ap (λ t. t ∷ []) (natural_written f.0 z n f.2 b.0 (omega (arith, b.2))));
          last = ap (λ t. title (format d.typed) ∷ next_line n ∷ t) none
              ∙ ap (λ s. lines_to d.typed s d.project ++ next_line n ∷ []) (sym at);
        }

class_next : (d : Draft) (w : List ℕ) (fs : List (List ℕ)) (c : Class) → IsKept d → w ≡ codes "class" → is_open stage.Classes d ≡ true
    → class_of fs ≡ Some c → IfOk (class_verdict d c) (IsNextLine d (joined (w ∷ fs)))
class_next d w fs c h k o e =
    if_ok (length d.project.classes == 64) (Err cause.Range) _ (IsNextLine d (joined (w ∷ fs))) (λ i. tt)
    (λ i. if_ok (is_some (number_from 1 d.project.classes c.name)) (Err cause.Order) _ (IsNextLine d (joined (w ∷ fs))) (λ j. tt) (λ j.
    let m = (opened stage.Classes d o).0 in
    let u = m.up in
    let s = h.staged in
    let said = (class_said fs c e).1 in
    put d _ (joined (w ∷ fs)) (class_line c) m (omega arith) (omega arith) refl refl
    (line_same w (codes "class") fs (c.name ∷ kind_word c.kind ∷ []) k said)
    (class_more d.project.classes c d.project.rules d.project.features d.project.dirt d.project.entries (s.rules u)
    (s.features (omega (arith, u))) (s.dirt (omega (arith, u))) (s.entries (omega (arith, u))))))

rule_next : (d : Draft) (w : List ℕ) (fs : List (List ℕ)) (q : RuleForm) → IsKept d → w ≡ codes "rule" → is_open stage.Rules d ≡ true
    → rule_of d.typed fs ≡ Some q → IfOk (rule_verdict d q) (IsNextLine d (joined (w ∷ fs)))
rule_next d w fs q h k o e = numbered (natural 1 256 q.number) refl
  where
    spelled : (n : ℕ) (s t : Option ℕ) (r : Row) → natural 1 256 q.number ≡ Some n → bound_in q.origin.subtype ≡ Some s
        → dest_bound q.dest ≡ Some t → row_of d.project.classes q s t ≡ Some r
        → joined (w ∷ fs) ≡ joined (rule_line d.project.classes (record { number = n; row = r }))
    spelled n s t r i u v j =
        let cs = d.project.classes in
        let b = natural_said 1 256 q.number n i in
        let l = rule_said d.typed fs q e in
        let x = row_said cs q s t r j in
        let number = natural_written l.numeral q.number n l.number b.0 (omega (arith, b.2)) in
        let first = side_written cs d.typed l.field q.origin s r.origin l.origin u x.origin in
        let more = second_written cs d.typed l.more q.dest t r.dest l.dest v x.dest in
        let sides : l.field ∷ l.more ≡ side_field cs r.origin ++ side_field cs r.dest =
        sym (ap (λ f. f ++ side_field cs r.dest) first ∙ ap (λ f. l.field ∷ f) more) in
        line_same w (codes "rule") fs _ k
        (l.spelled ∙ (ap (λ f. f ∷ word_of q.kind ∷ l.field ∷ l.more) number
        ∙ (ap (λ c. decimal n ∷ word_of c ∷ l.field ∷ l.more) x.kind ∙ ap (λ f. decimal n ∷ word_of r.kind ∷ f) sides)))

    in_force : (n : ℕ) → natural 1 256 q.number ≡ Some n → (s t : Option ℕ) → bound_in q.origin.subtype ≡ Some s
        → dest_bound q.dest ≡ Some t → (r : Option Row) → row_of d.project.classes q s t ≡ r
        → IfOk (rule_in d n r) (IsNextLine d (joined (w ∷ fs)))
    in_force n i s t u v None j = tt
    in_force n i s t u v (Some r) j =
        if_ok (not (ltb (last_in (λ (x : InForce). x.number) d.project.rules) n) || is_there d.project.rules r)
        (Err cause.Order) _ (IsNextLine d (joined (w ∷ fs))) (λ f. tt) (λ f.
        let m = (opened stage.Rules d o).0 in
        let up = m.up in
        let x = h.staged in
        put d _ (joined (w ∷ fs)) (rule_line d.project.classes (record { number = n; row = r })) m (omega arith) (omega arith) refl refl
        (spelled n s t r i u v j)
        (rule_more d.project.classes d.project.rules (record { number = n; row = r }) d.project.features d.project.dirt d.project.entries
        (x.features up) (x.dirt (omega (arith, up))) (x.entries (omega (arith, up)))))

    bounded : (n : ℕ) → natural 1 256 q.number ≡ Some n → (s : Option (Option ℕ)) → bound_in q.origin.subtype ≡ s
        → (t : Option (Option ℕ)) → dest_bound q.dest ≡ t → IfOk (rule_bound d q n s t) (IsNextLine d (joined (w ∷ fs)))
    bounded n i None u t v = tt
    bounded n i (Some s) u None v = tt
    bounded n i (Some s) u (Some t) v = in_force n i s t u v (row_of d.project.classes q s t) refl

    numbered : (n : Option ℕ) → natural 1 256 q.number ≡ n → IfOk (rule_numbered d q n) (IsNextLine d (joined (w ∷ fs)))
    numbered None i = tt
    numbered (Some n) i = bounded n i (bound_in q.origin.subtype) refl (dest_bound q.dest) refl

feature_next : (d : Draft) (w : List ℕ) (fs : List (List ℕ)) (r : WktReading) (f : FeatureForm) → IsKept d → w ≡ codes "feature"
    → is_open stage.Features d ≡ true → feature_of d.typed fs ≡ Some f → IsReading f.wkt r
    → IfOk (feature_verdict r d f) (IsNextLine d (joined (w ∷ fs)))
feature_next d w fs Unwritten f h k o e reading = tt
feature_next d w fs Refused f h k o e reading = tt
feature_next d w fs (Written s) f h k o e reading = numbered (natural 1 (d.project.next - 1) f.handle) refl
  where
    spelled : (n t c : ℕ) → natural 1 (d.project.next - 1) f.handle ≡ Some n → subtype_in f.own.subtype ≡ Some t
        → number_from 1 d.project.classes f.own.name ≡ Some c
        → joined (w ∷ fs) ≡ joined (feature_line d.project.classes (feature n c t s))
    spelled n t c i u j =
        let cs = d.project.classes in
        let b = natural_said 1 (d.project.next - 1) f.handle n i in
        let l = feature_said d.typed fs f e in
        let top = (h.staged.next ((opened stage.Features d o).0.begun (omega arith))).1 in
        let number = natural_written l.numeral f.handle n l.number b.0 (omega (arith, b.2, top)) in
        let name = named_class cs f.own.name c j in
        let own = own_written cs d.typed l.field f.own t c name.0 l.own l.other u name.1 name.2 in
        let written = reading.0.written in
        let named : l.field ∷ f.wkt ∷ [] ≡ sided_in (class_at cs c) (written_subtype t) ++ shape_text s ∷ [] =
        ap (λ x. l.field ∷ x ∷ []) written ∙ ap (λ x. x ++ shape_text s ∷ []) (sym own) in
        l.spelled w ∙ line_same w (codes "feature") (l.numeral ∷ l.field ∷ f.wkt ∷ []) _ k
        (ap (λ x. x ∷ l.field ∷ f.wkt ∷ []) number ∙ ap (λ x. decimal n ∷ x) named)

    of_class : (n : ℕ) → natural 1 (d.project.next - 1) f.handle ≡ Some n → (t : ℕ) → subtype_in f.own.subtype ≡ Some t → (c : Option ℕ)
        → number_from 1 d.project.classes f.own.name ≡ c → IfOk (feature_in d n t s c) (IsNextLine d (joined (w ∷ fs)))
    of_class n i t u None j = tt
    of_class n i t u (Some c) j =
        if_ok (is_kind (kind_of_class d.project.classes c) s.kind) _ (Err cause.Unknown) (IsNextLine d (joined (w ∷ fs)))
        (λ x. if_ok (ltb (last_in (λ (g : Feature). g.handle) d.project.features) n) _ (Err cause.Order) (IsNextLine d (joined (w ∷ fs)))
        (λ v.
        let m = (opened stage.Features d o).0 in
        let up = m.up in
        put d _ (joined (w ∷ fs)) (feature_line d.project.classes (feature n c t s)) m (omega arith)
        (omega arith) refl refl (spelled n t c i u j)
        (feature_more d.project.classes d.project.rules d.project.features (feature n c t s) d.project.dirt
        d.project.entries (h.staged.dirt (omega (arith, up))) (h.staged.entries (omega (arith, up))))) (λ v. tt)) (λ x. tt)

    typed : (n : ℕ) → natural 1 (d.project.next - 1) f.handle ≡ Some n → (t : Option ℕ) → subtype_in f.own.subtype ≡ t
        → IfOk (feature_typed d f.own s n t) (IsNextLine d (joined (w ∷ fs)))
    typed n i None u = tt
    typed n i (Some t) u = of_class n i t u (number_from 1 d.project.classes f.own.name) refl

    numbered : (n : Option ℕ) → natural 1 (d.project.next - 1) f.handle ≡ n
        → IfOk (feature_numbered d f.own s n) (IsNextLine d (joined (w ∷ fs)))
    numbered None i = tt
    numbered (Some n) i = typed n i (subtype_in f.own.subtype) refl

dirty_next : (d : Draft) (w : List ℕ) (fs : List (List ℕ)) (r : Rectangle) → IsKept d → w ≡ codes "dirty" → is_open stage.Dirt d ≡ true
    → rect_of fs ≡ Some r → IfOk (dirty_verdict d r) (IsNextLine d (joined (w ∷ fs)))
dirty_next d w fs r h k o e =
    if_ok (not (is_rectangle r)) (Err cause.Range) _ (IsNextLine d (joined (w ∷ fs))) (λ i. tt)
    (λ i. if_ok (list_any (are_nested r) d.project.dirt) (Err cause.Order) _ (IsNextLine d (joined (w ∷ fs))) (λ j. tt) (λ j.
    let m = (opened stage.Dirt d o).0 in
    let u = m.up in
    let said = rect_written fs r (rect_said fs r e) (not-false (is_rectangle r) i) in
    put d _ (joined (w ∷ fs)) (dirty_line r) m (omega arith) (omega arith) refl refl
    (line_same w (codes "dirty") fs (rect_fields r) k said)
    (dirty_more d.project.classes d.project.rules d.project.features d.project.dirt r d.project.entries (h.staged.entries u))))

error_next : (d : Draft) (w : List ℕ) (fs : List (List ℕ)) (marked : Bool) (f : ErrorForm) → IsKept d → w ≡ mark_word marked
    → is_open stage.Errors d ≡ true → error_of fs ≡ Some f → IfOk (error_verdict marked d f) (IsNextLine d (joined (w ∷ fs)))
error_next d w fs marked f h k o e =
    handled (natural 1 (d.project.next - 1) f.subject) refl (natural 0 (d.project.next - 1) f.other) refl
  where
    top : d.project.next ≤ 4294967295
    top = (h.staged.next ((opened stage.Errors d o).0.begun (omega arith))).1

    spelled : (r a b : ℕ) → natural 1 256 f.rule ≡ Some r → natural 1 (d.project.next - 1) f.subject ≡ Some a
        → natural 0 (d.project.next - 1) f.other ≡ Some b → is_rectangle f.frame ≡ true
        → joined (w ∷ fs) ≡ joined (error_line
        (record { rule = r; subject = a; other = b; whole = f.whole; marked = marked; frame = f.frame; cells = [] }))
    spelled r a b i j l t =
        let x = natural_said 1 256 f.rule r i in
        let y = natural_said 1 (d.project.next - 1) f.subject a j in
        let z = natural_said 0 (d.project.next - 1) f.other b l in
        let s = error_said fs f e in
        let high = top in
        let rule = natural_written s.rule f.rule r s.of_rule x.0 (omega (arith, x.2)) in
        let subject = natural_written s.subject f.subject a s.of_subject y.0 (omega (arith, y.2, high)) in
        let other = natural_written s.other f.other b s.of_other z.0 (omega (arith, z.2, high)) in
        let frame = rect_written s.sides f.frame s.frame t in
        line_same w (mark_word marked) fs (decimal r ∷ decimal a ∷ decimal b ∷ extent_word f.whole ∷ rect_fields f.frame) k
        (s.spelled ∙ four _ _ _ _ _ _ _ _ _ _ rule subject other refl frame)

    ruled : (a b : ℕ) → natural 1 (d.project.next - 1) f.subject ≡ Some a → natural 0 (d.project.next - 1) f.other ≡ Some b
        → is_rectangle f.frame ≡ true → (r : Option ℕ) → natural 1 256 f.rule ≡ r
        → IfOk (error_ruled d marked f a b r) (IsNextLine d (joined (w ∷ fs)))
    ruled a b i j t None l = tt
    ruled a b i j t (Some r) l = if_ok (is_some (rule_at d.project.rules r)) _ (Err cause.Unknown) (IsNextLine d (joined (w ∷ fs)))
        (λ v. if_ok (is_last_key d.project.entries (r, a, b)) _ (Err cause.Order) (IsNextLine d (joined (w ∷ fs))) (λ v.
        put d _ (joined (w ∷ fs)) _ (opened stage.Errors d o).0 (omega arith) (omega arith) refl refl (spelled r a b l i j t)
        (errors_more d.project.classes d.project.rules d.project.features d.project.dirt d.project.entries _ _
        (error_more d.project.entries (record
        { rule = r; subject = a; other = b; whole = f.whole; marked = marked; frame = f.frame; cells = [] }) refl)))
        (λ v. tt)) (λ v. tt)

    handled : (a : Option ℕ) → natural 1 (d.project.next - 1) f.subject ≡ a → (b : Option ℕ) → natural 0 (d.project.next - 1) f.other ≡ b
        → IfOk (error_in d marked f a b) (IsNextLine d (joined (w ∷ fs)))
    handled None i b j = tt
    handled (Some a) i None j = tt
    handled (Some a) i (Some b) j =
        if_ok (not (is_rectangle f.frame) || (f.whole && not (b == 0))) (Err cause.Range) _ (IsNextLine d (joined (w ∷ fs))) (λ t. tt)
        (λ t. ruled a b i j (not-false (is_rectangle f.frame) (or_parts (not (is_rectangle f.frame)) (f.whole && not (b == 0)) t).0)
        (natural 1 256 f.rule) refl)

cell_next : (d : Draft) (w : List ℕ) (fs : List (List ℕ)) (c : Cell) → IsKept d → w ≡ codes "cell" → is_cell_open d ≡ true
    → cell_of fs ≡ Some c
    → IfOk (cell_verdict d c) (IsNextLine d (joined (w ∷ fs)))
cell_next d w fs c h k o e = if_ok (list_all is_half c) _ (Err cause.Range) (IsNextLine d (joined (w ∷ fs))) (λ t.
    let b = and_parts (may_follow d.stage stage.Errors) (takes_cell d.project.entries) o in
    let m = may_stand d.stage stage.Errors b.0 in
    let more = errors_more d.project.classes d.project.rules d.project.features d.project.dirt d.project.entries _ _
    (cell_more d.project.entries c b.1) in
    let some = m.begun (omega arith) in
    let said = (cell_said fs c e).spelled t in
    record {
      line = cell_line c;
      spelled = line_same w (codes "cell") fs (cell_fields c) k said;
      last = lines_in d.typed d.stage (record d.project { entries = with_cell d.project.entries c }) some m.on
          ∙ (ap (λ t. title (format d.typed) ∷ next_line d.project.next ∷ t) more
          ∙ ap (λ t. t ++ cell_line c ∷ []) (sym (lines_in d.typed d.stage d.project some m.on)));
    }) (λ t. tt)

end_next : (d : Draft) (w : List ℕ) (fs : List (List ℕ)) → w ≡ codes "end" → is_open stage.End d ≡ true → is_none fs ≡ true
    → IsNextLine d (joined (w ∷ fs)) (record d { stage = stage.End })
end_next d w fs k o b =
    let m = (opened stage.End d o).0 in
    let none = none_said fs b in
    record {
      line = last_line;
      spelled = line_same w (codes "end") fs [] k none;
      last = ap (λ t. t ++ last_line ∷ []) (sym (lines_in d.typed d.stage d.project (m.begun (omega arith)) m.on));
    }

line_next : (d : Draft) → IsKept d → (r : WktReading) (w : List ℕ) (fs : List (List ℕ)) → IfSome (wkt_of d (w ∷ fs)) (λ t. IsReading t r)
    → IfOk (line_verdict r d (w ∷ fs)) (IsNextLine d (joined (w ∷ fs)))
line_next d h r w fs reading =
    let P : Draft → Type 0 = IsNextLine d (joined (w ∷ fs)) in
    line_by (λ v. IfOk v P) r d w fs tt
    (λ k. at_ok stage.Title d _ P (λ o. judged_ok (title_verdict d) (title_of fs) P (λ t b. title_next d w fs t k o b)))
    (λ k. at_ok stage.Next d _ P (λ o. judged_ok (next_verdict d) (number_of fs) P (λ z e. next_next d w fs z h k o e)))
    (λ k. at_ok stage.Classes d _ P (λ o. judged_ok (class_verdict d) (class_of fs) P (λ c e. class_next d w fs c h k o e)))
    (λ k. at_ok stage.Rules d _ P (λ o. judged_ok (rule_verdict d) (rule_of d.typed fs) P (λ q e. rule_next d w fs q h k o e)))
    (λ k. at_ok stage.Features d _ P (λ o. judged_ok (feature_verdict r d) (feature_of d.typed fs) P
    (λ f e. feature_next d w fs r f h k o e (shape_read d w fs r f k o e reading))))
    (λ k. at_ok stage.Dirt d _ P (λ o. judged_ok (dirty_verdict d) (rect_of fs) P (λ q e. dirty_next d w fs q h k o e)))
    (λ k. at_ok stage.Errors d _ P (λ o. judged_ok (error_verdict false d) (error_of fs) P (λ f e. error_next d w fs false f h k o e)))
    (λ k. at_ok stage.Errors d _ P (λ o. judged_ok (error_verdict true d) (error_of fs) P (λ f e. error_next d w fs true f h k o e)))
    (λ k. if_ok (is_cell_open d) _ (Err cause.Form) P (λ o. judged_ok (cell_verdict d) (cell_of fs) P (λ c e. cell_next d w fs c h k o e))
    (λ o. tt))
    (λ k. at_ok stage.End d _ P (λ o. said_ok stage.End d (is_none fs) P (λ b. end_next d w fs k o b)))

fields_next : (d m : Draft) (r : WktReading) (fs : List (List ℕ)) → IsKept d → IfSome (wkt_of d fs) (λ t. IsReading t r)
    → Ok m ≡ line_verdict r d fs → IsNextLine d (joined fs) m
fields_next d m r [] h reading e = absurd cc
fields_next d m r (w ∷ fs) h reading e =
    let P : Verdict → Type 0 = λ x. IfOk x (IsNextLine d (joined (w ∷ fs))) in subst P (sym e) (line_next d h r w fs reading)

verdict_next : (d m : Draft) (l : List ℕ) → IsKept d → IsVerdict d l (Ok m) → IsNextLine d l m
verdict_next d m l h (r, k, e) = subst (λ (t : List ℕ). IsNextLine d t m) (joined_fields l) (fields_next d m r (fields l) h k e)

-- ---- the text
pub record AreSpelled (d : Draft) (ls : List (List ℕ)) (e : Draft) : Type 0 where
  pub lines : List (List (List ℕ))
  pub spelled : ls ≡ map joined lines
  pub all : lines_to e.typed e.stage e.project ≡ lines_to d.typed d.stage d.project ++ lines

read_spelled : (ls : List (List ℕ)) (d e : Draft) → IsKept d → AreRead d ls e → AreSpelled d ls e
read_spelled [] d e h r = record {
  lines = [];
  spelled = refl;
  all = ap (λ (x : Draft). lines_to x.typed x.stage x.project) (sym r) ∙ sym (append-nil (lines_to d.typed d.stage d.project));
}
read_spelled (l ∷ ls) d e h (m, v, r) =
    let n = verdict_next d m l h v in
    let i = read_spelled ls m e (verdict_kept d m l h v) r in
    record {
      lines = n.line ∷ i.lines;
      spelled = ap (λ x. x ∷ ls) n.spelled ∙ ap (λ xs. joined n.line ∷ xs) i.spelled;
      all = i.all ∙ (ap (λ t. t ++ i.lines) n.last ∙ append_assoc (lines_to d.typed d.stage d.project) (n.line ∷ []) i.lines);
    }

-- the text of the project in one of the two formats
pub record IsTextOf (t : List ℕ) (p : Project) : Type 0 where
  pub typed : Bool
  pub text : t ≡ text_of (format typed) p
  pub plain : typed ≡ false → ArePlain p.rules p.features

pub read_text : (t : List ℕ) (p : Project) → IsRead t p → IsTextOf t p
read_text t p (ls, d, b, over, said) =
    let s = read_spelled ls start d start_kept b.read in
    let at : lines_to d.typed d.stage d.project ≡ lines_of (format d.typed) p =
    ap (λ x. lines_to d.typed x d.project) over ∙ (lines_all d.typed d.project ∙ ap (lines_of (format d.typed)) said) in
    record {
      typed = d.typed;
      text = b.text ∙ (append-nil (flat_map ended ls) ∙ (ap (λ x. flat_map ended x) s.spelled
          ∙ (flat_map-map ended joined s.lines ∙ ap (λ x. flat_map line_text x) (sym s.all ∙ at))));
      plain = subst (λ (q : Project). d.typed ≡ false → ArePlain q.rules q.features) said (read_kept ls start d start_kept b.read).plain;
    }
