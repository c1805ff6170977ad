-- What is read is a record: each line keeps what a draft keeps of it.
use Rattle.std.proofs.Common.{ℕ, ℤ, ◌≡◌, ◌≢◌, ◌<◌, ◌≤◌, ◌-◌, ◌==◌, ltb, Bool, true, false, ◌&&◌, ◌||◌, not, List, [], ◌∷◌, ◌++◌, length, Option, Some, None, Ok, Err, refl, sym, ap, subst, ◌∙◌, arith}
use Rattle.std.specs.Prelude.{IfOk, IfSome, is_some, codes}
use Rattle.std.specs.List.{list_all, list_any}
use Rattle.std.proofs.lemmas.Bool.{not-true, not-false, and_parts, or_parts}
use Rattle.std.proofs.lemmas.Bool.Decides.{nat_tests}
use Rattle.plane_terms.proofs.ListLemmas.{every_map}
use Rattle.plane_terms.specs.Lists.{Every}
use Rattle.plane_terms.specs.Rectangle.{Rectangle, IsRectangle, is_within}
use Rattle.plane_terms.specs.HalfPlane.{IsHalfPlane}
use Rattle.plane_terms.specs.Cell.{Cell}
use Rattle.plane_terms.specs.Dirt.{AreLoose}
use Rattle.text_terms.specs.Fields.{is_name}
use Rattle.topology_terms.specs.Broken.{Row}
use Rattle.topology_terms.specs.Feature.{Class, Feature, Side, no_side, feature_of as feature}
use Rattle.topology_terms.specs.Entry.{Entry, key_of}
use Rattle.topology_terms.specs.Lookups.{number_from, kind_of_class}
use Rattle.topology_terms.specs.Causes.{is_kind, is_fit, is_row, is_there}
use Rattle.topology_terms.specs.Project.{Project, InForce, rule_at}
use Rattle.feature_store.specs.Keeps.{IsStore}
use Rattle.feature_store.proofs.Keeping.{none_of}
use Rattle.feature_store.proofs.Keeping as store
use Rattle.project_terms.specs.declared.stage.Stage.{Stage}
use Rattle.project_terms.specs.declared.stage.Stage.TheVariants as stage
use Rattle.project_terms.specs.declared.project_cause.ProjectCause.TheVariants as cause
use Rattle.project_terms.specs.Lines.{fields, natural}
use Rattle.project_terms.specs.Records.{IsNumbered, IsSmall, HasSmallSides, HasPlainSides, IsPlaced, IsError, IsRecord}
use Rattle.project_terms.specs.Drafts.{Draft, start, rank, may_follow, is_open, is_cell_open, is_bare, takes_cell, wants_cell, with_cell, last_in, is_last_key, is_rectangle, is_half}
use Rattle.project_terms.specs.Verdicts.{Verdict, WktReading, Unwritten, Refused, Written, RuleForm, FeatureForm, ErrorForm, SideForm, title_of, title_verdict, is_none, number_of, class_of, rule_of, row_of, feature_of, rect_of, error_of, cell_of, next_verdict, next_numbered, class_verdict, rule_verdict, rule_numbered, rule_bound, rule_in, bound_in, dest_bound, side_in, dest_in, feature_verdict, feature_numbered, feature_typed, feature_in, subtype_in, are_nested, dirty_verdict, error_verdict, error_in, error_ruled, with_error, cell_verdict, line_verdict, wkt_of}
use Rattle.project_terms.specs.Texts.{AreRead, IsVerdict, IsReading, IsRead}
use Rattle.project_text.proofs.Ends.{every_end, pairs_end, none_pass, ascending_end}
use Rattle.project_text.proofs.Spelled.{class_said, cell_said}
use Rattle.project_text.proofs.SideLines.{IsSecond, rule_said, feature_said}
use Rattle.project_text.proofs.Named.{natural_said, kind_there, side_named, bound_is, subtype_is, row_said}
use Rattle.project_text.proofs.Halves.{is_valid}
use Rattle.project_text.proofs.Rects.{rectangle_there}
use Rattle.project_text.proofs.LineCases.{line_by, at_ok, judged_ok, said_ok, if_ok}
use Rattle.project_text.proofs.Sound.{open_next}
use Rattle.project_text.proofs.Sound as sound
use Rattle.project_text.proofs.Staged.{may_stand, opened, restaged, AreClasses, AreRules, none_plain, IsStarted, HasCells, AreFilled, AreErrors, head_of, IsKept, no_rules, no_features, no_errors, start_kept}

-- ---- lines that say nothing else
said_kept : (s : Stage) (d : Draft) → IsKept d → is_open s d ≡ true → rank s ≢ 2 → IsKept (record d { stage = s })
said_kept s d h o n =
    let b = opened s d o in
    record {
      staged = restaged d.stage s d.project b.0 n h.staged;
      classes = h.classes;
      rules = h.rules;
      features = h.features;
      plain = h.plain;
      dirt = h.dirt;
      errors = h.errors;
      over = λ e. b.1;
    }

-- ---- the format
title_kept : (d : Draft) → IsKept d → is_open stage.Title d ≡ true → (t : Bool) → IfOk (title_verdict d t) IsKept
title_kept d h o t =
    let b = opened stage.Title d o in
    let up : rank d.stage ≤ 1 = b.0.up in
    let rules = h.staged.rules (omega (arith, up)) in
    let features = h.staged.features (omega (arith, up)) in
    record {
      staged = restaged d.stage stage.Title d.project b.0 (λ n. absurd (omega (arith, n))) h.staged;
      classes = h.classes;
      rules = h.rules;
      features = h.features;
      plain = λ e. none_plain d.project.rules d.project.features rules features;
      dirt = h.dirt;
      errors = h.errors;
      over = λ e. b.1;
    }

-- ---- the next handle
next_kept : (d : Draft) → IsKept d → is_open stage.Next d ≡ true → (z : ℤ) → IfOk (next_verdict d z) IsKept
next_kept d h o z = by (natural 1 4294967295 z) refl
  where
    at_title : rank d.stage ≤ 2
    at_title = let b = opened stage.Next d o in b.0.up

    by : (n : Option ℕ) → natural 1 4294967295 z ≡ n → IfOk (next_numbered d n) IsKept
    by None e = tt
    by (Some n) e =
        let b = natural_said 1 4294967295 z n e in
        let t = at_title in
        let rules = h.staged.rules (omega (arith, t)) in
        let features = h.staged.features (omega (arith, t)) in
        let entries = h.staged.entries (omega (arith, t)) in
        record {
          staged = record {
            next = λ k. (b.1, b.2);
            classes = λ k. h.staged.classes t;
            rules = λ k. rules;
            features = λ k. features;
            dirt = λ k. h.staged.dirt (omega (arith, t));
            entries = λ k. entries;
          };
          classes = h.classes;
          rules = h.rules;
          features = no_features _ d.project.features features;
          plain = h.plain;
          dirt = h.dirt;
          errors = no_errors _ d.project.entries entries;
          over = λ k. absurd (omega (arith, k));
        }

-- ---- a class
class_put : (cs : List Class) (c : Class) → AreClasses cs → is_name c.name ≡ true → (length cs == 64) ≡ false
    → number_from 1 cs c.name ≡ None
    → AreClasses (cs ++ c ∷ [])
class_put cs c h name few free =
    let before : IsStore cs [] 1 = record {
      few = h.few;
      names = h.unlike;
      ascending = tt;
      given = tt;
      kinds = tt;
      simple = tt;
      from_1 = omega arith;
    } in
    let left : length cs ≢ 64 = λ e. let t : (length cs == 64) ≡ true = grind (arith, nat_tests, e) in cc in
    let after = store.class_kept cs [] 1 c c.name refl free left before in
    record { few = after.few; names = every_end (λ (d : Class). is_name d.name ≡ true) cs c h.names name; unlike = after.names }

class_kept : (d : Draft) → IsKept d → is_open stage.Classes d ≡ true → (c : Class) → is_name c.name ≡ true → IfOk (class_verdict d c) IsKept
class_kept d h o c name = if_ok (length d.project.classes == 64) (Err cause.Range) _ IsKept (λ e. tt)
    (λ e. if_ok (is_some (number_from 1 d.project.classes c.name)) (Err cause.Order) _ IsKept (λ k. tt) (λ k.
    let s = restaged d.stage stage.Classes d.project (opened stage.Classes d o).0 (λ n. absurd (omega (arith, n))) h.staged in
    let rules = s.rules (omega arith) in
    let features = s.features (omega arith) in
    let entries = s.entries (omega arith) in
    record {
      staged = record {
        next = s.next;
        classes = λ n. absurd (omega (arith, n));
        rules = s.rules;
        features = s.features;
        dirt = s.dirt;
        entries = s.entries;
      };
      classes = class_put d.project.classes c h.classes name e (none_of (number_from 1 d.project.classes c.name) k);
      rules = no_rules _ d.project.rules rules;
      features = no_features _ d.project.features features;
      plain = h.plain;
      dirt = h.dirt;
      errors = no_errors _ d.project.entries entries;
      over = λ n. absurd (omega (arith, n));
    }))

-- ---- a rule
rule_put : (cs : List Class) (rs : List InForce) (q : InForce) → AreRules cs rs → IsNumbered q → HasSmallSides q → is_fit cs q.row ≡ true
    → (not (ltb (last_in (λ (r : InForce). r.number) rs) q.number) || is_there rs q.row) ≡ false → AreRules cs (rs ++ q ∷ [])
rule_put cs rs q h n small fit free =
    let b = or_parts (not (ltb (last_in (λ (r : InForce). r.number) rs) q.number)) (is_there rs q.row) free in
    let t = not-false (ltb (last_in (λ (r : InForce). r.number) rs) q.number) b.0 in
    let less : last_in (λ (r : InForce). r.number) rs < q.number = grind (arith, nat_tests, t) in
    record {
      numbers = every_end IsNumbered rs q h.numbers n;
      sides = every_end HasSmallSides rs q h.sides small;
      ascending = ascending_end (λ (r : InForce). r.number) rs q h.ascending less;
      fit = every_end (λ (r : InForce). is_fit cs r.row ≡ true) rs q h.fit fit;
      apart = pairs_end (λ (r s : InForce). is_row r.row s.row ≡ false) rs q h.apart
          (none_pass (λ (r : InForce). is_row r.row q.row) rs b.1);
    }

-- what the sides of a read row bind
side_small : (cs : List Class) (a : SideForm) (s : Option ℕ) (A : Side) → bound_in a.subtype ≡ Some s → side_in cs a s ≡ Some A → IsSmall A
side_small cs a s A b e =
    let n = side_named cs a s A e in
    subst (λ x. IfSome x (λ (n : ℕ). n ≤ 255)) (sym n.subtype) (bound_is a.subtype s b).1

dest_small : (cs : List Class) (o : Option SideForm) (s : Option ℕ) (A : Side) → dest_bound o ≡ Some s → dest_in cs o s ≡ Some A → IsSmall A
dest_small cs None s A b e = let same : no_side ≡ A = cc in subst IsSmall same tt
dest_small cs (Some a) s A b e = side_small cs a s A b e

side_plain : (cs : List Class) (a : SideForm) (s : Option ℕ) (A : Side) → a.subtype ≡ None → bound_in a.subtype ≡ Some s
    → side_in cs a s ≡ Some A → A.subtype ≡ None
side_plain cs a s A plain b e =
    let n = side_named cs a s A e in
    let none : Some None ≡ Some s = subst (λ o. bound_in o ≡ Some s) plain b in
    let same : None ≡ s = cc in
    n.subtype ∙ sym same

dest_plain : (cs : List Class) (typed : Bool) (fs : List (List ℕ)) (o : Option SideForm) (s : Option ℕ) (A : Side) → IsSecond typed fs o
    → typed ≡ false → dest_bound o ≡ Some s → dest_in cs o s ≡ Some A → A.subtype ≡ None
dest_plain cs typed fs None s A l t b e = let same : no_side ≡ A = cc in subst (λ (B : Side). B.subtype ≡ None) same refl
dest_plain cs typed fs (Some a) s A l t b e = side_plain cs a s A (l.2.plain t) b e

rule_kept : (d : Draft) → IsKept d → is_open stage.Rules d ≡ true → (fs : List (List ℕ)) (q : RuleForm) → rule_of d.typed fs ≡ Some q
    → IfOk (rule_verdict d q) IsKept
rule_kept d h o fs q said = numbered (natural 1 256 q.number) refl
  where
    put : (r : InForce) → IsNumbered r → HasSmallSides r → (d.typed ≡ false → HasPlainSides r) → is_fit d.project.classes r.row ≡ true
        → (not (ltb (last_in (λ (s : InForce). s.number) d.project.rules) r.number) || is_there d.project.rules r.row) ≡ false
        → IsKept (record d { stage = stage.Rules; project = record d.project { rules = d.project.rules ++ r ∷ [] } })
    put r n small plain fit free =
        let s = restaged d.stage stage.Rules d.project (opened stage.Rules d o).0 (λ n. absurd (omega (arith, n))) h.staged in
        let features = s.features (omega arith) in
        let entries = s.entries (omega arith) in
        record {
          staged = record {
            next = s.next;
            classes = s.classes;
            rules = λ n. absurd (omega (arith, n));
            features = s.features;
            dirt = s.dirt;
            entries = s.entries;
          };
          classes = h.classes;
          rules = rule_put d.project.classes d.project.rules r h.rules n small fit free;
          features = no_features _ d.project.features features;
          plain = λ t. record {
            rules = every_end HasPlainSides d.project.rules r (h.plain t).rules (plain t);
            features = (h.plain t).features;
          };
          dirt = h.dirt;
          errors = no_errors _ d.project.entries entries;
          over = λ n. absurd (omega (arith, n));
        }

    in_force : (n : ℕ) → (1 ≤ n) × (n ≤ 256) → (s t : Option ℕ) → bound_in q.origin.subtype ≡ Some s → dest_bound q.dest ≡ Some t
        → (r : Option Row) → row_of d.project.classes q s t ≡ r → IfOk (rule_in d n r) IsKept
    in_force n b s t i j None e = tt
    in_force n b s t i j (Some r) e =
        let cs = d.project.classes in
        let w = row_said cs q s t r e in
        let l = rule_said d.typed fs q said in
        let small : HasSmallSides (record { number = n; row = r }) = record {
          origin = side_small cs q.origin s r.origin i w.origin;
          dest = dest_small cs q.dest t r.dest j w.dest;
        } in
        let plain : d.typed ≡ false → HasPlainSides (record { number = n; row = r }) = λ f. record {
          origin = side_plain cs q.origin s r.origin (l.origin.plain f) i w.origin;
          dest = dest_plain cs d.typed l.more q.dest t r.dest l.dest f j w.dest;
        } in
        if_ok _ (Err cause.Order) _ IsKept (λ k. tt) (λ k. put (record { number = n; row = r }) b small plain w.fit k)

    bounded : (n : ℕ) → (1 ≤ n) × (n ≤ 256) → (s : Option (Option ℕ)) → bound_in q.origin.subtype ≡ s → (t : Option (Option ℕ))
        → dest_bound q.dest ≡ t → IfOk (rule_bound d q n s t) IsKept
    bounded n b None i t j = tt
    bounded n b (Some s) i None j = tt
    bounded n b (Some s) i (Some t) j = in_force n b s t i j (row_of d.project.classes q s t) refl

    numbered : (n : Option ℕ) → natural 1 256 q.number ≡ n → IfOk (rule_numbered d q n) IsKept
    numbered None e = tt
    numbered (Some n) e =
        let b = natural_said 1 256 q.number n e in bounded n (b.1, b.2) (bound_in q.origin.subtype) refl (dest_bound q.dest) refl

-- ---- a feature
feature_kept : (d : Draft) → IsKept d → is_open stage.Features d ≡ true → (r : WktReading) (fs : List (List ℕ)) (f : FeatureForm)
    → feature_of d.typed fs ≡ Some f → IsReading f.wkt r → IfOk (feature_verdict r d f) IsKept
feature_kept d h o Unwritten fs f said reading = tt
feature_kept d h o Refused fs f said reading = tt
feature_kept d h o (Written s) fs f said reading = numbered (natural 1 (d.project.next - 1) f.handle) refl
  where
    put : (g : Feature) → IsPlaced (head_of d.project) g → (d.typed ≡ false → g.subtype ≡ 0) → ltb (last_in (λ (f : Feature). f.handle) d.project.features) g.handle ≡ true
        → IsKept (record d { stage = stage.Features; project = record d.project { features = d.project.features ++ g ∷ [] } })
    put g placed plain t =
        let s = restaged d.stage stage.Features d.project (opened stage.Features d o).0 (λ n. absurd (omega (arith, n))) h.staged in
        let less : last_in (λ (f : Feature). f.handle) d.project.features < g.handle = grind (arith, nat_tests, t) in
        record {
          staged = record {
            next = s.next;
            classes = s.classes;
            rules = s.rules;
            features = λ n. absurd (omega (arith, n));
            dirt = s.dirt;
            entries = s.entries;
          };
          classes = h.classes;
          rules = h.rules;
          features = record {
            placed = every_end (IsPlaced (head_of d.project)) d.project.features g h.features.placed placed;
            ascending = ascending_end (λ (f : Feature). f.handle) d.project.features g h.features.ascending less;
          };
          plain = λ e. record {
            rules = (h.plain e).rules;
            features = every_end (λ (f : Feature). f.subtype ≡ 0) d.project.features g (h.plain e).features (plain e);
          };
          dirt = h.dirt;
          errors = h.errors;
          over = λ n. absurd (omega (arith, n));
        }

    own_0 : (t : ℕ) → subtype_in f.own.subtype ≡ Some t → d.typed ≡ false → t ≡ 0
    own_0 t i e =
        let l = feature_said d.typed fs f said in
        let k : Some 0 ≡ Some t = subst (λ o. subtype_in o ≡ Some t) (l.own.plain e) i in
        cc

    small : (t : ℕ) → subtype_in f.own.subtype ≡ Some t → t ≤ 255
    small t i = (subtype_is f.own.subtype t i (feature_said d.typed fs f said).other).1

    of_class : (n : ℕ) → (1 ≤ n) × (n ≤ d.project.next - 1) → (t : ℕ) → subtype_in f.own.subtype ≡ Some t → (c : Option ℕ)
        → IfOk (feature_in d n t s c) IsKept
    of_class n b t i None = tt
    of_class n b t i (Some c) = if_ok (is_kind (kind_of_class d.project.classes c) s.kind) _ (Err cause.Unknown) IsKept
        (λ e. if_ok (ltb (last_in (λ (g : Feature). g.handle) d.project.features) n) _ (Err cause.Order) IsKept
        (λ k. put (feature n c t s) (record {
          from_1 = b.0;
          given = omega (arith, b.0, b.1);
          kind = kind_there (kind_of_class d.project.classes c) s.kind e;
          subtype = small t i;
          shape = reading.0.says.valid;
        }) (own_0 t i) k) (λ k. tt)) (λ e. tt)

    typed : (n : ℕ) → (1 ≤ n) × (n ≤ d.project.next - 1) → (t : Option ℕ) → subtype_in f.own.subtype ≡ t
        → IfOk (feature_typed d f.own s n t) IsKept
    typed n b None i = tt
    typed n b (Some t) i = of_class n b t i (number_from 1 d.project.classes f.own.name)

    numbered : (n : Option ℕ) → natural 1 (d.project.next - 1) f.handle ≡ n → IfOk (feature_numbered d f.own s n) IsKept
    numbered None e = tt
    numbered (Some n) e =
        let b = natural_said 1 (d.project.next - 1) f.handle n e in typed n (b.1, b.2) (subtype_in f.own.subtype) refl

-- ---- a dirty rectangle
none_nested : (r : Rectangle) (D : List Rectangle) → list_any (are_nested r) D ≡ false → Every (λ s. AreLoose s r) D
none_nested r D e = every_map (λ s. are_nested r s ≡ false) (λ s. AreLoose s r)
    (λ s k. let b = or_parts (is_within r s) (is_within s r) k in record { left = b.1; right = b.0 }) D (none_pass (are_nested r) D e)

dirty_kept : (d : Draft) → IsKept d → is_open stage.Dirt d ≡ true → (r : Rectangle) → IfOk (dirty_verdict d r) IsKept
dirty_kept d h o r = if_ok (not (is_rectangle r)) (Err cause.Range) _ IsKept (λ e. tt)
    (λ e. if_ok (list_any (are_nested r) d.project.dirt) (Err cause.Order) _ IsKept (λ k. tt) (λ k.
    let s = restaged d.stage stage.Dirt d.project (opened stage.Dirt d o).0 (λ n. absurd (omega (arith, n))) h.staged in
    record {
      staged = record {
        next = s.next;
        classes = s.classes;
        rules = s.rules;
        features = s.features;
        dirt = λ n. absurd (omega (arith, n));
        entries = s.entries;
      };
      classes = h.classes;
      rules = h.rules;
      features = h.features;
      plain = h.plain;
      dirt = record {
        rectangles = every_end IsRectangle d.project.dirt r h.dirt.rectangles (rectangle_there r (not-false (is_rectangle r) e));
        loose = pairs_end AreLoose d.project.dirt r h.dirt.loose (none_nested r d.project.dirt k);
      };
      errors = h.errors;
      over = λ n. absurd (omega (arith, n));
    }))

-- ---- an error
not_bare : (w : Bool) (cs : List Cell) → (not w && is_bare cs) ≡ false → w ≡ false → cs ≢ []
not_bare true cs h e = absurd cc
not_bare false [] h e = absurd cc
not_bare false (c ∷ cs) h e = λ n. absurd cc

all_filled : (es : List Entry) → AreFilled es → wants_cell es ≡ false → Every HasCells es
all_filled [] h w = tt
all_filled (e ∷ []) h w = (λ k. not_bare e.whole e.cells w k, tt)
all_filled (e ∷ f ∷ es) h w = (h.0, all_filled (f ∷ es) h.1 w)

filled_end : (es : List Entry) (e : Entry) → Every HasCells es → AreFilled (es ++ e ∷ [])
filled_end [] e h = tt
filled_end (f ∷ []) e h = (h.0, tt)
filled_end (f ∷ g ∷ es) e h = (h.0, filled_end (g ∷ es) e h.1)

error_put : (p : Project) (es : List Entry) (e : Entry) → AreErrors p es → wants_cell es ≡ false → IsStarted p e
    → is_last_key es (key_of e) ≡ true → AreErrors p (es ++ e ∷ [])
error_put p es e h full started last = record {
  started = every_end (IsStarted p) es e h.started started;
  filled = filled_end es e (all_filled es h.filled full);
  ascending = sound.put_last es e h.ascending last;
}

rule_there : (rs : List InForce) (n : ℕ) → is_some (rule_at rs n) ≡ true → (row : Row) × (rule_at rs n ≡ Some row)
rule_there rs n t = by (rule_at rs n) refl t
  where
    by : (o : Option Row) → rule_at rs n ≡ o → is_some o ≡ true → (row : Row) × (rule_at rs n ≡ Some row)
    by None e k = absurd cc
    by (Some row) e k = (row, e)

is_zero : (w : Bool) (n : ℕ) → (w && not (n == 0)) ≡ false → w ≡ true → n ≡ 0
is_zero true n h e = grind (arith, nat_tests, not-false (n == 0) h)
is_zero false n h e = absurd cc

error_kept : (d : Draft) → IsKept d → is_open stage.Errors d ≡ true → (marked : Bool) (e : ErrorForm)
    → IfOk (error_verdict marked d e) IsKept
error_kept d h o marked e =
    handled (natural 1 (d.project.next - 1) e.subject) refl (natural 0 (d.project.next - 1) e.other) refl
  where
    put : (x : Entry) → IsStarted (head_of d.project) x → IfOk (with_error d x) IsKept
    put x started = if_ok (is_last_key d.project.entries (x.rule, x.subject, x.other)) _ (Err cause.Order) IsKept
        (λ k.
        let b = opened stage.Errors d o in
        let s = restaged d.stage stage.Errors d.project b.0 (λ n. absurd (omega (arith, n))) h.staged in
        record {
          staged = record {
            next = s.next;
            classes = s.classes;
            rules = s.rules;
            features = s.features;
            dirt = s.dirt;
            entries = λ n. absurd (omega (arith, n));
          };
          classes = h.classes;
          rules = h.rules;
          features = h.features;
          plain = h.plain;
          dirt = h.dirt;
          errors = error_put (head_of d.project) d.project.entries x h.errors b.1 started k;
          over = λ n. absurd (omega (arith, n));
        }) (λ k. tt)

    ruled : (a b : ℕ) → (1 ≤ a) × (a ≤ d.project.next - 1) → b ≤ d.project.next - 1
        → (not (is_rectangle e.frame) || (e.whole && not (b == 0))) ≡ false → (r : Option ℕ) → natural 1 256 e.rule ≡ r
        → IfOk (error_ruled d marked e a b r) IsKept
    ruled a b i j fits None k = tt
    ruled a b i j fits (Some r) k = if_ok (is_some (rule_at d.project.rules r)) _ (Err cause.Unknown) IsKept (λ t.
        let g = or_parts (not (is_rectangle e.frame)) (e.whole && not (b == 0)) fits in
        let n = natural_said 1 256 e.rule r k in
        put _ (record {
          from_1 = i.0;
          given = omega (arith, i.0, i.1);
          partner = omega (arith, i.0, i.1, j);
          frame = rectangle_there e.frame (not-false (is_rectangle e.frame) g.0);
          whole = λ w. (is_zero e.whole b g.1 w, refl);
          some = tt;
          halves = tt;
          rule = rule_there d.project.rules r t;
          numbered = (n.1, n.2);
        })) (λ t. tt)

    handled : (a : Option ℕ) → natural 1 (d.project.next - 1) e.subject ≡ a → (b : Option ℕ) → natural 0 (d.project.next - 1) e.other ≡ b
        → IfOk (error_in d marked e a b) IsKept
    handled None i b j = tt
    handled (Some a) i None j = tt
    handled (Some a) i (Some b) j =
        let m = natural_said 1 (d.project.next - 1) e.subject a i in
        let n = natural_said 0 (d.project.next - 1) e.other b j in
        if_ok (not (is_rectangle e.frame) || (e.whole && not (b == 0))) (Err cause.Range) _ IsKept (λ k. tt)
        (λ k. ruled a b (m.1, m.2) n.2 k (natural 1 256 e.rule) refl)

-- ---- a cell
filled_cell : (es : List Entry) (c : Cell) → AreFilled es → AreFilled (with_cell es c)
filled_cell [] c h = tt
filled_cell (e ∷ []) c h = tt
filled_cell (e ∷ f ∷ []) c h = (h.0, tt)
filled_cell (e ∷ f ∷ g ∷ es) c h = (h.0, filled_cell (f ∷ g ∷ es) c h.1)

started_cell : (p : Project) (es : List Entry) (c : Cell) → takes_cell es ≡ true → c ≢ [] → Every IsHalfPlane c → Every (IsStarted p) es
    → Every (IsStarted p) (with_cell es c)
started_cell p [] c t some fit h = tt
started_cell p (e ∷ []) c t some fit h = (
  record {
    from_1 = h.0.from_1;
    given = h.0.given;
    partner = h.0.partner;
    frame = h.0.frame;
    whole = λ w. absurd (let u = not-true e.whole t in cc);
    some = every_end (λ (k : Cell). k ≢ []) e.cells c h.0.some some;
    halves = every_end (λ (k : Cell). Every IsHalfPlane k) e.cells c h.0.halves fit;
    rule = h.0.rule;
    numbered = h.0.numbered;
  },
  tt,
)
started_cell p (e ∷ f ∷ es) c t some fit h = (h.0, started_cell p (f ∷ es) c t some fit h.1)

pub all_valid : (c : Cell) → list_all is_half c ≡ true → Every IsHalfPlane c
all_valid [] t = tt
all_valid (h ∷ hs) t = let b = and_parts (is_half h) (list_all is_half hs) t in (is_valid h b.0, all_valid hs b.1)

cell_kept : (d : Draft) → IsKept d → is_cell_open d ≡ true → (c : Cell) → c ≢ [] → IfOk (cell_verdict d c) IsKept
cell_kept d h o c some = if_ok (list_all is_half c) _ (Err cause.Range) IsKept (λ k.
    let b = and_parts (may_follow d.stage stage.Errors) (takes_cell d.project.entries) o in
    let m = may_stand d.stage stage.Errors b.0 in
    record {
      staged = record {
        next = h.staged.next;
        classes = h.staged.classes;
        rules = h.staged.rules;
        features = h.staged.features;
        dirt = h.staged.dirt;
        entries = λ n. absurd (let u = rw (h.staged.entries n) at b.1 in cc);
      };
      classes = h.classes;
      rules = h.rules;
      features = h.features;
      plain = h.plain;
      dirt = h.dirt;
      errors = record {
        started = started_cell (head_of d.project) d.project.entries c b.1 some (all_valid c k) h.errors.started;
        filled = filled_cell d.project.entries c h.errors.filled;
        ascending = sound.cell_put d.project.entries c h.errors.ascending;
      };
      over = λ n. absurd (omega (arith, n, m.on));
    }) (λ k. tt)

-- ---- lines
-- the shape's text of a line of a feature is read
pub shape_read : (d : Draft) (w : List ℕ) (fs : List (List ℕ)) (r : WktReading) (f : FeatureForm) → w ≡ codes "feature"
    → is_open stage.Features d ≡ true → feature_of d.typed fs ≡ Some f → IfSome (wkt_of d (w ∷ fs)) (λ t. IsReading t r) → IsReading f.wkt r
shape_read d w fs r f k o e h =
    let g = subst (λ (x : List ℕ). IfSome (wkt_of d (x ∷ fs)) (λ t. IsReading t r)) k h in
    rw (o, e) at g

line_kept : (d : Draft) → IsKept d → (r : WktReading) (fs : List (List ℕ)) → IfSome (wkt_of d fs) (λ t. IsReading t r)
    → IfOk (line_verdict r d fs) IsKept
line_kept d h r [] reading = tt
line_kept d h r (w ∷ fs) reading =
    line_by (λ v. IfOk v IsKept) r d w fs tt
    (λ k. at_ok stage.Title d _ IsKept (λ o. judged_ok (title_verdict d) (title_of fs) IsKept (λ t e. title_kept d h o t)))
    (λ k. at_ok stage.Next d _ IsKept (λ o. judged_ok (next_verdict d) (number_of fs) IsKept (λ z e. next_kept d h o z)))
    (λ k. at_ok stage.Classes d _ IsKept (λ o. judged_ok (class_verdict d) (class_of fs) IsKept
    (λ c e. class_kept d h o c (class_said fs c e).0)))
    (λ k. at_ok stage.Rules d _ IsKept (λ o. judged_ok (rule_verdict d) (rule_of d.typed fs) IsKept (λ q e. rule_kept d h o fs q e)))
    (λ k. at_ok stage.Features d _ IsKept (λ o. judged_ok (feature_verdict r d) (feature_of d.typed fs) IsKept
    (λ f e. feature_kept d h o r fs f e (shape_read d w fs r f k o e reading))))
    (λ k. at_ok stage.Dirt d _ IsKept (λ o. judged_ok (dirty_verdict d) (rect_of fs) IsKept (λ q e. dirty_kept d h o q)))
    (λ k. at_ok stage.Errors d _ IsKept (λ o. judged_ok (error_verdict false d) (error_of fs) IsKept (λ q e. error_kept d h o false q)))
    (λ k. at_ok stage.Errors d _ IsKept (λ o. judged_ok (error_verdict true d) (error_of fs) IsKept (λ q e. error_kept d h o true q)))
    (λ k. if_ok (is_cell_open d) _ (Err cause.Form) IsKept (λ o. judged_ok (cell_verdict d) (cell_of fs) IsKept
    (λ c e. cell_kept d h o c (cell_said fs c e).some)) (λ o. tt))
    (λ k. at_ok stage.End d _ IsKept (λ o. said_ok stage.End d (is_none fs) IsKept
    (λ b. said_kept stage.End d h o (λ n. absurd (omega (arith, n))))))

pub verdict_kept : (d m : Draft) (l : List ℕ) → IsKept d → IsVerdict d l (Ok m) → IsKept m
verdict_kept d m l h (r, k, v) = let P : Verdict → Type 0 = λ x. IfOk x IsKept in subst P (sym v) (line_kept d h r (fields l) k)

pub read_kept : (ls : List (List ℕ)) (d e : Draft) → IsKept d → AreRead d ls e → IsKept e
read_kept [] d e h r = subst IsKept r h
read_kept (l ∷ ls) d e h (m, v, r) = read_kept ls m e (verdict_kept d m l h v) r

-- ---- the end
all_placed : (p : Project) (F : List Feature) → Every (IsPlaced (head_of p)) F → Every (IsPlaced p) F
all_placed p F h = every_map (IsPlaced (head_of p)) (IsPlaced p)
    (λ f g. record { from_1 = g.from_1; given = g.given; kind = g.kind; subtype = g.subtype; shape = g.shape }) F h

all_errors : (p : Project) (es : List Entry) → Every (IsStarted (head_of p)) es → Every HasCells es → Every (IsError p) es
all_errors p [] h k = tt
all_errors p (e ∷ es) h k = (
  record {
    from_1 = h.0.from_1;
    given = h.0.given;
    partner = h.0.partner;
    frame = h.0.frame;
    whole = h.0.whole;
    cells = k.0;
    some = h.0.some;
    halves = h.0.halves;
    rule = h.0.rule;
    numbered = h.0.numbered;
  },
  all_errors p es h.1 k.1,
)

made : (d : Draft) → IsKept d → d.stage ≡ stage.End → IsRecord d.project
made d h over =
    let last : rank d.stage ≡ 8 = ap rank over in
    record {
      next = h.staged.next (omega (arith, last));
      few = h.classes.few;
      names = h.classes.names;
      unlike = h.classes.unlike;
      numbers = h.rules.numbers;
      rules = h.rules.ascending;
      sides = h.rules.sides;
      fit = h.rules.fit;
      apart = h.rules.apart;
      placed = all_placed d.project d.project.features h.features.placed;
      features = h.features.ascending;
      rectangles = h.dirt.rectangles;
      loose = h.dirt.loose;
      errors = all_errors d.project d.project.entries h.errors.started (all_filled d.project.entries h.errors.filled (h.over last));
      entries = h.errors.ascending;
    }

pub read_record : (t : List ℕ) (p : Project) → IsRead t p → IsRecord p
read_record t p (ls, d, b, over, said) = subst IsRecord said (made d (read_kept ls start d start_kept b.read) over)
