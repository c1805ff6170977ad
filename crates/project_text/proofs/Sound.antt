-- What each draft keeps: until a line says another, the next handle is 1; errors ascend by their keys.
use Rattle.std.proofs.Common.{ℕ, ◌≡◌, ◌==◌, ◌-◌, Bool, true, false, ◌&&◌, ◌||◌, not, ltb, List, [], ◌∷◌, ◌++◌, length, Option, Some, None, Ok, Err, refl, sym, subst, arith}
use Rattle.std.specs.Prelude.{IfOk, is_some}
use Rattle.std.specs.List.{list_all, list_any}
use Rattle.std.proofs.lemmas.Bool.{and_parts}
use Rattle.std.proofs.lemmas.Bool.Decides.{nat_tests}
use Rattle.plane_terms.specs.Lists.{Every}
use Rattle.plane_terms.specs.Rectangle.{Rectangle}
use Rattle.plane_terms.specs.Cell.{Cell}
use Rattle.topology_terms.specs.Broken.{Row}
use Rattle.topology_terms.specs.Feature.{Class, Feature}
use Rattle.topology_terms.specs.Entry.{Entry, Key, key_of, by_key, IsBefore, IsKeyBelow}
use Rattle.topology_terms.specs.Entry as entries
use Rattle.topology_terms.specs.Lookups.{number_from, kind_of_class}
use Rattle.topology_terms.specs.Causes.{is_kind, is_there}
use Rattle.topology_terms.specs.Project.{InForce, rule_at}
use Rattle.sound_laws.proofs.Keyed as keyed
use Rattle.sound_laws.proofs.Lists.{keys}
use Rattle.project_terms.specs.declared.stage.Stage.{Stage}
use Rattle.project_terms.specs.declared.stage.Stage.TheVariants as stage
use Rattle.project_terms.specs.declared.project_cause.ProjectCause.TheVariants as cause
use Rattle.project_terms.specs.Lines.{fields, natural}
use Rattle.project_terms.specs.Drafts.{Draft, start, may_follow, is_open, is_cell_open, with_cell, last_in, is_before, is_last_key, is_rectangle, is_half}
use Rattle.project_terms.specs.Verdicts.{Verdict, WktReading, Unwritten, Refused, Written, RuleForm, FeatureForm, ErrorForm, title_of, title_verdict, is_none, number_of, class_of, rule_of, row_of, feature_of, rect_of, error_of, cell_of, next_verdict, next_numbered, class_verdict, rule_verdict, rule_numbered, rule_bound, rule_in, bound_in, dest_bound, feature_verdict, feature_numbered, feature_typed, feature_in, subtype_in, are_nested, dirty_verdict, error_verdict, error_in, error_ruled, with_error, cell_verdict, line_verdict}
use Rattle.project_terms.specs.Texts.{AreRead, IsVerdict}
use Rattle.project_text.proofs.LineCases.{line_by, at_ok, judged_ok, said_ok, if_ok}

pub record IsSound (d : Draft) : Type 0 where
  pub early : d.stage ≡ stage.Start → d.project.next ≡ 1
  pub titled : d.stage ≡ stage.Title → d.project.next ≡ 1
  pub ascending : entries.IsAscending d.project.entries

-- ---- errors by key
before : (j k : Key) → is_before j k ≡ true → IsBefore j k
before j k h = grind (arith, nat_tests)

later : (i j k : Key) → IsBefore i j → IsBefore j k → IsBefore i k
later i j k h g = grind arith

-- all come before a key that stands behind the last
first_before : (e : Entry) (es : List Entry) (k : Key) → Every (IsKeyBelow e) es → Every (λ (f : Entry). IsBefore (key_of f) k) es
    → is_last_key (e ∷ es) k ≡ true
    → IsBefore (key_of e) k
first_before e [] k h g last = before (key_of e) k last
first_before e (f ∷ es) k h g last = later (key_of e) (key_of f) k h.0 g.0

all_before : (es : List Entry) (k : Key) → entries.IsAscending es → is_last_key es k ≡ true
    → Every (λ (f : Entry). IsBefore (key_of f) k) es
all_before [] k h last = tt
all_before (e ∷ []) k h last = (before (key_of e) k last, tt)
all_before (e ∷ f ∷ es) k h last =
    let i = all_before (f ∷ es) k h.1 last in
    (first_before e (f ∷ es) k h.0 i last, i)

pub put_last : (es : List Entry) (e : Entry) → entries.IsAscending es → is_last_key es (key_of e) ≡ true
    → entries.IsAscending (es ++ e ∷ [])
put_last es e h last = keyed.ascending_last by_key keys es e h (all_before es (key_of e) h last)

-- a cell leaves the keys as they are
below_cell : (x : Entry) (es : List Entry) (c : Cell) → Every (IsKeyBelow x) es → Every (IsKeyBelow x) (with_cell es c)
below_cell x [] c h = tt
below_cell x (e ∷ []) c h = h
below_cell x (e ∷ f ∷ es) c h = (h.0, below_cell x (f ∷ es) c h.1)

pub cell_put : (es : List Entry) (c : Cell) → entries.IsAscending es → entries.IsAscending (with_cell es c)
cell_put [] c h = tt
cell_put (e ∷ []) c h = h
cell_put (e ∷ f ∷ es) c h = (below_cell e (f ∷ es) c h.0, cell_put (f ∷ es) c h.1)

-- ---- stages
pub before_title : (a : Stage) → may_follow a stage.Title ≡ true → a ≡ stage.Start
before_title stage.Start h = refl
before_title stage.Title h = absurd cc
before_title stage.Next h = absurd cc
before_title stage.Classes h = absurd cc
before_title stage.Rules h = absurd cc
before_title stage.Features h = absurd cc
before_title stage.Dirt h = absurd cc
before_title stage.Errors h = absurd cc
before_title stage.End h = absurd cc

pub before_next : (a : Stage) → may_follow a stage.Next ≡ true → a ≡ stage.Title
before_next stage.Start h = absurd cc
before_next stage.Title h = refl
before_next stage.Next h = absurd cc
before_next stage.Classes h = absurd cc
before_next stage.Rules h = absurd cc
before_next stage.Features h = absurd cc
before_next stage.Dirt h = absurd cc
before_next stage.Errors h = absurd cc
before_next stage.End h = absurd cc

pub open_next : (d : Draft) → is_open stage.Next d ≡ true → d.stage ≡ stage.Title
open_next d h = before_next d.stage ((and_parts _ _ h).0)

-- ---- lines
next_sound : (d : Draft) → IsSound d → (o : Option ℕ) → IfOk (next_numbered d o) IsSound
next_sound d h None = tt
next_sound d h (Some n) = record { early = λ e. cc; titled = λ e. cc; ascending = h.ascending }

class_sound : (d : Draft) → IsSound d → (c : Class) → IfOk (class_verdict d c) IsSound
class_sound d h c = if_ok (length d.project.classes == 64) (Err cause.Range) _ IsSound (λ e. tt)
    (λ e. if_ok (is_some (number_from 1 d.project.classes c.name)) (Err cause.Order) _ IsSound (λ k. tt)
    (λ k. record { early = λ e. cc; titled = λ e. cc; ascending = h.ascending }))

rule_sound : (d : Draft) → IsSound d → (q : RuleForm) → IfOk (rule_verdict d q) IsSound
rule_sound d h q = numbered (natural 1 256 q.number)
  where
    in_force : (n : ℕ) (o : Option Row) → IfOk (rule_in d n o) IsSound
    in_force n None = tt
    in_force n (Some r) =
        let m : Draft = record d {
          stage = stage.Rules;
          project =
              record d.project { rules = d.project.rules ++ record { number = n; row = r } ∷ [] };
        } in
        let s : IsSound m = record { early = λ e. cc; titled = λ e. cc; ascending = h.ascending } in
        if_ok (not (ltb (last_in (λ (q : InForce). q.number) d.project.rules) n) || is_there d.project.rules r) (Err cause.Order) (Ok m)
        IsSound
        (λ e. tt) (λ e. s)

    bounded : (n : ℕ) (s t : Option (Option ℕ)) → IfOk (rule_bound d q n s t) IsSound
    bounded n None t = tt
    bounded n (Some s) None = tt
    bounded n (Some s) (Some t) = in_force n (row_of d.project.classes q s t)

    numbered : (o : Option ℕ) → IfOk (rule_numbered d q o) IsSound
    numbered None = tt
    numbered (Some n) = bounded n (bound_in q.origin.subtype) (dest_bound q.dest)

feature_sound : (d : Draft) → IsSound d → (r : WktReading) (f : FeatureForm) → IfOk (feature_verdict r d f) IsSound
feature_sound d h Unwritten f = tt
feature_sound d h Refused f = tt
feature_sound d h (Written s) f = numbered (natural 1 (d.project.next - 1) f.handle)
  where
    of_class : (n t : ℕ) (o : Option ℕ) → IfOk (feature_in d n t s o) IsSound
    of_class n t None = tt
    of_class n t (Some c) = if_ok (is_kind (kind_of_class d.project.classes c) s.kind) _ (Err cause.Unknown) IsSound
        (λ e. if_ok (ltb (last_in (λ (g : Feature). g.handle) d.project.features) n) _ (Err cause.Order) IsSound
        (λ k. record { early = λ e. cc; titled = λ e. cc; ascending = h.ascending }) (λ k. tt)) (λ e. tt)

    typed : (n : ℕ) (o : Option ℕ) → IfOk (feature_typed d f.own s n o) IsSound
    typed n None = tt
    typed n (Some t) = of_class n t (number_from 1 d.project.classes f.own.name)

    numbered : (o : Option ℕ) → IfOk (feature_numbered d f.own s o) IsSound
    numbered None = tt
    numbered (Some n) = typed n (subtype_in f.own.subtype)

dirty_sound : (d : Draft) → IsSound d → (r : Rectangle) → IfOk (dirty_verdict d r) IsSound
dirty_sound d h r = if_ok (not (is_rectangle r)) (Err cause.Range) _ IsSound (λ e. tt)
    (λ e. if_ok (list_any (are_nested r) d.project.dirt) (Err cause.Order) _ IsSound (λ k. tt)
    (λ k. record { early = λ e. cc; titled = λ e. cc; ascending = h.ascending }))

error_sound : (d : Draft) → IsSound d → (marked : Bool) (e : ErrorForm) → IfOk (error_verdict marked d e) IsSound
error_sound d h marked e = handled (natural 1 (d.project.next - 1) e.subject) (natural 0 (d.project.next - 1) e.other)
  where
    put : (x : Entry) → IfOk (with_error d x) IsSound
    put x = if_ok (is_last_key d.project.entries (x.rule, x.subject, x.other)) _ (Err cause.Order) IsSound
        (λ k. record { early = λ e. cc; titled = λ e. cc; ascending = put_last d.project.entries x h.ascending k }) (λ k. tt)

    ruled : (a b : ℕ) (o : Option ℕ) → IfOk (error_ruled d marked e a b o) IsSound
    ruled a b None = tt
    ruled a b (Some r) = if_ok (is_some (rule_at d.project.rules r)) _ (Err cause.Unknown) IsSound (λ k. put _) (λ k. tt)

    handled : (o p : Option ℕ) → IfOk (error_in d marked e o p) IsSound
    handled None p = tt
    handled (Some a) None = tt
    handled (Some a) (Some b) = if_ok (not (is_rectangle e.frame) || (e.whole && not (b == 0))) (Err cause.Range) _ IsSound (λ k. tt)
        (λ k. ruled a b (natural 1 256 e.rule))

cell_sound : (d : Draft) → IsSound d → is_cell_open d ≡ true → (c : Cell) → IfOk (cell_verdict d c) IsSound
cell_sound d h o c = if_ok (list_all is_half c) _ (Err cause.Range) IsSound
    (λ k. record {
      early = λ e. absurd (let u = rw e at o in cc);
      titled = λ e. absurd (let u = rw e at o in cc);
      ascending =
          cell_put d.project.entries c h.ascending;
    })
    (λ k. tt)

line_sound : (d : Draft) → IsSound d → (r : WktReading) (fs : List (List ℕ)) → IfOk (line_verdict r d fs) IsSound
line_sound d h r [] = tt
line_sound d h r (w ∷ fs) =
    line_by (λ v. IfOk v IsSound) r d w fs tt
    (λ k. at_ok stage.Title d _ IsSound (λ o. judged_ok (title_verdict d) (title_of fs) IsSound
    (λ t b. record { early = λ e. cc; titled = λ e. h.early (before_title d.stage ((and_parts _ _ o).0)); ascending = h.ascending })))
    (λ k. at_ok stage.Next d _ IsSound
    (λ o. judged_ok (next_verdict d) (number_of fs) IsSound (λ z e. next_sound d h (natural 1 4294967295 z))))
    (λ k. at_ok stage.Classes d _ IsSound (λ o. judged_ok (class_verdict d) (class_of fs) IsSound (λ c e. class_sound d h c)))
    (λ k. at_ok stage.Rules d _ IsSound (λ o. judged_ok (rule_verdict d) (rule_of d.typed fs) IsSound (λ q e. rule_sound d h q)))
    (λ k. at_ok stage.Features d _ IsSound (λ o. judged_ok (feature_verdict r d) (feature_of d.typed fs) IsSound (λ f e. feature_sound d h r f)))
    (λ k. at_ok stage.Dirt d _ IsSound (λ o. judged_ok (dirty_verdict d) (rect_of fs) IsSound (λ q e. dirty_sound d h q)))
    (λ k. at_ok stage.Errors d _ IsSound (λ o. judged_ok (error_verdict false d) (error_of fs) IsSound (λ q e. error_sound d h false q)))
    (λ k. at_ok stage.Errors d _ IsSound (λ o. judged_ok (error_verdict true d) (error_of fs) IsSound (λ q e. error_sound d h true q)))
    (λ k. if_ok (is_cell_open d) _ (Err cause.Form) IsSound
    (λ o. judged_ok (cell_verdict d) (cell_of fs) IsSound (λ c e. cell_sound d h o c)) (λ o. tt))
    (λ k. at_ok stage.End d _ IsSound (λ o. said_ok stage.End d (is_none fs) IsSound
    (λ b. record { early = λ e. cc; titled = λ e. cc; ascending = h.ascending })))

verdict_sound : (d m : Draft) (l : List ℕ) → IsSound d → IsVerdict d l (Ok m) → IsSound m
verdict_sound d m l h (r, k, v) = let P : Verdict → Type 0 = λ x. IfOk x IsSound in subst P (sym v) (line_sound d h r (fields l))

pub read_sound : (ls : List (List ℕ)) (d e : Draft) → IsSound d → AreRead d ls e → IsSound e
read_sound [] d e h r = subst IsSound r h
read_sound (l ∷ ls) d e h (m, v, r) = read_sound ls m e (verdict_sound d m l h v) r

pub start_sound : IsSound start
start_sound = record { early = λ e. refl; titled = λ e. refl; ascending = tt }
