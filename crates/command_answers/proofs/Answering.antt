-- What is refused leaves the state, and what is done is the command's.
use Rattle.std.proofs.Common.{◌≡◌, ◌⊎◌, inl, inr, ℕ, ◌+◌, ◌-◌, ◌≤◌, ◌<◌, ap, ◌∙◌, Bool, true, false, List, [], ◌∷◌, length, Option, Some, None, refl, sym, if◌then◌else◌, arith}
use Rattle.std.specs.Prelude.{not, IsSomeAnd, unwrap_or, bytes_eq}
use Rattle.plane_terms.specs.Lists.{Every}
use Rattle.plane_terms.specs.Rectangle.{Rectangle}
use Rattle.plane_terms.specs.Shape.{Shape}
use Rattle.plane_terms.specs.declared.kind.Kind.{Kind}
use Rattle.rule_words.specs.declared.rule_kind.RuleKind.{RuleKind}
use Rattle.topology_terms.specs.Changes.{IsClassAdded, IsFeatureAdded, IsFeatureSet, IsRuleAdded, IsRuleDropped, reshaped, retyped}
use Rattle.topology_terms.specs.Causes.{Tells, when, first_of, class_cause, add_cause, change_cause, delete_cause, rule_cause, drop_cause}
use Rattle.topology_terms.specs.Feature.{Class as AClass, Feature, feature_at}
use Rattle.topology_terms.specs.Lookups.{number_from, class_number}
use Rattle.topology_terms.specs.Project.{Project}
use Rattle.topology_terms.specs.Poster.{poster}
use Rattle.topology_terms.specs.Session.{holder}
use Rattle.topology_terms.specs.Settled.{IsValidatedBy}
use Rattle.topology_terms.specs.declared.cause.Cause.{Cause}
use Rattle.topology_terms.specs.declared.cause.Cause.TheVariants as cause
use Rattle.topology_terms.specs.Counts.{raised, judged_of}
use Rattle.feature_store.specs.Keeps.{IsGiven}
use Rattle.topo_core.specs.Steps.{IsCounted}
use Rattle.topo_core.specs.Topologies.{IsTopology}
use Rattle.line_terms.specs.Commands.{Sided, Command, Class, Rule, DropRule, Add, Change as AChange, Delete, Retype, Validate}
use Rattle.script_terms.specs.Refusal.{Refusal, NoSession, Change}
use Rattle.script_terms.specs.Reply.{Reply, Done, Number, Judged, Refused}
use Rattle.script_terms.specs.State.{Desk, is_open}
use Rattle.script_terms.specs.Refusing.{refusal_of, row_of, is_nowhere, changes, held_by}
use Rattle.script_terms.specs.Answer.{Answers, IsDone, LeavesNoted, added_step, set_step}
use Rattle.command_answers.proofs.Counts.{fewer_chosen, few_handles, few_judged}
use Rattle.script_terms.proofs.Runs.{first_none, changes_none}

pub refused : (s t : Desk) (c : Command) (reply : Reply) (r : Refusal) → refusal_of s c ≡ Some r → reply ≡ Refused r → t ≡ s
    → Answers s c reply t
refused s t c reply r e said same = rw e (said, same)

pub done : (s t : Desk) (c : Command) (reply : Reply) → refusal_of s c ≡ None → IsDone s c reply t → Answers s c reply t
done s t c reply e d = rw e d

-- a command that is refused for what the project is alone: for this cause, or for none
pub told : (s t : Desk) (c : Command) (reply : Reply) (o there : Option Cause) → refusal_of s c ≡ changes there → Tells o there
    → IsSomeAnd o (λ x. reply ≡ Refused (Change x)) → t ≡ s → Answers s c reply t
told s t c reply None there e tells said same = absurd said
told s t c reply (Some x) there e tells said same = refused s t c reply (Change x) (e ∙ ap changes tells) said same

pub did : (s t : Desk) (c : Command) (reply : Reply) (there : Option Cause) → refusal_of s c ≡ changes there → there ≡ None
    → IsDone s c reply t → Answers s c reply t
did s t c reply there e none d = done s t c reply (e ∙ ap changes none) d

only : (o : Option Refusal) → first_of (o ∷ []) ≡ o
only None = refl
only (Some r) = refl

-- ---- a line that adds a feature, changes or deletes one, puts a rule in force
add_refusal : (s : Desk) (editor : List ℕ) (own : Sided) (shape : Shape) (n : ℕ) → is_open s editor ≡ true
    → class_number s.project own.name ≡ Some n
    → refusal_of s (Add editor own shape) ≡ changes (add_cause s.project.classes s.project.next n shape.kind)
add_refusal s editor own shape n opened named =
    rw (opened, named) (only (changes (add_cause s.project.classes s.project.next n shape.kind)))

-- an edit is refused as a deletion is, and then for its own cause
pub edit_passed : (a b c d : Option Refusal) → first_of (a ∷ b ∷ c ∷ []) ≡ None → first_of (a ∷ b ∷ c ∷ d ∷ []) ≡ d
edit_passed (Some x) b c d e = cc
edit_passed None (Some x) c d e = cc
edit_passed None None (Some x) d e = cc
edit_passed None None None None e = refl
edit_passed None None None (Some x) e = refl

pub edit_stopped : (a b c d : Option Refusal) (r : Refusal) → first_of (a ∷ b ∷ c ∷ []) ≡ Some r → first_of (a ∷ b ∷ c ∷ d ∷ []) ≡ Some r
edit_stopped (Some x) b c d r e = e
edit_stopped None (Some x) c d r e = e
edit_stopped None None (Some x) d r e = e
edit_stopped None None None d r e = cc

change_refusal : (s : Desk) (editor : List ℕ) (h : ℕ) (shape : Shape) → refusal_of s (Delete editor h) ≡ None
    → refusal_of s (AChange editor h shape) ≡ changes (change_cause s.project.features h shape.kind)
change_refusal s editor h shape may = edit_passed (when (not (is_open s editor)) NoSession) (changes (delete_cause s.project.features h))
    (held_by (holder s.sessions h) editor) (changes (change_cause s.project.features h shape.kind)) may

pub change_stopped : (s : Desk) (editor : List ℕ) (h : ℕ) (shape : Shape) (r : Refusal) → refusal_of s (Delete editor h) ≡ Some r
    → Answers s (AChange editor h shape) (Refused r) s
change_stopped s editor h shape r e = refused s s (AChange editor h shape) (Refused r) r
    (edit_stopped (when (not (is_open s editor)) NoSession) (changes (delete_cause s.project.features h)) (held_by (holder s.sessions h) editor)
    (changes (change_cause s.project.features h shape.kind)) r e) refl refl

pub retype_stopped : (s : Desk) (editor : List ℕ) (h t : ℕ) (r : Refusal) → refusal_of s (Delete editor h) ≡ Some r
    → Answers s (Retype editor h t) (Refused r) s
retype_stopped s editor h t r e = refused s s (Retype editor h t) (Refused r) r e refl refl

pub delete_stopped : (s : Desk) (editor : List ℕ) (h : ℕ) (r : Refusal) → refusal_of s (Delete editor h) ≡ Some r
    → Answers s (Delete editor h) (Refused r) s
delete_stopped s editor h r e = refused s s (Delete editor h) (Refused r) r e refl refl

rule_refusal : (s : Desk) (k : RuleKind) (origin : Sided) (dest : Option Sided) → is_nowhere s.project dest ≡ false
    → refusal_of s (Rule k origin dest) ≡ changes (rule_cause s.project (row_of s.project k origin dest))
rule_refusal s k origin dest there = rw there (only (changes (rule_cause s.project (row_of s.project k origin dest))))

-- ---- what is done
pub class_added : (s t : Desk) (name : List ℕ) (k : Kind) (n : ℕ) → class_cause s.project.classes name ≡ None
    → n ≡ length s.project.classes + 1
    → IsClassAdded name k s.project t.project → t.sessions ≡ s.sessions → Answers s (Class name k) (Number n) t
class_added s t name k n may number h same = did s t (Class name k) (Number n) (class_cause s.project.classes name) refl may
    (ap Number number, record { project = h; sessions = same })

pub feature_added : (s t : Desk) (editor : List ℕ) (own : Sided) (shape : Shape) (n h : ℕ) → is_open s editor ≡ true
    → class_number s.project own.name ≡ Some n
    → add_cause s.project.classes s.project.next n shape.kind ≡ None
    → LeavesNoted editor (added_step h n (unwrap_or own.subtype 0) shape) (IsFeatureAdded n (unwrap_or own.subtype 0) shape h) s t
    → Answers s (Add editor own shape) (Number h) t
feature_added s t editor own shape n h opened named may more =
    did s t (Add editor own shape) (Number h) (add_cause s.project.classes s.project.next n shape.kind)
    (add_refusal s editor own shape n opened named) may
    (h, refl, rw named more)

pub feature_changed : (s t : Desk) (editor : List ℕ) (h : ℕ) (shape : Shape) → refusal_of s (Delete editor h) ≡ None
    → change_cause s.project.features h shape.kind ≡ None
    → (let after = reshaped (feature_at s.project.features h) shape in LeavesNoted editor (set_step s.project h after)
    (IsFeatureSet h after) s t) → Answers s (AChange editor h shape) Done t
feature_changed s t editor h shape free may k =
    did s t (AChange editor h shape) Done (change_cause s.project.features h shape.kind) (change_refusal s editor h shape free) may
    (refl, k)

pub feature_deleted : (s t : Desk) (editor : List ℕ) (h : ℕ) → refusal_of s (Delete editor h) ≡ None
    → LeavesNoted editor (set_step s.project h None) (IsFeatureSet h None) s t → Answers s (Delete editor h) Done t
feature_deleted s t editor h free k = done s t (Delete editor h) Done free (refl, k)

pub feature_retyped : (s t : Desk) (editor : List ℕ) (h u : ℕ) → refusal_of s (Delete editor h) ≡ None
    → (let after = retyped (feature_at s.project.features h) u in LeavesNoted editor (set_step s.project h after)
    (IsFeatureSet h after) s t) → Answers s (Retype editor h u) Done t
feature_retyped s t editor h u free k = done s t (Retype editor h u) Done free (refl, k)

pub rule_added : (s t : Desk) (k : RuleKind) (origin : Sided) (dest : Option Sided) (n : ℕ) → is_nowhere s.project dest ≡ false
    → rule_cause s.project (row_of s.project k origin dest) ≡ None → IsRuleAdded n (row_of s.project k origin dest) s.project t.project
    → t.sessions ≡ s.sessions
    → Answers s (Rule k origin dest) (Number n) t
rule_added s t k origin dest n there may added same =
    did s t (Rule k origin dest) (Number n) (rule_cause s.project (row_of s.project k origin dest)) (rule_refusal s k origin dest there) may
    (n, refl, record { project = added; sessions = same })

-- ---- what is refused
pub class_refused : (s t : Desk) (name : List ℕ) (k : Kind) (o : Option Cause) (reply : Reply)
    → Tells o (class_cause s.project.classes name)
    → IsSomeAnd o (λ x. reply ≡ Refused (Change x)) → t ≡ s → Answers s (Class name k) reply t
class_refused s t name k o reply tells said same = told s t (Class name k) reply o (class_cause s.project.classes name) refl tells said same

pub no_session : (s t : Desk) (editor : List ℕ) (own : Sided) (shape : Shape) → is_open s editor ≡ false → t ≡ s
    → Answers s (Add editor own shape) (Refused NoSession) t
no_session s t editor own shape opened same = refused s t (Add editor own shape) (Refused NoSession) NoSession (rw opened refl) refl
    same

pub add_refused : (s t : Desk) (editor : List ℕ) (own : Sided) (shape : Shape) (n : ℕ) (o : Option Cause) (reply : Reply)
    → is_open s editor ≡ true → class_number s.project own.name ≡ Some n → Tells o (add_cause s.project.classes s.project.next n shape.kind)
    → IsSomeAnd o (λ x. reply ≡ Refused (Change x)) → t ≡ s → Answers s (Add editor own shape) reply t
add_refused s t editor own shape n o reply opened named tells said same =
    told s t (Add editor own shape) reply o (add_cause s.project.classes s.project.next n shape.kind)
    (add_refusal s editor own shape n opened named) tells said same

pub change_refused : (s t : Desk) (editor : List ℕ) (h : ℕ) (shape : Shape) (o : Option Cause) (reply : Reply)
    → refusal_of s (Delete editor h) ≡ None
    → Tells o (change_cause s.project.features h shape.kind) → IsSomeAnd o (λ x. reply ≡ Refused (Change x)) → t ≡ s
    → Answers s (AChange editor h shape) reply t
change_refused s t editor h shape o reply free tells said same =
    told s t (AChange editor h shape) reply o (change_cause s.project.features h shape.kind) (change_refusal s editor h shape free) tells
    said same

-- a deletion that is not refused finds its feature
deletes : (s : Desk) (editor : List ℕ) (h : ℕ) → refusal_of s (Delete editor h) ≡ None → delete_cause s.project.features h ≡ None
deletes s editor h free =
    let a = first_none (when (not (is_open s editor)) NoSession) (changes (delete_cause s.project.features h) ∷ held_by (holder s.sessions h) editor ∷ []) free
    in
    changes_none (delete_cause s.project.features h) (first_none (changes (delete_cause s.project.features h)) (held_by (holder s.sessions h) editor ∷ []) a.1).0

pub delete_refused : (s t : Desk) (editor : List ℕ) (h : ℕ) (o : Option Cause) (reply : Reply) → refusal_of s (Delete editor h) ≡ None
    → Tells o (delete_cause s.project.features h) → IsSomeAnd o (λ x. reply ≡ Refused (Change x)) → t ≡ s
    → Answers s (Delete editor h) reply t
delete_refused s t editor h None reply free tells said same = absurd said
delete_refused s t editor h (Some x) reply free tells said same = let none = deletes s editor h free in absurd cc

pub retype_refused : (s t : Desk) (editor : List ℕ) (h u : ℕ) (o : Option Cause) (reply : Reply) → refusal_of s (Delete editor h) ≡ None
    → Tells o (delete_cause s.project.features h) → IsSomeAnd o (λ x. reply ≡ Refused (Change x)) → t ≡ s
    → Answers s (Retype editor h u) reply t
retype_refused s t editor h u None reply free tells said same = absurd said
retype_refused s t editor h u (Some x) reply free tells said same = let none = deletes s editor h free in absurd cc

pub rule_refused : (s t : Desk) (k : RuleKind) (origin : Sided) (dest : Option Sided) (o : Option Cause) (reply : Reply)
    → is_nowhere s.project dest ≡ false → Tells o (rule_cause s.project (row_of s.project k origin dest))
    → IsSomeAnd o (λ x. reply ≡ Refused (Change x)) → t ≡ s → Answers s (Rule k origin dest) reply t
rule_refused s t k origin dest o reply there tells said same =
    told s t (Rule k origin dest) reply o (rule_cause s.project (row_of s.project k origin dest)) (rule_refusal s k origin dest there) tells
    said same

pub rule_dropped : (s t : Desk) (n : ℕ) → drop_cause s.project.rules n ≡ None → IsRuleDropped n s.project t.project
    → t.sessions ≡ s.sessions → Answers s (DropRule n) Done t
rule_dropped s t n may dropped same = did s t (DropRule n) Done (drop_cause s.project.rules n) refl may
    (refl, record { project = dropped; sessions = same })

pub no_rule : (s t : Desk) (n : ℕ) → drop_cause s.project.rules n ≡ Some cause.NoRule → t ≡ s
    → Answers s (DropRule n) (Refused (Change cause.NoRule)) t
no_rule s t n none same = refused s t (DropRule n) (Refused (Change cause.NoRule)) (Change cause.NoRule) (ap changes none) refl same

-- a class that a line names is not there: no class has the number 0
pub no_class : (s t : Desk) (k : RuleKind) (origin : Sided) (dest : Option Sided)
    → (class_number s.project origin.name ≡ None) ⊎ (is_nowhere s.project dest ≡ true) → t ≡ s
    → Answers s (Rule k origin dest) (Refused (Change cause.NoClass)) t
no_class s t k origin dest lacks same = by (is_nowhere s.project dest) refl lacks
  where
    says : refusal_of s (Rule k origin dest) ≡ Some (Change cause.NoClass) → Answers s (Rule k origin dest) (Refused (Change cause.NoClass))
        t
    says e = refused s t (Rule k origin dest) (Refused (Change cause.NoClass)) (Change cause.NoClass) e refl same

    by : (b : Bool) → is_nowhere s.project dest ≡ b → (class_number s.project origin.name ≡ None) ⊎ (is_nowhere s.project dest ≡ true)
        → Answers s (Rule k origin dest) (Refused (Change cause.NoClass)) t
    by true e l = says (rw e refl)
    by false e (inl l) = says (rw (e, l) refl)
    by false e (inr l) = cc

-- ---- classes have numbers from 1
counted_from : (n : ℕ) (cs : List AClass) (name : List ℕ) (k : ℕ) → number_from n cs name ≡ Some k → n ≤ k
counted_from n [] name k e = cc
counted_from n (c ∷ cs) name k e = by (bytes_eq c.name name) e (counted_from (n + 1) cs name k)
  where
    by : (b : Bool) → (if b then Some n else number_from (n + 1) cs name) ≡ Some k → (number_from (n + 1) cs name ≡ Some k → n + 1 ≤ k)
        → n ≤ k
    by true f rest = let same : n ≡ k = cc in omega (arith, same)
    by false f rest = omega (arith, rest f)

pub number_from_1 : (p : Project) (name : List ℕ) (k : ℕ) → Some k ≡ class_number p name → 0 < k
number_from_1 p name k e = omega (arith, counted_from 1 p.classes name k (sym e))

-- ---- a validation
-- a count that begins low stays far from its end
exact : (b n : ℕ) → b ≤ 1099511627776 → n ≤ 1099511627776 → raised b n - b ≡ n
exact b n k l = omega arith

handles_of : (next : ℕ) (F : List Feature) → Every (IsGiven next) F → Every (λ (f : Feature). 1 ≤ f.handle) F
    × Every (λ (f : Feature). f.handle < next) F
handles_of next [] h = (tt, tt)
handles_of next (f ∷ F) h = let rest = handles_of next F h.1 in ((h.0.from_1, rest.0), (h.0.before, rest.1))

pub validated : (s t : Desk) (w : Rectangle) (judged errors dirty before after : ℕ) → IsTopology s.project → s.project.next ≤ 4294967295
    → before ≤ 1099511627776 → IsValidatedBy poster w s.project t.project → IsCounted w s.project before after →
    judged ≡ after - before → errors ≡ length t.project.entries → dirty ≡ length t.project.dirt → t.sessions ≡ s.sessions
    → Answers s (Validate w) (Judged judged errors dirty) t
validated s t w judged errors dirty before after law next low v counted j e d same =
    let F = s.project.features in
    let handles = handles_of s.project.next F law.store.given in
    let all = few_handles 1 s.project.next F law.store.from_1 law.store.ascending handles.0 handles.1 in
    let chosen = fewer_chosen _ F counted.subjects counted.those in
    let few : length counted.subjects ≤ 4294967296 = omega (arith, all, chosen, next) in
    let most = few_judged s.project.rules counted.subjects 4294967296 few in
    let bound : judged_of s.project.rules counted.subjects ≤ 1099511627776 = (let r = law.few in omega (arith, most, r)) in
    let is : judged ≡ judged_of s.project.rules counted.subjects = (j ∙ (ap (λ n. n - before) counted.count
    ∙ exact before (judged_of s.project.rules counted.subjects) low bound)) in
    done s t (Validate w) (Judged judged errors dirty) refl (
      judged,
      (counted.subjects, counted.those, is),
      record { project = v; sessions = same },
      rw (e, d) refl,
    )
