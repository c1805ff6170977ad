-- What a call of the topology answers is what the command is answered.
use Rattle.std.proofs.Common.{◌≡◌, ◌+◌, ℕ, true, false, List, length, Option, Some, None, ap, ◌∙◌, sym, subst, inl, inr}
use Rattle.std.specs.Prelude.{Result, Ok, Err, IfOk, OnOk, IfErr, OnErr, IsSomeAnd, MatchResult, unwrap_or}
use Rattle.plane_terms.specs.Shape.{Shape}
use Rattle.plane_terms.specs.declared.kind.Kind.{Kind}
use Rattle.rule_words.specs.declared.rule_kind.RuleKind.{RuleKind}
use Rattle.topology_terms.specs.Broken.{Row}
use Rattle.topology_terms.specs.Causes.{Tells, class_cause, add_cause, change_cause, delete_cause, rule_cause}
use Rattle.topology_terms.specs.Changes.{IsClassAdded, IsFeatureAdded, IsFeatureSet, IsRuleAdded, reshaped, retyped}
use Rattle.topology_terms.specs.Feature.{Feature, feature_at}
use Rattle.topology_terms.specs.Lookups.{class_number}
use Rattle.topology_terms.specs.Project.{Project, IsOrdered}
use Rattle.feature_store.specs.Keeps.{IsStore}
use Rattle.topology_terms.specs.declared.cause.Cause.{Cause}
use Rattle.feature_store.specs.Faults.{store_cause}
use Rattle.feature_store.specs.declared.fault.StoreFault.{StoreFault}
use Rattle.topo_core.specs.Faults.{edit_cause, row_cause}
use Rattle.topo_core.specs.declared.fault.ChangeFault.{ChangeFault}
use Rattle.topo_core.specs.declared.rule_fault.RuleFault.{RuleFault}
use Rattle.line_terms.specs.Commands.{Sided, Class, Rule, Add, Change as AChange, Delete, Retype}
use Rattle.script_terms.specs.Answer.{Answers, LeavesNoted, added_step}
use Rattle.script_terms.specs.Refusal.{Change}
use Rattle.script_terms.specs.Refusing.{row_of, is_nowhere, refusal_of}
use Rattle.script_terms.specs.Reply.{Done, Number, Refused}
use Rattle.script_terms.specs.State.{is_open}
use Rattle.session_terms.specs.Kept.{KeptSession}
use Rattle.edit_session.specs.SessionsCalls as calls
use Rattle.command_answers.specs.Worlds.{seen_desk, IsWorld, IsRoomAlone}
use Rattle.reply_text.specs.Replies.{said_of}
use Rattle.reply_text.specs.declared.reply.Reply.{Reply}
use Rattle.command_answers.specs.Refusals.{SaysCause}
use Rattle.command_answers.proofs.Noting.{set_done, set_world, add_done, add_world, seen_same, stays_world, class_world, room_done, room_world}
use Rattle.command_answers.proofs.Answering.{class_added, class_refused, rule_added, rule_refused, feature_added, add_refused, feature_changed, change_refused, feature_deleted, delete_refused, feature_retyped, retype_refused}

abbrev Says : {T F : Type 0} → (F → Option Cause) → Result T F → (T → Reply → Type 0) → Reply → Type 0
Says cause called done r = MatchResult called (λ x. done x r) (λ e. SaysCause (cause e) r)

said_at : (o : Option Cause) (p : Project) (r : Reply) → SaysCause o r → IsSomeAnd o (λ c. said_of p r ≡ Refused (Change c))
said_at None p r h = absurd h
said_at (Some c) p r h = h p

-- where the call has failed, what it kept is kept
pub kept_by : {T F U E : Type 0} (P : Type 0) (called : Result T F) (reply : Result U E) → OnErr reply ((e : F) × (called ≡ Err e))
    → OnErr called P → OnErr reply P
kept_by P called (Ok r) spent kept = tt
kept_by P (Ok x) (Err e) spent kept = let no = spent.1 in absurd cc
kept_by P (Err f) (Err e) spent kept = kept

-- the project is the old one, so the state is
pub same_state : (p q : Project) (ss : List KeptSession) → q ≡ p → seen_desk q ss ≡ seen_desk p ss
same_state p q ss e = ap (λ (r : Project). seen_desk r ss) e

-- and the sessions are the old ones, but for room
pub room_state : (p q : Project) (name : List ℕ) (ss ts : List KeptSession) → q ≡ p → IsRoomAlone name ss ts → seen_desk q ts ≡ seen_desk p ss
room_state p q name ss ts e (inl s) = same_state p q ts e ∙ ap (seen_desk p) s
room_state p q name ss ts e (inr r) = same_state p q ts e ∙ room_done p name ss ts r

room_kept : (p q : Project) (name : List ℕ) (ss ts : List KeptSession) → q ≡ p → IsRoomAlone name ss ts → IsWorld p ss → IsWorld q ts
room_kept p q name ss ts e (inl s) w = subst (λ (r : Project). IsWorld r ts) (sym e) (subst (IsWorld p) (sym s) w)
room_kept p q name ss ts e (inr r) w = subst (λ (r : Project). IsWorld r ts) (sym e) (room_world p name ss ts r w)

-- ---- a feature is added
pub add_replied : {E : Type 0} (p q : Project) (ss ts : List KeptSession) (editor : List ℕ) (own : Sided) (shape : Shape) (n u : ℕ)
    (added : Result ℕ ChangeFault) (reply : Result Reply E)
    → u ≡ unwrap_or own.subtype 0 → IsWorld p ss → is_open (seen_desk p ss) editor ≡ true → class_number p own.name ≡ Some n
    → IfOk added (λ h. IsFeatureAdded n u shape h p q) → IfOk added (λ h. calls.IsNoted editor (record { handle = h; kept = None }) ss ts)
    → OnOk added (add_cause p.classes p.next n shape.kind ≡ None)
    → IfErr added (λ e. Tells (edit_cause e) (add_cause p.classes p.next n shape.kind)) → OnErr added (q ≡ p)
    → OnErr added (IsRoomAlone editor ss ts)
    → IfOk reply (Says edit_cause added (λ h r. (p : Project) → said_of p r ≡ Number h))
    → IfOk reply (λ r. Answers (seen_desk p ss) (Add editor own shape) (said_of q r) (seen_desk q ts))
add_replied p q ss ts editor own shape n u added (Err e) bound w opened named ok noted may err kept room said = tt
add_replied p q ss ts editor own shape n u (Ok h) (Ok r) bound w opened named ok noted may err kept room said =
    rw (said q) (feature_added (seen_desk p ss) (seen_desk q ts) editor own shape n h opened named may
    (subst (λ x. LeavesNoted editor (added_step h n x shape) (IsFeatureAdded n x shape h) (seen_desk p ss) (seen_desk q ts)) bound
    (add_done p q editor ss ts n u shape h w ok noted)))
add_replied p q ss ts editor own shape n u (Err e) (Ok r) bound w opened named ok noted may err kept room said =
    add_refused (seen_desk p ss) (seen_desk q ts) editor own shape n (edit_cause e) (said_of q r) opened named err
    (said_at (edit_cause e) q r said) (room_state p q editor ss ts kept room)

pub add_kept : (p q : Project) (ss ts : List KeptSession) (editor : List ℕ) (shape : Shape) (n u : ℕ) (added : Result ℕ ChangeFault)
    → IsStore p.classes p.features p.next → IsWorld p ss
    → IfOk added (λ h. IsFeatureAdded n u shape h p q) → IfOk added (λ h. calls.IsNoted editor (record { handle = h; kept = None }) ss ts)
    → OnErr added (q ≡ p) → OnErr added (IsRoomAlone editor ss ts) → IsWorld q ts
add_kept p q ss ts editor shape n u (Ok h) store w ok noted kept room = add_world p q editor ss ts n u shape h store w ok noted
add_kept p q ss ts editor shape n u (Err e) store w ok noted kept room = room_kept p q editor ss ts kept room w

-- ---- a feature is changed, or deleted
pub change_replied : {E T : Type 0} (p q : Project) (ss ts : List KeptSession) (editor : List ℕ) (h : ℕ) (shape : Shape)
    (changed : Result T ChangeFault) (reply : Result Reply E)
    → IsWorld p ss → IsOrdered p → refusal_of (seen_desk p ss) (Delete editor h) ≡ None
    → OnOk changed (IsFeatureSet h (reshaped (feature_at p.features h) shape) p q)
    → OnOk changed (calls.IsNoted editor (record { handle = h; kept = feature_at p.features h }) ss ts)
    → OnOk changed (change_cause p.features h shape.kind ≡ None)
    → IfErr changed (λ e. Tells (edit_cause e) (change_cause p.features h shape.kind)) → OnErr changed (q ≡ p)
    → OnErr changed (IsRoomAlone editor ss ts)
    → IfOk reply (Says edit_cause changed (λ f r. (p : Project) → said_of p r ≡ Done))
    → IfOk reply (λ r. Answers (seen_desk p ss) (AChange editor h shape) (said_of q r) (seen_desk q ts))
change_replied p q ss ts editor h shape changed (Err e) w ord free ok noted may err kept room said = tt
change_replied p q ss ts editor h shape (Ok f) (Ok r) w ord free ok noted may err kept room said =
    rw (said q) (feature_changed (seen_desk p ss) (seen_desk q ts) editor h shape free may
    (set_done p q editor ss ts h (reshaped (feature_at p.features h) shape) w ord free ok noted))
change_replied p q ss ts editor h shape (Err e) (Ok r) w ord free ok noted may err kept room said =
    change_refused (seen_desk p ss) (seen_desk q ts) editor h shape (edit_cause e) (said_of q r) free err (said_at (edit_cause e) q r said)
    (room_state p q editor ss ts kept room)

pub delete_replied : {E T : Type 0} (p q : Project) (ss ts : List KeptSession) (editor : List ℕ) (h : ℕ) (deleted : Result T ChangeFault)
    (reply : Result Reply E)
    → IsWorld p ss → IsOrdered p → refusal_of (seen_desk p ss) (Delete editor h) ≡ None
    → OnOk deleted (IsFeatureSet h None p q)
    → OnOk deleted (calls.IsNoted editor (record { handle = h; kept = feature_at p.features h }) ss ts)
    → IfErr deleted (λ e. Tells (edit_cause e) (delete_cause p.features h)) → OnErr deleted (q ≡ p)
    → OnErr deleted (IsRoomAlone editor ss ts)
    → IfOk reply (Says edit_cause deleted (λ f r. (p : Project) → said_of p r ≡ Done))
    → IfOk reply (λ r. Answers (seen_desk p ss) (Delete editor h) (said_of q r) (seen_desk q ts))
delete_replied p q ss ts editor h deleted (Err e) w ord free ok noted err kept room said = tt
delete_replied p q ss ts editor h (Ok f) (Ok r) w ord free ok noted err kept room said =
    rw (said q) (feature_deleted (seen_desk p ss) (seen_desk q ts) editor h free (set_done p q editor ss ts h None w ord free ok noted))
delete_replied p q ss ts editor h (Err e) (Ok r) w ord free ok noted err kept room said =
    delete_refused (seen_desk p ss) (seen_desk q ts) editor h (edit_cause e) (said_of q r) free err (said_at (edit_cause e) q r said)
    (room_state p q editor ss ts kept room)

pub retype_replied : {E T : Type 0} (p q : Project) (ss ts : List KeptSession) (editor : List ℕ) (h u : ℕ) (deleted : Result T ChangeFault)
    (reply : Result Reply E)
    → IsWorld p ss → IsOrdered p → refusal_of (seen_desk p ss) (Delete editor h) ≡ None
    → OnOk deleted (IsFeatureSet h (retyped (feature_at p.features h) u) p q)
    → OnOk deleted (calls.IsNoted editor (record { handle = h; kept = feature_at p.features h }) ss ts)
    → IfErr deleted (λ e. Tells (edit_cause e) (delete_cause p.features h)) → OnErr deleted (q ≡ p)
    → OnErr deleted (IsRoomAlone editor ss ts)
    → IfOk reply (Says edit_cause deleted (λ f r. (p : Project) → said_of p r ≡ Done))
    → IfOk reply (λ r. Answers (seen_desk p ss) (Retype editor h u) (said_of q r) (seen_desk q ts))
retype_replied p q ss ts editor h u deleted (Err e) w ord free ok noted err kept room said = tt
retype_replied p q ss ts editor h u (Ok f) (Ok r) w ord free ok noted err kept room said =
    rw (said q) (feature_retyped (seen_desk p ss) (seen_desk q ts) editor h u free
    (set_done p q editor ss ts h (retyped (feature_at p.features h) u) w ord free ok noted))
retype_replied p q ss ts editor h u (Err e) (Ok r) w ord free ok noted err kept room said =
    retype_refused (seen_desk p ss) (seen_desk q ts) editor h u (edit_cause e) (said_of q r) free err (said_at (edit_cause e) q r said)
    (room_state p q editor ss ts kept room)

pub set_kept : {T : Type 0} (p q : Project) (ss ts : List KeptSession) (editor : List ℕ) (h : ℕ) (after : Option Feature)
    (changed : Result T ChangeFault) → IsStore p.classes p.features p.next → IsWorld p ss → IsOrdered p
    → refusal_of (seen_desk p ss) (Delete editor h) ≡ None → OnOk changed (IsFeatureSet h after p q)
    → OnOk changed (calls.IsNoted editor (record { handle = h; kept = feature_at p.features h }) ss ts)
    → OnOk changed ((f : Feature) × (feature_at p.features h ≡ Some f)) → OnErr changed (q ≡ p) → OnErr changed (IsRoomAlone editor ss ts)
    → IsWorld q ts
set_kept p q ss ts editor h after (Ok u) store w ord free ok noted live kept room =
    set_world p q editor ss ts h live.0 after store w ord free live.1 ok noted
set_kept p q ss ts editor h after (Err e) store w ord free ok noted live kept room = room_kept p q editor ss ts kept room w

-- ---- a class, or a rule
pub class_replied : {E : Type 0} (p q : Project) (ss : List KeptSession) (name : List ℕ) (k : Kind) (added : Result ℕ StoreFault)
    (reply : Result Reply E)
    → OnOk added (IsClassAdded name k p q) → IfOk added (λ n. n ≡ length p.classes + 1) → OnOk added (class_cause p.classes name ≡ None)
    → IfErr added (λ e. Tells (store_cause e) (class_cause p.classes name)) → OnErr added (q ≡ p)
    → IfOk reply (Says store_cause added (λ n r. (p : Project) → said_of p r ≡ Number n))
    → IfOk reply (λ r. Answers (seen_desk p ss) (Class name k) (said_of q r) (seen_desk q ss))
class_replied p q ss name k added (Err e) ok number may err kept said = tt
class_replied p q ss name k (Ok n) (Ok r) ok number may err kept said = rw (said q)
    (class_added (seen_desk p ss) (seen_desk q ss) name k n may number ok (seen_same p q ss ok.features))
class_replied p q ss name k (Err e) (Ok r) ok number may err kept said =
    class_refused (seen_desk p ss) (seen_desk q ss) name k (store_cause e) (said_of q r) err (said_at (store_cause e) q r said)
    (same_state p q ss kept)

pub class_kept : (p q : Project) (ss : List KeptSession) (name : List ℕ) (k : Kind) (added : Result ℕ StoreFault) → IsWorld p ss
    → OnOk added (IsClassAdded name k p q) → OnErr added (q ≡ p) → IsWorld q ss
class_kept p q ss name k (Ok n) w ok kept = class_world p q ss (record { name = name; kind = k }) ok.classes ok.features ok.next w
class_kept p q ss name k (Err e) w ok kept = subst (λ (r : Project). IsWorld r ss) (sym kept) w

pub rule_replied : {E : Type 0} (p q : Project) (ss : List KeptSession) (k : RuleKind) (origin : Sided) (dest : Option Sided)
    (row : Row) (added : Result ℕ RuleFault) (reply : Result Reply E)
    → is_nowhere p dest ≡ false → row ≡ row_of p k origin dest
    → IfOk added (λ n. IsRuleAdded n row p q) → OnOk added (rule_cause p row ≡ None)
    → IfErr added (λ e. Tells (row_cause e) (rule_cause p row)) → OnErr added (q ≡ p)
    → IfOk reply (Says row_cause added (λ n r. (p : Project) → said_of p r ≡ Number n))
    → IfOk reply (λ r. Answers (seen_desk p ss) (Rule k origin dest) (said_of q r) (seen_desk q ss))
rule_replied p q ss k origin dest row added (Err e) there is ok may err kept said = tt
rule_replied p q ss k origin dest row (Ok n) (Ok r) there is ok may err kept said =
    rw (said q) (rule_added (seen_desk p ss) (seen_desk q ss) k origin dest n there (rw is at may) (rw is at ok)
    (seen_same p q ss ok.features))
rule_replied p q ss k origin dest row (Err e) (Ok r) there is ok may err kept said =
    rule_refused (seen_desk p ss) (seen_desk q ss) k origin dest (row_cause e) (said_of q r) there (rw is at err)
    (said_at (row_cause e) q r said) (same_state p q ss kept)

pub rule_kept : (p q : Project) (ss : List KeptSession) (row : Row) (added : Result ℕ RuleFault) → IsWorld p ss
    → IfOk added (λ n. IsRuleAdded n row p q) → OnErr added (q ≡ p) → IsWorld q ss
rule_kept p q ss row (Ok n) w ok kept = stays_world p q ss ok.features ok.next ok.classes w
rule_kept p q ss row (Err e) w ok kept = subst (λ (r : Project). IsWorld r ss) (sym kept) w
