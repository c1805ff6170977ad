-- A line that is read and answered is a step, and tries the pairs of which its reply tells.
use Rattle.std.proofs.Common.{◌≡◌, ℕ, Bool, List, ◌++◌, refl, ◌∙◌, ap, Option, Some, None, inl, inr}
use Rattle.topology_terms.specs.Project.{Project, IsOrdered}
use Rattle.topology_terms.specs.Settled.{IsSettled}
use Rattle.topology_terms.specs.Sound.{IsSound}
use Rattle.line_terms.specs.Commands.{Command, Blank, Class, Rule, DropRule, Begin, End, Discard, Add, Change, Retype, Delete, Undo, Redo, Explode, Snap, Create, Move, Validate, Mark, Unmark, Dirty, Errors, Cells, Features, Rules, Corners, Version, In, Reconcile, Post}
use Rattle.line_terms.specs.Lines.{IsCommandLine, IsLineFault}
use Rattle.script_text.specs.Faults.{IsFault}
use Rattle.script_text.specs.declared.fault.LineFault.{LineFault}
use Rattle.script_text.specs.declared.fault.LineFault.TheVariants as fault
use Rattle.line_terms.specs.declared.line_refusal.LineRefusal.{LineRefusal}
use Rattle.script_terms.specs.Refusal.{Refusal}
use Rattle.script_terms.specs.Refusing.{refusal_of}
use Rattle.script_terms.specs.Reply.{Judged, reply_text}
use Rattle.script_terms.specs.Reply as replies
use Rattle.script_terms.specs.State.{State, Desk, OfAll, desk_of}
use Rattle.script_terms.specs.Answer.{Answers, IsDone, IsFixed}
use Rattle.fix_terms.specs.Plans.{Edit}
use Rattle.topology_terms.specs.Feature.{Feature}
use Rattle.script_terms.specs.Versions.{IsAnswered, IsMade, barred}
use Rattle.std.specs.Prelude.{MatchOption}
use Rattle.script_terms.specs.Headline.{SoundHeadline, Invariant}
use Rattle.script_terms.proofs.Runs.{answers_by}
use Rattle.script_terms.specs.Run.{Reads, Faulty, Step, is_refusal}
use Rattle.reply_text.specs.declared.reply.Reply.{Reply}
use Rattle.reply_text.specs.declared.reply.Reply.TheVariants as reply
use Rattle.reply_text.specs.declared.refusal.Refusal.TheVariants as refusal
use Rattle.reply_text.specs.Replies.{said_of}
use Rattle.town_terms.specs.Ends.{Judges}
use Rattle.topo_run.specs.Told.{Keeps, IsReplyTo, judged_in}

-- what a line does to what is gathered, and to the state
abbrev pub Takes : State → List ℕ → List ℕ → List ℕ → Bool → State → Type 0
Takes s line old new refused t = (text : List ℕ) × (new ≡ old ++ text) × Step s line (record { text = text; after = t; refused = refused })
    × Keeps s t

-- ---- how many pairs a command tries
abbrev pub judged_said : replies.Reply → ℕ
judged_said (Judged j e d) = j
judged_said other = 0

said_judged : (p : Project) (r : Reply) → judged_said (said_of p r) ≡ judged_in r
said_judged p reply.Nothing = refl
said_judged p reply.Done = refl
said_judged p (reply.Number n) = refl
said_judged p (reply.Parts n) = refl
said_judged p (reply.Moved n) = refl
said_judged p (reply.Judged s) = refl
said_judged p (reply.Refused r) = refl
said_judged p reply.DirtyList = refl
said_judged p reply.ErrorList = refl
said_judged p reply.CellList = refl
said_judged p reply.FeatureList = refl
said_judged p reply.RuleList = refl
said_judged p (reply.CornerList ks) = refl
said_judged p (reply.Merged hs n) = refl
said_judged p (reply.Posted n) = refl

none_tried : (o : Option Refusal) (s t : Desk) (c : Command) (r : replies.Reply) → (IsDone s c r t → judged_said r ≡ 0) → answers_by o s c r t
    → judged_said r ≡ 0
none_tried (Some x) s t c r done h = ap judged_said h.0
none_tried None s t c r done h = done h

-- a fix says none, whether it is done or refused for a shape
fix_tried : {P : List Feature → Type 0} {editor : List ℕ} {es : List Edit} {s t : Desk} {r says : replies.Reply}
    → IsFixed editor es P says s r t → judged_said says ≡ 0 → judged_said r ≡ 0
fix_tried (inl x) e = ap judged_said x.1 ∙ e
fix_tried (inr y) e = ap judged_said y.2

tried : (s : State) (t : Desk) (c : Command) (r : replies.Reply) → Answers (desk_of s) c r t → Judges s c (judged_said r)
tried s t (Validate w) r h =
    (h.1.0, h.1.1, ap judged_said h.3 ∙ h.1.2)
tried s t Blank r h = none_tried (refusal_of (desk_of s) Blank) (desk_of s) t Blank r (λ d. ap judged_said d.0) h
tried s t (Class name k) r h = none_tried (refusal_of (desk_of s) (Class name k)) (desk_of s) t (Class name k) r (λ d. ap judged_said d.0) h
tried s t (Rule k o d) r h = none_tried (refusal_of (desk_of s) (Rule k o d)) (desk_of s) t (Rule k o d) r (λ e. ap judged_said e.1) h
tried s t (DropRule n) r h = none_tried (refusal_of (desk_of s) (DropRule n)) (desk_of s) t (DropRule n) r (λ d. ap judged_said d.0) h
tried s t (Begin e) r h = none_tried (refusal_of (desk_of s) (Begin e)) (desk_of s) t (Begin e) r (λ d. ap judged_said d.0) h
tried s t (End e) r h = none_tried (refusal_of (desk_of s) (End e)) (desk_of s) t (End e) r (λ d. ap judged_said d.0) h
tried s t (Discard e) r h = none_tried (refusal_of (desk_of s) (Discard e)) (desk_of s) t (Discard e) r (λ d. ap judged_said d.0) h
tried s t (Add e c f) r h = none_tried (refusal_of (desk_of s) (Add e c f)) (desk_of s) t (Add e c f) r (λ d. ap judged_said d.1) h
tried s t (Change e a f) r h = none_tried (refusal_of (desk_of s) (Change e a f)) (desk_of s) t (Change e a f) r (λ d. ap judged_said d.0) h
tried s t (Retype e a b) r h = none_tried (refusal_of (desk_of s) (Retype e a b)) (desk_of s) t (Retype e a b) r (λ d. ap judged_said d.0) h
tried s t (Delete e a) r h = none_tried (refusal_of (desk_of s) (Delete e a)) (desk_of s) t (Delete e a) r (λ d. ap judged_said d.0) h
tried s t (Undo e) r h = none_tried (refusal_of (desk_of s) (Undo e)) (desk_of s) t (Undo e) r (λ d. ap judged_said d.0) h
tried s t (Redo e) r h = none_tried (refusal_of (desk_of s) (Redo e)) (desk_of s) t (Redo e) r (λ d. ap judged_said d.0) h
tried s t (Explode e a) r h = none_tried (refusal_of (desk_of s) (Explode e a)) (desk_of s) t (Explode e a) r (λ d. ap judged_said d.2) h
tried s t (Snap e n a b q) r h = none_tried (refusal_of (desk_of s) (Snap e n a b q)) (desk_of s) t (Snap e n a b q) r (λ d. fix_tried d.4 refl) h
tried s t (Create e n a q) r h = none_tried (refusal_of (desk_of s) (Create e n a q)) (desk_of s) t (Create e n a q) r (λ d. ap judged_said d.4) h
tried s t (Move e q p) r h = none_tried (refusal_of (desk_of s) (Move e q p)) (desk_of s) t (Move e q p) r (λ d. fix_tried d refl) h
tried s t (Mark n a b) r h = none_tried (refusal_of (desk_of s) (Mark n a b)) (desk_of s) t (Mark n a b) r (λ d. ap judged_said d.0) h
tried s t (Unmark n a b) r h = none_tried (refusal_of (desk_of s) (Unmark n a b)) (desk_of s) t (Unmark n a b) r (λ d. ap judged_said d.0) h
tried s t Dirty r h = none_tried (refusal_of (desk_of s) Dirty) (desk_of s) t Dirty r (λ d. ap judged_said d.0) h
tried s t Errors r h = none_tried (refusal_of (desk_of s) Errors) (desk_of s) t Errors r (λ d. ap judged_said d.0) h
tried s t Cells r h = none_tried (refusal_of (desk_of s) Cells) (desk_of s) t Cells r (λ d. ap judged_said d.0) h
tried s t Features r h = none_tried (refusal_of (desk_of s) Features) (desk_of s) t Features r (λ d. ap judged_said d.0) h
tried s t Rules r h = none_tried (refusal_of (desk_of s) Rules) (desk_of s) t Rules r (λ d. ap judged_said d.0) h
tried s t (Corners n a b) r h = none_tried (refusal_of (desk_of s) (Corners n a b)) (desk_of s) t (Corners n a b) r (λ d. ap judged_said d.0.4) h
tried s t (Version n) r h = absurd h
tried s t (In n) r h = absurd h
tried s t (Reconcile n) r h = absurd h
tried s t (Post n) r h = absurd h

-- a line that the versions bar tries none
barred_tried : (o : Option Refusal) (s t : State) (c : Command) (r : replies.Reply) → (IsMade s c r t → judged_said r ≡ 0)
    → MatchOption o (IsMade s c r t) (λ x. (r ≡ replies.Refused x) × (t ≡ s)) → judged_said r ≡ 0
barred_tried (Some x) s t c r done h = ap judged_said h.0
barred_tried None s t c r done h = done h

all_tried : (s t : State) (c : Command) (r : replies.Reply) → IsAnswered s c r t → Judges s c (judged_said r)
all_tried s t (Validate w) r h = tried s (desk_of t) (Validate w) r h.0
all_tried s t Blank r h = tried s (desk_of t) Blank r h.0
all_tried s t (Class name k) r h = barred_tried (barred s (Class name k)) s t (Class name k) r (λ a. tried s (desk_of t) (Class name k) r a.0) h
all_tried s t (Rule k o d) r h = barred_tried (barred s (Rule k o d)) s t (Rule k o d) r (λ a. tried s (desk_of t) (Rule k o d) r a.0) h
all_tried s t (DropRule n) r h = barred_tried (barred s (DropRule n)) s t (DropRule n) r (λ a. tried s (desk_of t) (DropRule n) r a.0) h
all_tried s t (Begin e) r h = tried s (desk_of t) (Begin e) r h.0
all_tried s t (End e) r h = tried s (desk_of t) (End e) r h.0
all_tried s t (Discard e) r h = tried s (desk_of t) (Discard e) r h.0
all_tried s t (Add e c f) r h = tried s (desk_of t) (Add e c f) r h.0
all_tried s t (Change e a f) r h = tried s (desk_of t) (Change e a f) r h.0
all_tried s t (Retype e a b) r h = tried s (desk_of t) (Retype e a b) r h.0
all_tried s t (Delete e a) r h = tried s (desk_of t) (Delete e a) r h.0
all_tried s t (Undo e) r h = tried s (desk_of t) (Undo e) r h.0
all_tried s t (Redo e) r h = tried s (desk_of t) (Redo e) r h.0
all_tried s t (Explode e a) r h = tried s (desk_of t) (Explode e a) r h.0
all_tried s t (Snap e n a b q) r h = tried s (desk_of t) (Snap e n a b q) r h.0
all_tried s t (Create e n a q) r h = tried s (desk_of t) (Create e n a q) r h.0
all_tried s t (Move e q p) r h = tried s (desk_of t) (Move e q p) r h.0
all_tried s t (Mark n a b) r h = tried s (desk_of t) (Mark n a b) r h.0
all_tried s t (Unmark n a b) r h = tried s (desk_of t) (Unmark n a b) r h.0
all_tried s t Dirty r h = tried s (desk_of t) Dirty r h.0
all_tried s t Errors r h = tried s (desk_of t) Errors r h.0
all_tried s t Cells r h = tried s (desk_of t) Cells r h.0
all_tried s t Features r h = tried s (desk_of t) Features r h.0
all_tried s t Rules r h = tried s (desk_of t) Rules r h.0
all_tried s t (Corners n a b) r h = tried s (desk_of t) (Corners n a b) r h.0
all_tried s t (Version n) r h = barred_tried (barred s (Version n)) s t (Version n) r (λ a. ap judged_said a.0) h
all_tried s t (In n) r h = barred_tried (barred s (In n)) s t (In n) r (λ a. ap judged_said a.0) h
all_tried s t (Reconcile n) r h = barred_tried (barred s (Reconcile n)) s t (Reconcile n) r (λ a. ap judged_said a.2) h
all_tried s t (Post n) r h = barred_tried (barred s (Post n)) s t (Post n) r (λ a. elim a [
  | inl k ↦ ap judged_said k.2
  | inr k ↦ ap judged_said k.1
]) h

-- ---- what a state keeps of the one before
pub keeps_by : (s t : State) → (OfAll IsSound s → OfAll IsSound t) → (OfAll IsSettled s → OfAll IsSettled t)
    → (OfAll IsSound t → OfAll SoundHeadline t) → (OfAll IsSound t → OfAll IsSettled t → OfAll Invariant t) → Keeps s t
keeps_by s t sound settled headline invariant = record {
  sound = λ k. headline (sound k);
  invariant = λ k l. invariant (sound k) (settled l);
}

-- ---- the answer to a line
pub answers : (s t : State) (line : List ℕ) (c : Command) (r : Reply) → IsCommandLine line c → IsAnswered s c (said_of t.project r) t
    → OfAll IsOrdered t → Keeps s t → IsReplyTo s line r t
answers s t line c r reads answer ordered keeps = record {
  step = record {
    reading = Reads c;
    reads = reads;
    comes = (said_of t.project r, answer, refl, refl);
    ordered = ordered;
  };
  keeps = keeps;
  judged = record {
    reading = Reads c;
    reads = reads;
    judges = rw (said_judged t.project r) at (all_tried s t c (said_of t.project r) answer);
  };
}

pub refuses : (s : State) (line : List ℕ) (r : LineRefusal) → OfAll IsOrdered s → Keeps s s
    → ((c : Command) → ¬ (IsCommandLine line c)) → IsLineFault line r → IsReplyTo s line (reply.Refused (refusal.Line r)) s
refuses s line r ordered keeps none fault = record {
  step = record {
    reading = Faulty r;
    reads = (none, fault);
    comes = (refl, refl, refl);
    ordered = ordered;
  };
  keeps = keeps;
  judged = record { reading = Faulty r; reads = (none, fault); judges = refl };
}

-- its text is gathered
pub gathers : (s t : State) (line old new : List ℕ) (r : Reply) (refused : Bool) → IsReplyTo s line r t
    → new ≡ old ++ reply_text (said_of t.project r) → refused ≡ is_refusal (said_of t.project r) → Takes s line old new refused t
gathers s t line old new r refused h grown is = (reply_text (said_of t.project r), grown, rw is h.step, h.keeps)

-- the fault of a line that is refused
pub fault_of : (line : List ℕ) (e : LineFault) (r : LineRefusal) → e ≡ fault.Refused r → IsFault line e → IsLineFault line r
fault_of line e r is h = rw is at h
