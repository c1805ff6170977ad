-- A mark that is set or taken away: what is answered, and what stays.
use Rattle.std.proofs.Common.{◌≡◌, ℕ, Bool, true, false, List, Some, None, refl, sym, ◌∙◌, ap, subst}
use Rattle.std.specs.Prelude.{Result, Ok, Err, OnOk, OnErr, IfErr, MatchResult}
use Rattle.topology_terms.specs.Causes.{mark_cause}
use Rattle.topology_terms.specs.Changes.{IsMarked}
use Rattle.topology_terms.specs.Project.{Project}
use Rattle.error_store.specs.Marking.{fault_cause}
use Rattle.error_store.specs.declared.fault.MarkFault.{MarkFault}
use Rattle.line_terms.specs.Commands.{Command, Mark, Unmark}
use Rattle.session_terms.specs.Kept.{KeptSession}
use Rattle.script_terms.specs.Answer.{Answers, IsDone}
use Rattle.script_terms.specs.Refusal.{Change}
use Rattle.script_terms.specs.Refusing.{refusal_of, changes}
use Rattle.script_terms.specs.Reply.{Done, Refused}
use Rattle.script_terms.specs.State.{Desk}
use Rattle.reply_text.specs.Replies.{said_of}
use Rattle.reply_text.specs.declared.reply.Reply.{Reply}
use Rattle.command_answers.specs.Worlds.{seen_desk, IsWorld}
use Rattle.command_answers.proofs.Answering.{did, refused}
use Rattle.command_answers.proofs.Noting.{seen_same, stays_world}
use Rattle.command_answers.proofs.Replying.{same_state}

-- the line that marks, or takes the mark away
abbrev pub mark_line : Bool → ℕ → ℕ → ℕ → Command
mark_line true r a b = Mark r a b
mark_line false r a b = Unmark r a b

line_refusal : (s : Desk) (on : Bool) (r a b : ℕ) → refusal_of s (mark_line on r a b) ≡ changes (mark_cause s.project.entries r a b on)
line_refusal s true r a b = refl
line_refusal s false r a b = refl

line_done : (s t : Desk) (on : Bool) (r a b : ℕ) → IsMarked r a b on s.project t.project → t.sessions ≡ s.sessions
    → IsDone s (mark_line on r a b) Done t
line_done s t true r a b m e = (refl, record { project = m; sessions = e })
line_done s t false r a b m e = (refl, record { project = m; sessions = e })

pub mark_replied : {T : Type 0} (p q : Project) (ss : List KeptSession) (r a b : ℕ) (on : Bool) (marked : Result T MarkFault)
    (reply : Reply)
    → OnOk marked (IsMarked r a b on p q) → OnOk marked (mark_cause p.entries r a b on ≡ None)
    → IfErr marked (λ e. mark_cause p.entries r a b on ≡ Some (fault_cause e)) → OnErr marked (q ≡ p)
    → MatchResult marked (λ u. (p : Project) → said_of p reply ≡ Done) (λ e. (p : Project)
    → said_of p reply ≡ Refused (Change (fault_cause e)))
    → Answers (seen_desk p ss) (mark_line on r a b) (said_of q reply) (seen_desk q ss)
mark_replied p q ss r a b on (Ok u) reply ok may err kept said =
    let s = seen_desk p ss in
    let t = seen_desk q ss in
    rw (said q) (did s t (mark_line on r a b) Done (mark_cause p.entries r a b on) (line_refusal s on r a b) may
    (line_done s t on r a b ok (seen_same p q ss ok.marking.features)))
mark_replied p q ss r a b on (Err e) reply ok may err kept said =
    let s = seen_desk p ss in
    refused s (seen_desk q ss) (mark_line on r a b) (said_of q reply) (Change (fault_cause e)) (line_refusal s on r a b ∙ ap changes err)
    (said q) (same_state p q ss kept)

pub mark_kept : {T : Type 0} (p q : Project) (ss : List KeptSession) (r a b : ℕ) (on : Bool) (marked : Result T MarkFault)
    → IsWorld p ss → OnOk marked (IsMarked r a b on p q) → OnErr marked (q ≡ p) → IsWorld q ss
mark_kept p q ss r a b on (Ok u) w ok kept = let m = ok.marking in stays_world p q ss m.features m.next m.classes w
mark_kept p q ss r a b on (Err e) w ok kept = subst (λ (r : Project). IsWorld r ss) (sym kept) w
