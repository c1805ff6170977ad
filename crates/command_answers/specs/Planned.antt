-- Plans of fixes at the desk, edit by edit.
--
-- IsEditNoted editor e d g      the edit is done at the desk d, as a step of the editor's session, and leaves the desk g
-- IsReady editor es p ss        the edits can be done in the project p, one after another, and no other session holds a feature that they
--                               put
-- IsStepped editor es fs d g    the first of the edits es is so done, and fs are left
-- fix_refusal e                 the refusal for a fault of a plan; none of out of memory
-- made_reply made n h           what is answered to a plan of n edits that is done, where h was the next handle
-- AreReady editor x p ss        there is a plan that can be done so, or there is none
-- IsToldSo editor made x p q ss ts r     the plan is all done, and r says what was made; or there is none, r is the refusal for its fault,
--                               and nothing has changed
-- first_other ss hs editor      the refusal for the first of these handles that another session holds
-- IsMoveRefusal d editor from to o     o is why a move is refused at the desk d, unless it is for a shape
use Rattle.std.specs.Prelude.{◌≡◌, ℕ, List, [], ◌∷◌, length, Option, Some, None, Result, MatchOption, MatchResult}
use Rattle.topology_terms.specs.Changes.{reshaped, IsFeatureSet, IsFeatureAdded}
use Rattle.topology_terms.specs.Feature.{feature_at}
use Rattle.topology_terms.specs.Project.{Project}
use Rattle.topology_terms.specs.declared.cause.Cause.TheVariants as cause
use Rattle.session_terms.specs.Kept.{KeptSession, seen}
use Rattle.fix_terms.specs.Plans.{Edit, IsPossible}
use Rattle.fix_terms.specs.declared.edit.Edit.TheVariants.{Put, Add}
use Rattle.fix_tools.specs.declared.fault.FixFault.{FixFault}
use Rattle.fix_tools.specs.declared.fault.FixFault.TheVariants as fault
use Rattle.script_terms.specs.Answer.{LeavesNoted, set_step, added_step}
use Rattle.script_terms.specs.Refusal.{Refusal, Change, NothingToFix, BadShape}
use Rattle.script_terms.specs.State.{Desk}
use Rattle.script_terms.specs.Answer.{AreNoted}
use Rattle.script_terms.specs.Refusing.{refusal_of, held_by}
use Rattle.script_terms.specs.Reply as replies
use Rattle.line_terms.specs.Commands.{Move}
use Rattle.plane_terms.specs.Point.{Place}
use Rattle.session_terms.specs.KeptChanges.{kept_holder}
use Rattle.topology_terms.specs.Causes.{first_of}
use Rattle.reply_text.specs.Replies.{said_of}
use Rattle.reply_text.specs.Replies as seen_replies
use Rattle.reply_text.specs.declared.reply.Reply.{Reply}
use Rattle.reply_text.specs.declared.refusal.Refusal as reply_refusal
use Rattle.command_answers.specs.Refusals.{SaysRefusal}
use Rattle.command_answers.specs.declared.fixes.Made.{Made}
use Rattle.command_answers.specs.declared.fixes.Made.TheVariants as what
use Rattle.script_terms.proofs.Fixing.{AreFree}
use Rattle.command_answers.specs.Worlds.{IsWorld, seen_desk}

abbrev pub IsEditNoted : List ℕ → Edit → Desk → Desk → Type 0
IsEditNoted editor (Put h s) d g =
    let after = reshaped (feature_at d.project.features h) s in
    LeavesNoted editor (set_step d.project h after) (IsFeatureSet h after) d g
IsEditNoted editor (Add c t s) d g =
    let h = d.project.next in
    LeavesNoted editor (added_step h c t s) (IsFeatureAdded c t s h) d g

pub record IsReady (editor : List ℕ) (es : List Edit) (p : Project) (ss : List KeptSession) : Type 0 where
  pub world : IsWorld p ss
  pub free : AreFree editor es (seen (feature_at p.features) ss) p.next
  pub possible : IsPossible es p

abbrev pub IsStepped : List ℕ → List Edit → List Edit → Desk → Desk → Type 0
IsStepped editor es fs d g = (e : Edit) × (es ≡ e ∷ fs) × IsEditNoted editor e d g

abbrev pub fix_refusal : FixFault → Option Refusal
fix_refusal fault.NoRule = Some (Change cause.NoRule)
fix_refusal fault.NoFeature = Some (Change cause.NoFeature)
fix_refusal fault.Nothing = Some NothingToFix
fix_refusal (fault.Bad f) = Some (BadShape f)
fix_refusal fault.Spent = Some (Change cause.HandlesSpent)
fix_refusal fault.NoMemory = None

abbrev pub made_reply : Made → ℕ → ℕ → replies.Reply
made_reply what.Parts n h = replies.Parts n
made_reply what.Done n h = replies.Done
made_reply what.Handle n h = replies.Number h
made_reply what.Moved n h = replies.Moved n

abbrev pub AreReady : List ℕ → Result (List Edit) FixFault → Project → List KeptSession → Type 0
AreReady editor x p ss = MatchResult x (λ es. IsReady editor es p ss) (λ e. Unit {0})

abbrev pub IsToldSo : List ℕ → Made → Result (List Edit) FixFault → Project → Project → List KeptSession → List KeptSession → Reply → Type 0
IsToldSo editor made x p q ss ts r = MatchResult x
    (λ es. ((p2 : Project) → said_of p2 r ≡ made_reply made (length es) p.next) × AreNoted editor es (seen_desk p ss) (seen_desk q ts))
    (λ e. SaysRefusal (fix_refusal e) r × (q ≡ p) × (ts ≡ ss))

abbrev pub first_other : List KeptSession → List ℕ → List ℕ → Option Refusal
first_other ss [] editor = None
first_other ss (h ∷ hs) editor = first_of (held_by (kept_holder ss h) editor ∷ first_other ss hs editor ∷ [])

abbrev pub IsMoveRefusal : Desk → List ℕ → Place → Place → Option reply_refusal.Refusal → Type 0
IsMoveRefusal d editor from to o = MatchOption o (refusal_of d (Move editor from to) ≡ None)
    (λ r. refusal_of d (Move editor from to) ≡ Some (seen_replies.refusal_of r))
