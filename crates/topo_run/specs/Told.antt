-- What the answer to a line tells.
--
-- judged_in reply           how many pairs the reply says were judged; none but that of a validation says any
-- Keeps s t                 where the state s is sound, t is, and the headline holds in it; where s is settled too, the invariant does
-- IsReplyTo s line reply t  in the state s the line is answered so, and t is the state after it, which keeps so much; and the pairs that
--                           the line tries are those of which the reply tells
-- Course start all rest now refused     a run over the lines that are done: these are left of all, this is the state, and some line was
--                           refused, or none; each state of it keeps so much of the start
-- IsTold start all rest now count refused     such a run, whose validations tried so many pairs
-- WritesTo start lines before now refused end     the whole text of a run was written, and this is the state that it comes to
-- EndsAt start end s k status     a replay from this start ends with this status; where all lines of the source are answered, this is the
--                           state at their end
use Rattle.std.specs.Prelude.{ℕ, ◌≡◌, Bool, true, false, List, ◌++◌, Option}
use Rattle.reply_text.specs.declared.reply.Reply.{Reply}
use Rattle.reply_text.specs.declared.reply.Reply.TheVariants as reply
use Rattle.reply_text.specs.Replies.{said_of}
use Rattle.topology_terms.specs.Settled.{IsSettled}
use Rattle.topology_terms.specs.Sound.{IsSound}
use Rattle.script_terms.specs.State.{State, OfAll}
use Rattle.script_terms.specs.Reply.{reply_text}
use Rattle.script_terms.specs.Headline.{SoundHeadline, Invariant}
use Rattle.script_terms.specs.Ends.{Replays, EndsFrom}
use Rattle.script_terms.specs.Run.{Outcome, Run, Step, is_refusal, any_refused, last_state, EachSound, EachInvariant, WritesRun}
use Rattle.outside_terms.specs.Reads.{Passage}
use Rattle.outside_terms.specs.declared.end.End.TheVariants.{AtEnd}
use Rattle.outside_terms.specs.declared.status.Status.{Status}
use Rattle.outside_terms.specs.declared.status.Status.TheVariants as status
use Rattle.town_terms.specs.Ends.{IsJudgedBy, AreJudged}

abbrev pub judged_in : Reply → ℕ
judged_in (reply.Judged summary) = summary.judged
judged_in other = 0

pub record Keeps (s t : State) : Type 0 where
  pub sound : OfAll IsSound s → OfAll SoundHeadline t
  pub invariant : OfAll IsSound s → OfAll IsSettled s → OfAll Invariant t

pub record IsReplyTo (s : State) (line : List ℕ) (r : Reply) (t : State) : Type 0 where
  pub step : Step s line (record { text = reply_text (said_of t.project r); after = t; refused = is_refusal (said_of t.project r) })
  pub keeps : Keeps s t
  pub judged : IsJudgedBy s line (judged_in r)

pub record Course (start : State) (all rest : List (List ℕ)) (now : State) (refused : Bool) : Type 0 where
  pub done : List (List ℕ)
  pub split : all ≡ done ++ rest
  pub outcomes : List Outcome
  pub run : Run start done outcomes
  pub last : last_state start outcomes ≡ now
  pub any : any_refused outcomes ≡ refused
  pub sound : OfAll IsSound start → EachSound start outcomes
  pub invariant : OfAll IsSound start → OfAll IsSettled start → EachInvariant start outcomes

pub record IsTold (start : State) (all rest : List (List ℕ)) (now : State) (count : ℕ) (refused : Bool) : Type 0 where
  pub course : Course start all rest now refused
  pub judged : AreJudged 0 start course.done course.outcomes count

pub record WritesTo (start : State) (lines : List (List ℕ)) (before now : Option (List ℕ)) (refused : Bool) (end : State) : Type 0 where
  pub run : WritesRun start lines before now refused
  pub last : last_state start run.outcomes ≡ end

-- all of the source was replayed, and this is the state at its end
pub record ReplaysTo (start end : State) (s k : Passage) (refused : Bool) : Type 0 where
  pub kept : List ℕ
  pub all : Replays start s k kept AtEnd refused
  pub last : last_state start all.run.outcomes ≡ end

abbrev pub EndsAt : State → State → Passage → Passage → Status → Type 0
EndsAt start end s k status.Done = ReplaysTo start end s k false
EndsAt start end s k status.Refused = ReplaysTo start end s k true
EndsAt start end s k other = EndsFrom start s k other
