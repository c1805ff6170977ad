-- What the values of replies stand for.
--
-- refusal_of r     the refusal
-- said_of p r      the reply, said of the project p; a listing lists it
use Rattle.topology_terms.specs.Project.{Project}
use Rattle.script_terms.specs.Refusal as refusals
use Rattle.script_terms.specs.Reply as replies
use Rattle.reply_text.specs.declared.refusal.Refusal.{Refusal}
use Rattle.reply_text.specs.declared.refusal.Refusal.TheVariants as refusal
use Rattle.reply_text.specs.declared.reply.Reply.{Reply}
use Rattle.reply_text.specs.declared.reply.Reply.TheVariants as reply

abbrev pub refusal_of : Refusal → refusals.Refusal
refusal_of (refusal.Line r) = refusals.Line r
refusal_of refusal.SessionOpen = refusals.SessionOpen
refusal_of refusal.SessionsFull = refusals.SessionsFull
refusal_of refusal.NoSession = refusals.NoSession
refusal_of (refusal.HeldBy name) = refusals.HeldBy name
refusal_of refusal.NothingToUndo = refusals.NothingToUndo
refusal_of refusal.NothingToRedo = refusals.NothingToRedo
refusal_of refusal.NothingToFix = refusals.NothingToFix
refusal_of (refusal.BadShape fault) = refusals.BadShape fault
refusal_of refusal.SessionsOpen = refusals.SessionsOpen
refusal_of refusal.VersionTaken = refusals.VersionTaken
refusal_of refusal.VersionsFull = refusals.VersionsFull
refusal_of refusal.NoVersion = refusals.NoVersion
refusal_of (refusal.Stale h) = refusals.Stale h
refusal_of refusal.VersionsThere = refusals.VersionsThere
refusal_of (refusal.Change c) = refusals.Change c

abbrev pub said_of : Project → Reply → replies.Reply
said_of p reply.Nothing = replies.Nothing
said_of p reply.Done = replies.Done
said_of p (reply.Number n) = replies.Number n
said_of p (reply.Parts n) = replies.Parts n
said_of p (reply.Moved n) = replies.Moved n
said_of p (reply.Judged s) = replies.Judged s.judged s.errors s.dirty
said_of p (reply.Refused r) = replies.Refused (refusal_of r)
said_of p reply.DirtyList = replies.DirtyList p
said_of p reply.ErrorList = replies.ErrorList p
said_of p reply.CellList = replies.CellList p
said_of p reply.FeatureList = replies.FeatureList p
said_of p reply.RuleList = replies.RuleList p
said_of p (reply.CornerList ks) = replies.CornerList ks.items
said_of p (reply.Merged hs n) = replies.Merged hs n
said_of p (reply.Posted n) = replies.Posted n
