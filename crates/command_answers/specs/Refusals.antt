-- What is answered where nothing was changed.
--
-- SaysCause o r        there is a cause, and the reply r, said of any project, is the refusal for it
-- session_refusal e    the refusal for a fault of a session; none of out of memory
-- tree_refusal e       the refusal for a fault of the versions; none of out of memory
-- SaysRefusal o r      there is a refusal, and the reply r, said of any project, is it
use Rattle.std.specs.Prelude.{◌≡◌, Option, Some, None, IsSomeAnd}
use Rattle.topology_terms.specs.Project.{Project}
use Rattle.topology_terms.specs.declared.cause.Cause.{Cause}
use Rattle.edit_session.specs.declared.fault.SessionFault.{SessionFault}
use Rattle.edit_session.specs.declared.fault.SessionFault.TheVariants as fault
use Rattle.script_terms.specs.Refusal.{Refusal, Change, SessionOpen, SessionsFull, NoSession, NothingToUndo, NothingToRedo, VersionTaken, VersionsFull, NoVersion, Stale}
use Rattle.version_tree.specs.declared.fault.TreeFault.{TreeFault}
use Rattle.version_tree.specs.declared.fault.TreeFault.TheVariants as tree
use Rattle.script_terms.specs.Reply.{Refused}
use Rattle.reply_text.specs.Replies.{said_of}
use Rattle.reply_text.specs.declared.reply.Reply.{Reply}

abbrev pub SaysRefusal : Option Refusal → Reply → Type 0
SaysRefusal o r = IsSomeAnd o (λ x. (p : Project) → said_of p r ≡ Refused x)

abbrev pub SaysCause : Option Cause → Reply → Type 0
SaysCause o r = IsSomeAnd o (λ c. (p : Project) → said_of p r ≡ Refused (Change c))

abbrev pub session_refusal : SessionFault → Option Refusal
session_refusal fault.OpenAlready = Some SessionOpen
session_refusal fault.SessionsFull = Some SessionsFull
session_refusal fault.NoSession = Some NoSession
session_refusal fault.NothingToUndo = Some NothingToUndo
session_refusal fault.NothingToRedo = Some NothingToRedo
session_refusal fault.NoMemory = None

abbrev pub tree_refusal : TreeFault → Option Refusal
tree_refusal tree.Taken = Some VersionTaken
tree_refusal tree.Full = Some VersionsFull
tree_refusal tree.NoVersion = Some NoVersion
tree_refusal (tree.Stale h) = Some (Stale h)
tree_refusal tree.NoMemory = None
