-- What a line answers with all versions: refused for them, or answered at the desk, with what stands aside as it was.
use Rattle.std.proofs.Common.{◌≡◌, inl, inr, ℕ, Bool, true, false, List, [], ◌∷◌, length, Option, Some, None, refl, sym, ◌∙◌, ap, subst, eqb}
use Rattle.std.specs.Prelude.{Result, Ok, Err, IfOk, MatchOption, not}
use Rattle.std.proofs.lemmas.Bool.{eqb-true}
use Rattle.plane_terms.specs.Lists.{Every}
use Rattle.topology_terms.specs.Causes.{when}
use Rattle.topology_terms.specs.Meaning.{CutsRight, Laws}
use Rattle.topology_terms.specs.Poster.{poster}
use Rattle.topology_terms.specs.Project.{Project, IsOrdered}
use Rattle.topology_terms.specs.Session.{Session}
use Rattle.topology_terms.specs.Settled.{IsSettled}
use Rattle.topology_terms.specs.Sound.{IsSound}
use Rattle.version_tree.specs.Trees.{AreLawful}
use Rattle.version_terms.specs.Versions.{Version, Tree, all_of}
use Rattle.line_terms.specs.Commands.{Command, Blank, Class, Rule, DropRule, Begin, End, Discard, Add, Change, Delete, Retype, Undo, Redo, Explode, Snap, Create, Move, Validate, Mark, Unmark, Dirty, Errors, Cells, Features, Rules, Corners, Version as AVersion, In, Reconcile, Post}
use Rattle.topology_terms.specs.Feature.{IsAscending}
use Rattle.one_tree.proofs.OneTree.{not_both, one_create, one_go, one_posting, one_reconcile, one_stale}
use Rattle.session_terms.specs.Kept.{KeptSession}
use Rattle.script_terms.specs.Answer.{Answers}
use Rattle.script_terms.specs.Headline.{Invariant, SoundHeadline}
use Rattle.script_terms.specs.Refusal.{Refusal, Stale, VersionsThere}
use Rattle.script_terms.specs.Reply.{Reply, Merged, Posted, Refused}
use Rattle.script_terms.specs.State.{Aside, Desk, State, OfAll, desk_of, tree_of}
use Rattle.script_terms.specs.Versions.{IsAnswered, IsMade, barred, is_of_one}
use Rattle.script_terms.proofs.Desks.{desk_made, made_at_desk}
use Rattle.reply_text.specs.Replies.{said_of}
use Rattle.reply_text.specs.declared.reply.Reply as code
use Rattle.command_answers.specs.Worlds.{state_of}
use Rattle.command_answers.proofs.Headlines.{invariant, sound_headline}
use Rattle.command_answers.proofs.OneAnswer.{Same, one_answer}

-- ---- each version
pub keeps_all : (P : Project → Type 0) (s t : State) → (P s.project → P t.project) → t.aside ≡ s.aside → OfAll P s → OfAll P t
keeps_all P s t keeps same h =
    (keeps h.0, subst (λ (a : Aside). Every (λ (v : Version). P v.project) a.others) (sym same) h.1)

each_sound : Laws poster → (vs : List Version) → AreLawful vs → Every (λ (v : Version). IsSound v.project) vs
    → Every (λ (v : Version). SoundHeadline v.project) vs
each_sound L [] t s = tt
each_sound L (v ∷ vs) t s = (sound_headline v.project L t.0.0 s.0, each_sound L vs t.1 s.1)

each_invariant : Laws poster → (vs : List Version) → AreLawful vs → Every (λ (v : Version). IsSound v.project) vs
    → Every (λ (v : Version). IsSettled v.project) vs → Every (λ (v : Version). Invariant v.project) vs
each_invariant L [] t s k = tt
each_invariant L (v ∷ vs) t s k = (invariant v.project L t.0.0 s.0 k.0, each_invariant L vs t.1 s.1 k.1)

each_ordered : (vs : List Version) → AreLawful vs → Every (λ (v : Version). IsOrdered v.project) vs
each_ordered [] t = tt
each_ordered (v ∷ vs) t = (t.0.1, each_ordered vs t.1)

pub all_sound : Laws poster → (t : Tree) (ss : List KeptSession) → AreLawful (all_of t) → OfAll IsSound (state_of t ss)
    → OfAll SoundHeadline (state_of t ss)
all_sound L t ss k s = each_sound L (all_of t) k s

pub all_invariant : Laws poster → (t : Tree) (ss : List KeptSession) → AreLawful (all_of t) → OfAll IsSound (state_of t ss)
    → OfAll IsSettled (state_of t ss) → OfAll Invariant (state_of t ss)
all_invariant L t ss k s m = each_invariant L (all_of t) k s m

pub all_ordered : (t : Tree) (ss : List KeptSession) → AreLawful (all_of t) → OfAll IsOrdered (state_of t ss)
all_ordered t ss k = each_ordered (all_of t) k

-- ---- the answer
pub barred_answered : (s : State) (c : Command) → barred s c ≡ when true VersionsThere → IsAnswered s c (Refused VersionsThere) s
barred_answered s c e = rw e (refl, refl)

pub desk_answered : (s t : State) (c : Command) (reply : Reply) → is_of_one c ≡ true → barred s c ≡ when false VersionsThere
    → Answers (desk_of s) c reply (desk_of t) → t.aside ≡ s.aside → IsAnswered s c reply t
desk_answered s t c reply one e a same = rw e (made_at_desk s t c reply one (a, same))

pub all_answered : {E : Type 0} (s t : State) (c : Command) (called : Result code.Reply E) → is_of_one c ≡ true
    → barred s c ≡ when false VersionsThere → IfOk called (λ r. Answers (desk_of s) c (said_of t.project r) (desk_of t))
    → t.aside ≡ s.aside → IfOk called (λ r. IsAnswered s c (said_of t.project r) t)
all_answered s t c (Ok r) one e a same = desk_answered s t c (said_of t.project r) one e a same
all_answered s t c (Err x) one e a same = tt

-- the classes and the rules change where there is one version
pub alone_there : {A : Type 0} (others : List A) (x : Refusal) → when (not (eqb (length others) 0)) x ≡ None → length others ≡ 0
alone_there others x e = by (eqb (length others) 0) refl e
  where
    by : (b : Bool) → eqb (length others) 0 ≡ b → when (not b) x ≡ None → length others ≡ 0
    by true k e = eqb-true (length others) 0 k
    by false k e = cc

-- ---- one answer
state_same : (t u : State) → desk_of t ≡ desk_of u → t.aside ≡ u.aside → t ≡ u
state_same t u d a =
    ap (λ (x : Desk). record { project = x.project; sessions = x.sessions; aside = t.aside }) d
    ∙ ap (λ (x : Aside). record { project = u.project; sessions = u.sessions; aside = x }) a

ascending : (vs : List Version) → Every (λ (v : Version). IsOrdered v.project) vs
    → Every (λ (v : Version). IsAscending v.project.features) vs
ascending [] h = tt
ascending (v ∷ vs) h = (h.0.features, ascending vs h.1)

tree_same : (t u : State) → tree_of t ≡ tree_of u → t.sessions ≡ u.sessions → t ≡ u
tree_same t u e f =
    let d : desk_of t ≡ desk_of u = ap (λ (p : Project). record { project = p; sessions = t.sessions }) (ap (λ (x : Tree). x.current.project) e)
    ∙ ap (λ (ss : List Session). record { project = u.project; sessions = ss }) f in
    state_same t u d (ap (λ (x : Tree). record { name = x.current.name; base = x.current.base; others = x.others }) e)

one_made : (s t u : State) (c : Command) (reply said : Reply) → is_of_one c ≡ false → OfAll IsOrdered t → OfAll IsOrdered u
    → IsMade s c reply t → IsMade s c said u → (reply ≡ said) × (t ≡ u)
one_made s t u (AVersion n) reply said o v w i j = (
  i.0 ∙ sym j.0,
  tree_same t u (one_create n (tree_of s) (tree_of t) (tree_of u) i.1.tree j.1.tree) (i.1.sessions ∙ sym j.1.sessions),
)
one_made s t u (In n) reply said o v w i j = (
  i.0 ∙ sym j.0,
  tree_same t u (one_go n (tree_of s) (tree_of t) (tree_of u) i.1.tree j.1.tree) (i.1.sessions ∙ sym j.1.sessions),
)
one_made s t u (Reconcile n) reply said o v w i j =
    let one = one_reconcile n i.0 j.0 i.1 j.1 (tree_of s) (tree_of t) (tree_of u) (ascending (all_of (tree_of t)) v)
    (ascending (all_of (tree_of u)) w) i.3.tree j.3.tree in (
      i.2 ∙ (ap (λ (k : ℕ). Merged i.1 k) one.0 ∙ (ap (λ (hs : List ℕ). Merged hs j.0) one.1 ∙ sym j.2)),
      tree_same t u one.2 (i.3.sessions ∙ sym j.3.sessions),
    )
one_made s t u (Post n) reply said o v w (inl i) (inl j) = (
  i.2 ∙ (ap (λ (h : ℕ). Refused (Stale h)) (one_stale n i.0 j.0 (tree_of s) i.1 j.1) ∙ sym j.2),
  i.3 ∙ sym j.3,
)
one_made s t u (Post n) reply said o v w (inl i) (inr j) = absurd (not_both n i.0 j.0 (tree_of s) (tree_of u) i.1 j.2.tree)
one_made s t u (Post n) reply said o v w (inr i) (inl j) = absurd (not_both n j.0 i.0 (tree_of s) (tree_of t) j.1 i.2.tree)
one_made s t u (Post n) reply said o v w (inr i) (inr j) =
    let one = one_posting n i.0 j.0 (tree_of s) (tree_of t) (tree_of u) i.2.tree j.2.tree in (
      i.1 ∙ (ap Posted one.0 ∙ sym j.1),
      tree_same t u one.1 (i.2.sessions ∙ sym j.2.sessions),
    )
one_made s t u Blank reply said o v w i j = cc
one_made s t u (Class n k) reply said o v w i j = cc
one_made s t u (Rule k a d) reply said o v w i j = cc
one_made s t u (DropRule r) reply said o v w i j = cc
one_made s t u (Begin e) reply said o v w i j = cc
one_made s t u (End e) reply said o v w i j = cc
one_made s t u (Discard e) reply said o v w i j = cc
one_made s t u (Add e a x) reply said o v w i j = cc
one_made s t u (Change e h x) reply said o v w i j = cc
one_made s t u (Delete e h) reply said o v w i j = cc
one_made s t u (Retype e h b) reply said o v w i j = cc
one_made s t u (Undo e) reply said o v w i j = cc
one_made s t u (Redo e) reply said o v w i j = cc
one_made s t u (Explode e h) reply said o v w i j = cc
one_made s t u (Snap e r h k to) reply said o v w i j = cc
one_made s t u (Create e r h at) reply said o v w i j = cc
one_made s t u (Move e from to) reply said o v w i j = cc
one_made s t u (Validate b) reply said o v w i j = cc
one_made s t u (Mark r a b) reply said o v w i j = cc
one_made s t u (Unmark r a b) reply said o v w i j = cc
one_made s t u Dirty reply said o v w i j = cc
one_made s t u Errors reply said o v w i j = cc
one_made s t u Cells reply said o v w i j = cc
one_made s t u Features reply said o v w i j = cc
one_made s t u Rules reply said o v w i j = cc
one_made s t u (Corners r a b) reply said o v w i j = cc

pub one_reply : CutsRight poster → (s t u : State) (c : Command) (reply said : Reply) → OfAll IsOrdered t → OfAll IsOrdered u
    → IsAnswered s c reply t → IsAnswered s c said u → (reply ≡ said) × (t ≡ u)
one_reply C s t u c reply said v w d e = by (barred s c) d e
  where
    done : (b : Bool) → is_of_one c ≡ b → IsMade s c reply t → IsMade s c said u → (reply ≡ said) × (t ≡ u)
    done true o i j =
        let a = desk_made s t c reply o i in
        let b = desk_made s u c said o j in
        let one = one_answer C (desk_of s) (desk_of t) (desk_of u) c reply said v.0 w.0 a.0 b.0 in
        (one.0, state_same t u one.1 (a.1 ∙ sym b.1))
    done false o i j = one_made s t u c reply said o v w i j

    by : (o : Option Refusal) → MatchOption o (IsMade s c reply t) (λ r. (reply ≡ Refused r) × (t ≡ s))
        → MatchOption o (IsMade s c said u) (λ r. (said ≡ Refused r) × (u ≡ s)) → (reply ≡ said) × (t ≡ u)
    by (Some r) i j = (i.0 ∙ sym j.0, i.1 ∙ sym j.1)
    by None i j = done (is_of_one c) refl i j
